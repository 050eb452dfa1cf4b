-- The loop over the strips of a run.
use Rattle.std.proofs.Common.{◌≡◌, ℕ, ◌+◌, ◌<◌, List, [], ◌∷◌, ◌++◌, length, take, None, Option, slice_index_or, refl, ap, ◌∙◌}
use Rattle.std.proofs.lemmas.List.{take_more}
use Rattle.geometry.specs.declared.rect.RectU16.{RectU16}
use Rattle.draws.specs.declared.strip.Strip.{Strip}
use Rattle.draws.specs.Strips.{strip_box, joined_to, strips_box, strips_box_from}

-- one strip more at the end
pub strips-push : (b : Option RectU16) (strips : List Strip) (s : Strip) → strips_box_from b (strips ++ (s ∷ [])) ≡ joined_to (strips_box_from b strips) (strip_box s)
strips-push b [] s = refl
strips-push b (x ∷ strips) s = strips-push (joined_to b (strip_box x)) strips s

pub strips-more : (strips : List Strip) (i : ℕ) (d : Strip) → i < length strips → strips_box (take (i + 1) strips) ≡ joined_to (strips_box (take i strips)) (strip_box (slice_index_or strips i d))
strips-more strips i d h = ap strips_box (take_more strips i d h) ∙ strips-push None (take i strips) (slice_index_or strips i d)
