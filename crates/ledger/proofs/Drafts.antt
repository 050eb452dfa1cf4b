-- The entries of a sheet have that sheet for their nesting, and no other.
use Rattle.std.proofs.Common.{◌≡◌, ℕ, List, [], ◌∷◌, ◌++◌, sym, refl, ap, ◌∙◌, append_assoc}
use Rattle.std.proofs.lemmas.List.{append-nil}
use Rattle.ledger.specs.Ledger.{Opening, Entry, Leave}
use Rattle.ledger.specs.Sheet.{Sheet, end, draw, layer, joined, entries}
use Rattle.ledger.specs.Draft.{Frame, frame, Draft, stepped, draft_from, draft_of}

module _ {D : Type 0} where
  pub draft-push : (w : Draft D) (es : List (Entry D)) (e : Entry D) → draft_from w (es ++ (e ∷ [])) ≡ stepped (draft_from w es) e
  draft-push w [] e = refl
  draft-push w (x ∷ es) e = draft-push (stepped w x) es e

  joined_end : (x : Sheet D) → joined x end ≡ x
  unfolding joined
  joined_end end = refl
  joined_end (draw n d rest) = ap (draw n d) (joined_end rest)
  joined_end (layer n o inside rest) = ap (layer n o inside) (joined_end rest)

  end-joined : (x : Sheet D) → joined end x ≡ x
  unfolding joined
  end-joined x = refl

  draw-joined : (n : ℕ) (d : D) (s x : Sheet D) → joined (joined s (draw n d end)) x ≡ joined s (draw n d x)
  unfolding joined
  draw-joined n d end x = refl
  draw-joined n d (draw m e rest) x = ap (draw m e) (draw-joined n d rest x)
  draw-joined n d (layer m o inside rest) x = ap (layer m o inside) (draw-joined n d rest x)

  layer-joined : (n : ℕ) (o : Opening) (i s x : Sheet D) → joined (joined s (layer n o i end)) x ≡ joined s (layer n o i x)
  unfolding joined
  layer-joined n o i end x = refl
  layer-joined n o i (draw m e rest) x = ap (draw m e) (layer-joined n o i rest x)
  layer-joined n o i (layer m p inside rest) x = ap (layer m p inside) (layer-joined n o i rest x)

  abbrev at : List (Frame D) → Sheet D → Draft D
  at fs s = record { frames = fs; sheet = s }

  draft-entries : (fs : List (Frame D)) (s x : Sheet D) (es : List (Entry D)) → draft_from (at fs s) (entries x ++ es) ≡ draft_from (at fs (joined s x)) es
  draft-entries fs s end es = ap (λ z. draft_from (at fs z) es) (sym (joined_end s))
  draft-entries fs s (draw n d rest) es = draft-entries fs (joined s (draw n d end)) rest es ∙ ap (λ z. draft_from (at fs z) es) (draw-joined n d s rest)
  draft-entries fs s (layer n o inside rest) es =
      ap (λ z. draft_from (at (frame s n o ∷ fs) end) z) (append_assoc (entries inside) (Leave n ∷ entries rest) es)
      ∙ draft-entries (frame s n o ∷ fs) end inside (Leave n ∷ (entries rest ++ es))
      ∙ ap (λ z. draft_from (at fs (joined s (layer n o z end))) (entries rest ++ es)) (end-joined inside)
      ∙ draft-entries fs (joined s (layer n o inside end)) rest es
      ∙ ap (λ z. draft_from (at fs z) es) (layer-joined n o inside s rest)

  pub draft-sheet : (x : Sheet D) → draft_of (entries x) ≡ at [] x
  draft-sheet x =
      ap draft_of (sym (append-nil (entries x))) ∙ draft-entries [] end x [] ∙ ap (at []) (end-joined x)
