-- The boxes of strips.
use Rattle.std.specs.Prelude.{ℕ, ◌+◌, ◌-◌, cond, List, [], ◌∷◌, take, drop, Some, None, Option, ◌==◌}
use Rattle.geometry.specs.declared.rect.RectU16.{RectU16}
use Rattle.geometry.specs.Rect.{rect, joined}
use Rattle.geometry.specs.Snap.{snapped, WholeTile}
use Rattle.draws.specs.declared.strip.Strip.{Strip}

-- the box of one strip; none for a strip without width, or one whose edges pass 65,532
abbrev pub strip_box : Strip → Option RectU16
strip_box s = cond (s.width == 0) None (snapped (rect s.x s.y (s.x + s.width) (s.y + 4)))

-- the union of two boxes, of which either may be absent
abbrev pub joined_to : Option RectU16 → Option RectU16 → Option RectU16
joined_to None b = b
joined_to (Some a) None = Some a
joined_to (Some a) (Some b) = Some (joined a b)

-- the union of a box so far and those of the strips, one after another
abbrev pub strips_box_from : Option RectU16 → List Strip → Option RectU16
strips_box_from b [] = b
strips_box_from b (s ∷ strips) = strips_box_from (joined_to b (strip_box s)) strips

-- the box of a list of strips
abbrev pub strips_box : List Strip → Option RectU16
strips_box strips = strips_box_from None strips

-- the strips from place `start` up to, and without, place `end`, as far as there are any
abbrev pub part : ℕ → ℕ → List Strip → List Strip
part start end strips = take (end - start) (drop start strips)

-- a box that is there is of whole tiles
abbrev pub BoxOnTiles : Option RectU16 → Type 0
BoxOnTiles None = Unit {0}
BoxOnTiles (Some b) = WholeTile b
