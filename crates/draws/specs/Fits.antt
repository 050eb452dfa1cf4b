-- Which rectangles can be filled.
use Rattle.std.specs.Prelude.{Bool, not, ◌||◌}
use Rattle.geometry.specs.declared.rect.RectU16.{RectU16}
use Rattle.geometry.specs.Rect.{empty}
use Rattle.geometry.specs.Snap.{beyond}

-- the rectangle is empty, or both high edges are at most 65,532
abbrev pub fits : RectU16 → Bool
fits r = empty r || not (beyond r)
