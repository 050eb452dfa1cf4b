-- Which tiles a rectangle covers.
use Rattle.std.specs.Prelude.{ℕ, ◌+◌, ◌*◌, ◌<◌, Bool}
use Rattle.geometry.specs.declared.rect.RectU16.{RectU16}
use Rattle.geometry.specs.declared.tile.Tile.{Tile}
use Rattle.geometry.specs.Rect.{Holds, holds}

-- the rectangle holds the tile's first pixel
abbrev pub covered : Tile → RectU16 → Bool
covered t r = holds r (4 * t.x) (4 * t.y)

-- of the tile's 16 pixels the rectangle holds all, or none
abbrev pub HoldsAll : Tile → RectU16 → Type 0
HoldsAll t r = (x y : ℕ) → x < 4 → y < 4 → Holds r (4 * t.x + x) (4 * t.y + y)

abbrev pub HoldsNone : Tile → RectU16 → Type 0
HoldsNone t r = (x y : ℕ) → x < 4 → y < 4 → Holds r (4 * t.x + x) (4 * t.y + y) → ⊥
