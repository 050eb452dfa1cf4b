-- Rectangles of whole tiles. A tile is 4 pixels wide and 4 high.
use Rattle.std.specs.Prelude.{◌≡◌, ℕ, ◌+◌, ◌-◌, ◌*◌, ◌/◌, ◌%◌, ◌<◌, Bool, cond, ◌||◌, Some, None, Option, nat_lt}
use Rattle.geometry.specs.declared.rect.RectU16.{RectU16}
use Rattle.geometry.specs.Rect.{rect, Within, empty}

-- all four edges lie on tiles' edges
abbrev pub WholeTile : RectU16 → Type 0
WholeTile r = (r.x0 % 4 ≡ 0) × (r.y0 % 4 ≡ 0) × (r.x1 % 4 ≡ 0) × (r.y1 % 4 ≡ 0)

-- all four edges have 16 bits
abbrev pub Fits16 : RectU16 → Type 0
Fits16 r = (r.x0 < 65536) × (r.y0 < 65536) × (r.x1 < 65536) × (r.y1 < 65536)

-- the outer rectangle is of whole tiles and holds the inner one
abbrev pub Around : RectU16 → RectU16 → Type 0
Around inner outer = WholeTile outer × Within inner outer

-- to a multiple of 4, downward and upward
abbrev pub lowered : ℕ → ℕ
lowered n = n - n % 4

abbrev pub raised : ℕ → ℕ
raised n = (n + 3) / 4 * 4

-- a high edge that has no multiple of 4 with 16 bits at or above it
abbrev pub beyond : RectU16 → Bool
beyond r = nat_lt 65532 r.x1 || nat_lt 65532 r.y1

-- the rectangle with its edges moved outward to tiles' edges; absent where a high edge would pass 16 bits
abbrev pub snapped : RectU16 → Option RectU16
snapped r =
    cond (empty r)
    (Some (rect (lowered r.x0) (lowered r.y0) (lowered r.x0) (lowered r.y0)))
    (cond (beyond r) None (Some (rect (lowered r.x0) (lowered r.y0) (raised r.x1) (raised r.y1))))
