-- What a rectangle holds, and the operations on rectangles.
use Rattle.std.specs.Prelude.{ℕ, suc, ◌+◌, ◌-◌, ◌<◌, ◌≤◌, min, max, Bool, ◌&&◌, ◌||◌, ℤ, pos, negsuc, nat_le, nat_lt}
use Rattle.geometry.specs.declared.padding.PaddingU16.{PaddingU16}
use Rattle.geometry.specs.declared.rect.RectU16.{RectU16}

-- each follows from the other
abbrev pub Iff : Type 0 → Type 0 → Type 0
Iff A B = (A → B) × (B → A)

-- the rectangle with these edges
abbrev pub rect : ℕ → ℕ → ℕ → ℕ → RectU16
rect a b c d = record { x0 = a; y0 = b; x1 = c; y1 = d }

-- the rectangle with all edges at zero
abbrev pub zero : RectU16
zero = rect 0 0 0 0

-- the rectangle holds the point (x, y)
abbrev pub Holds : RectU16 → ℕ → ℕ → Type 0
Holds r x y = (r.x0 ≤ x) × (x < r.x1) × (r.y0 ≤ y) × (y < r.y1)

-- the same as a test
abbrev pub holds : RectU16 → ℕ → ℕ → Bool
holds r x y = nat_le r.x0 x && nat_lt x r.x1 && nat_le r.y0 y && nat_lt y r.y1

-- every point of the inner rectangle is one of the outer
abbrev pub Within : RectU16 → RectU16 → Type 0
Within inner outer = (x y : ℕ) → Holds inner x y → Holds outer x y

-- the smallest rectangle with a property: every other one with it holds this one
abbrev pub Least : (RectU16 → Type 0) → RectU16 → Type 0
Least P r = P r × ((other : RectU16) → P other → Within r other)

-- the rectangle holds no point
abbrev pub empty : RectU16 → Bool
empty r = nat_le r.x1 r.x0 || nat_le r.y1 r.y0

-- the union of two rectangles
abbrev pub joined : RectU16 → RectU16 → RectU16
joined a b = rect (min a.x0 b.x0) (min a.y0 b.y0) (max a.x1 b.x1) (max a.y1 b.y1)

-- the larger low edges and the smaller high edges, a high edge raised to its low one where it would fall below
abbrev pub intersection : RectU16 → RectU16 → RectU16
intersection a b =
    rect (max a.x0 b.x0) (max a.y0 b.y0)
    (max (min a.x1 b.x1) (max a.x0 b.x0))
    (max (min a.y1 b.y1) (max a.y0 b.y0))

-- each edge moved outward by its side's padding, no further than 0 and 65,535
abbrev pub expanded : RectU16 → PaddingU16 → RectU16
expanded r p = rect (r.x0 - p.left) (r.y0 - p.top) (min (r.x1 + p.right) 65535) (min (r.y1 + p.bottom) 65535)

-- an edge moved by a signed number, no further than 0 and 65,535
abbrev pub moved : ℕ → ℤ → ℕ
moved edge (pos n) = min (edge + n) 65535
moved edge (negsuc n) = edge - suc n

-- every edge moved
abbrev pub shifted : RectU16 → ℤ → ℤ → RectU16
shifted r x y = rect (moved r.x0 x) (moved r.y0 y) (moved r.x1 x) (moved r.y1 y)

-- the rectangle as seen from the origin (x, y), what lies before it cut off
abbrev pub relative : RectU16 → ℕ → ℕ → RectU16
relative r x y = rect (r.x0 - x) (r.y0 - y) (r.x1 - x) (r.y1 - y)
