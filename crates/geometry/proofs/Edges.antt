-- What a rectangle with a point says of its edges, and of the edges of a rectangle around it.
use Rattle.std.proofs.Common.{◌≡◌, ℕ, ◌+◌, ◌-◌, ◌%◌, ◌<◌, ◌≤◌, false, leb, arith}
use Rattle.std.proofs.lemmas.Bool.{or_parts, leb-false}
use Rattle.geometry.specs.declared.rect.RectU16.{RectU16}
use Rattle.geometry.specs.Rect.{rect, Within, Least, empty, joined}
use Rattle.geometry.specs.Snap.{WholeTile, Around, lowered, raised}

-- the first multiple of 4 from n on
pub next-raised : (n m : ℕ) → n ≤ m → m < n + 4 → m % 4 ≡ 0 → m ≡ raised n
next-raised n m low high whole = omega arith

-- a rectangle that is not empty, by its edges
abbrev pub Ahead : RectU16 → Type 0
Ahead r = (r.x0 < r.x1) × (r.y0 < r.y1)

pub ahead : (r : RectU16) → empty r ≡ false → Ahead r
ahead r e =
    let p = or_parts (leb r.x1 r.x0) (leb r.y1 r.y0) e in
    (leb-false r.x1 r.x0 p.0, leb-false r.y1 r.y0 p.1)

-- the inner rectangle's edges lie between the outer one's
abbrev pub Between : RectU16 → RectU16 → Type 0
Between inner outer = (outer.x0 ≤ inner.x0) × (inner.x1 ≤ outer.x1) × (outer.y0 ≤ inner.y0) × (inner.y1 ≤ outer.y1)

pub between : (inner outer : RectU16) → Ahead inner → Within inner outer → Between inner outer
between inner outer a w =
    let first = w inner.x0 inner.y0 (omega arith, omega arith, omega arith, omega arith) in
    let last = w (inner.x1 - 1) (inner.y1 - 1) (omega arith, omega arith, omega arith, omega arith) in
    (omega arith, omega arith, omega arith, omega arith)

pub within : (inner outer : RectU16) → Between inner outer → Within inner outer
within inner outer b x y h = (omega arith, omega arith, omega arith, omega arith)

pub joined-least : (a b : RectU16) → Ahead a → Ahead b → Least (λ h. Within a h × Within b h) (joined a b)
joined-least a b p q = (
  (within a (joined a b) (omega arith, omega arith, omega arith, omega arith), within b (joined a b) (omega arith, omega arith, omega arith, omega arith)),
  λ other w.
      let l = between a other p w.0 in
      let r = between b other q w.1 in
      within (joined a b) other (omega arith, omega arith, omega arith, omega arith),
)

-- a multiple of 4 at or below n lies at or below n lowered, and likewise upward
lowered-least : (m n : ℕ) → m % 4 ≡ 0 → m ≤ n → m ≤ lowered n
lowered-least m n e h = omega arith

raised-least : (m n : ℕ) → m % 4 ≡ 0 → n ≤ m → raised n ≤ m
raised-least m n e h = omega arith

-- the edges moved outward to tiles' edges
abbrev pub outward : RectU16 → RectU16
outward r = rect (lowered r.x0) (lowered r.y0) (raised r.x1) (raised r.y1)

pub outward-whole : (r : RectU16) → WholeTile (outward r)
outward-whole r = (omega arith, omega arith, omega arith, omega arith)

pub outward-least : (r : RectU16) → Ahead r → Least (Around r) (outward r)
outward-least r p = (
  (outward-whole r, within r (outward r) (omega arith, omega arith, omega arith, omega arith)),
  λ other w.
      let e = w.0 in
      let b = between r other p w.1 in
      within (outward r) other (
        lowered-least other.x0 r.x0 e.0 b.0,
        raised-least other.x1 r.x1 e.2 b.1,
        lowered-least other.y0 r.y0 e.1 b.2,
        raised-least other.y1 r.y1 e.3 b.3,
      ),
)
