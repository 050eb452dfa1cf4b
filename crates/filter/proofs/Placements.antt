-- What a placement made of a pixmap box means.
use Rattle.std.proofs.Common.{◌≡◌, ℕ, ◌-◌, ◌<◌, false, leb, ap, ◌∙◌, arith}
use Rattle.std.proofs.lemmas.Bool.{or_parts, or_from, leb-false, lt-leb}
use Rattle.geometry.specs.declared.rect.RectU16.{RectU16}
use Rattle.geometry.specs.Rect.{Least, empty, relative}
use Rattle.geometry.specs.Snap.{Around}
use Rattle.filter.specs.declared.data.FilterData.{FilterData}
use Rattle.filter.specs.Placement.{shift_x, shift_y, padded, placed_at, Lies}

-- padding leaves a rectangle that is not empty so
pub padded-full : (contents : RectU16) (f : FilterData) → contents.x1 < 65536 → contents.y1 < 65536 → empty contents ≡ false → empty (padded contents f) ≡ false
padded-full r f hx hy e =
    let p = or_parts (leb r.x1 r.x0) (leb r.y1 r.y0) e in
    let ax = leb-false r.x1 r.x0 p.0 in
    let ay = leb-false r.y1 r.y0 p.1 in
    let q = padded r f in
    or_from (leb q.x1 q.x0) (leb q.y1 q.y0) (lt-leb q.x1 q.x0 (omega arith)) (lt-leb q.y1 q.y0 (omega arith))

pub lies_at : (contents : RectU16) (f : FilterData) (r : RectU16) → Least (Around (padded contents f)) r → Lies contents f (placed_at f r)
lies_at contents f r l =
    record {
      pixmap = l;
      points = λ x y. (λ h. (omega arith, omega arith, omega arith, omega arith), λ h. (omega arith, omega arith, omega arith, omega arith));
    }

-- a placement by its parts
pub made_at : (f : FilterData) (r d : RectU16) (x y : ℕ) (s : ℕ × ℕ) → s ≡ (shift_x f, shift_y f) → d ≡ relative r s.0 s.1 → x ≡ s.0 - r.x0 → y ≡ s.1 - r.y0
    → record { pixmap_bbox = r; dest_bbox = d; src_x = x; src_y = y } ≡ placed_at f r
made_at f r d x y s e p q h =
    let dest : d ≡ relative r (shift_x f) (shift_y f) = p ∙ ap (λ t. relative r t.0 t.1) e in
    let left : x ≡ shift_x f - r.x0 = q ∙ ap (λ t. t.0 - r.x0) e in
    let top : y ≡ shift_y f - r.y0 = h ∙ ap (λ t. t.1 - r.y0) e in
    rw (dest, left, top)
