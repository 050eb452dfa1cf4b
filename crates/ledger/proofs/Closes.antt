-- A closing that is not refused gives the innermost open layer its box.
use Rattle.std.proofs.Common.{◌≡◌, ℕ, ◌+◌, ◌≤◌, min, true, false, cond, not, ◌&&◌, ltb, leb, List, [], ◌∷◌, is_some, Some, None, Option, sym, refl, ap, subst, ⊎_elim, arith}
use Rattle.std.proofs.lemmas.Bool.{cases_Bool, and_parts, or_from, leb-true, le-ltb}
use Rattle.refusal.specs.Refusals.{first_no}
use Rattle.geometry.specs.declared.rect.RectU16.{RectU16}
use Rattle.geometry.specs.Rect.{empty}
use Rattle.geometry.specs.Snap.{beyond}
use Rattle.filter.specs.declared.data.FilterData.{FilterData}
use Rattle.filter.specs.Placement.{padded, placed, placed_at, Lies}
use Rattle.filter.proofs.Placements.{padded-full, lies_at}
use Rattle.geometry.proofs.Edges.{ahead, outward, outward-least}
use Rattle.layers.specs.declared.layer.ClosedLayer.{ClosedLayer}
use Rattle.layers.specs.declared.layer.OpenLayer.{OpenLayer}
use Rattle.record.specs.Account.{AccountView, close_questions, closing_of, at_root, innermost_pads}
use Rattle.layers.specs.Opening.{clip_box}
use Rattle.ledger.specs.Ledger.{Opening}
use Rattle.ledger.specs.Sheet.{closed_as, or_nothing, placement_or, LiesBy}
use Rattle.layers.specs.Closing.{closing_by, closed_filter, closed_placed, or_zero, pads_within}

-- a layer that is open and closes
pub record Closes (opened : List OpenLayer) : Type 0 where
  pub layer : OpenLayer
  pub outer : List OpenLayer
  pub result : ClosedLayer
  pub is : opened ≡ layer ∷ outer
  pub gives : closing_of opened ≡ Some result
  pub pads : pads_within layer.filter layer.contents ≡ true

some_of : {X : Type 0} (o : Option X) → is_some o ≡ true → (x : X) × (o ≡ Some x)
some_of None e = absurd (cc)
some_of (Some x) e = (x, refl)

placed-full : (f : FilterData) (c : RectU16) → empty c ≡ false → (leb (c.x1 + f.filter_padding.right) 65532 && leb (c.y1 + f.filter_padding.bottom) 65532) ≡ true
    → (placed c f ≡ Some (placed_at f (outward (padded c f)))) × Lies c f (placed_at f (outward (padded c f)))
placed-full f c full e =
    let parts = and_parts (leb (c.x1 + f.filter_padding.right) 65532) (leb (c.y1 + f.filter_padding.bottom) 65532) e in
    let right = leb-true (c.x1 + f.filter_padding.right) 65532 parts.0 in
    let low = leb-true (c.y1 + f.filter_padding.bottom) 65532 parts.1 in
    let wide = padded-full c f (omega arith) (omega arith) full in
    let x : min (c.x1 + f.filter_padding.right) 65535 ≤ 65532 = omega arith in
    let y : min (c.y1 + f.filter_padding.bottom) 65535 ≤ 65532 = omega arith in
    let in-range : beyond (padded c f) ≡ false = or_from (ltb 65532 (padded c f).x1) (ltb 65532 (padded c f).y1) (le-ltb 65532 (padded c f).x1 x) (le-ltb 65532 (padded c f).y1 y) in (
      rw (full, wide, in-range),
      lies_at c f (outward (padded c f)) (outward-least (padded c f) (ahead (padded c f) wide)),
    )

placed-some : (f : FilterData) (contents : Option RectU16) → pads_within (Some f) contents ≡ true → is_some (placed (or_zero contents) f) ≡ true
placed-some f None e = refl
placed-some f (Some c) e =
    ⊎_elim (λ (n : empty c ≡ true). rw n refl) (λ (n : empty c ≡ false). ap is_some (placed-full f c n (rw n at e)).0) (cases_Bool (empty c))

closing-some : (f : Option FilterData) (clip contents : Option RectU16) → pads_within f contents ≡ true → (k : ClosedLayer) × (closing_by f clip contents ≡ Some k)
closing-some None clip contents e = (_, refl)
closing-some (Some f) clip contents e = let p = some_of (placed (or_zero contents) f) (placed-some f contents e) in (closed_filter p.0, ap closed_placed p.1)

pub closes : (a : AccountView) → first_no (close_questions a) ≡ None → Closes a.opened
closes a e = go a.opened e
  where
    go : (opened : List OpenLayer) → cond {A = Option ℕ} (not (at_root opened)) (cond (innermost_pads opened) None (Some 9)) (Some 8) ≡ None → Closes opened
    go [] n = absurd (cc)
    go (o ∷ outer) n =
        ⊎_elim
        (λ (t : pads_within o.filter o.contents ≡ true). let k = closing-some o.filter o.clip o.contents t in record { layer = o; outer = outer; result = k.0; is = refl; gives = k.1; pads = t })
        (λ (t : pads_within o.filter o.contents ≡ false). let m : cond {A = Option ℕ} (pads_within o.filter o.contents) None (Some 9) ≡ Some 9 = rw t refl in absurd (cc))
        (cases_Bool (pads_within o.filter o.contents))

-- the destination of a filter layer that closes
pub closed-lies : (o : Opening) (c : Option RectU16) → pads_within o.filter c ≡ true → LiesBy o.filter c (closed_as o c)
closed-lies o c e = go o.filter c e
  where
    go : (f : Option FilterData) (c' : Option RectU16) → pads_within f c' ≡ true → LiesBy f c' (or_nothing (closing_by f (clip_box o.props.clip_path) c'))
    go None c' p = tt
    go (Some f) None p = tt
    go (Some f) (Some b) p = λ full. let q = placed-full f b full (rw full at p) in subst (λ z. Lies b f (placement_or (or_nothing (closed_placed z)).placement)) (sym q.0) q.1
