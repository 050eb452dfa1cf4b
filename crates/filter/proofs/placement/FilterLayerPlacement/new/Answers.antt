use Rattle.std.proofs.Common.{◌≡◌, false, sym, ◌∙◌, subst, arith}
use Rattle.geometry.specs.Rect.{empty, Least}
use Rattle.geometry.specs.Snap.{Around}
use Rattle.filter.specs.Placement.{padded, Lies}
use Rattle.filter.proofs.Placements.{padded-full, lies_at, made_at}
use Rattle.filter.proofs.placement.FilterLayerPlacement.new.Goals as goal

pub returns-in_err-pixmap_bbox-clause-lies : goal.returns-in_err-pixmap_bbox-clause-lies
returns-in_err-pixmap_bbox-clause-lies c =
    let b = c.args.bbox in
    let f = c.args.filter_data.now in
    let full : empty b ≡ false = sym c.is_empty.ensures.value ∙ c.if-is_empty.false in
    let wide = padded-full b f (omega arith) (omega arith) full in
    rw c.from_residual.ensures (λ _. (rw c.expand-padded.ensures at c.in_err-pixmap_bbox.ensures.least) wide)

pub returns-clause-lies : goal.returns-clause-lies
returns-clause-lies c =
    let b = c.args.bbox in
    let f = c.args.filter_data.now in
    let r = c.in_ok-pixmap_bbox.pixmap_bbox in
    let full : empty b ≡ false = sym c.is_empty.ensures.value ∙ c.if-is_empty.false in
    let wide = padded-full b f (omega arith) (omega arith) full in
    let least : Least (Around (padded b f)) r = (rw c.expand-padded.ensures at c.in_ok-pixmap_bbox.ensures.least) wide in
    let made = made_at f r c.relative_to_origin.result c.saturating_sub.result c.saturating_sub-2.result c.source_shift-shift_x.result c.source_shift-shift_x.ensures c.relative_to_origin.ensures.value c.saturating_sub.ensures c.saturating_sub-2.ensures in
    λ _. subst (λ p. Lies b f p) (sym made) (lies_at b f r least)
