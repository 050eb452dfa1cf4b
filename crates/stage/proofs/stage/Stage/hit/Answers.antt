use Rattle.std.proofs.Common.{is_some, vec_items, sym, ap, ◌∙◌, arith}
use Rattle.std.proofs.lemmas.Option.{MatchOption-at_some}
use Rattle.stage.proofs.Listings.{hit_place, line_at}
use Rattle.stage.proofs.stage.Stage.hit.Goals as goal

pub returns-in_default : goal.returns-in_default
returns-in_default g c =
    let (asked, any) = c.in_ok-number.ensures.none in
    (asked, sym any ∙ ap is_some c.in_default.is)

-- the draw that was hit stands in the tile's list, and so in the draw list
pub offset_bounds-draws-number : goal.offset_bounds-draws-number
offset_bounds-draws-number g c = let below = hit_place (λ d. g.D.Drawable.box_of d.draw) c.args.self.now.design c.args.tile c.in-Some.is c.in_ok-number.ensures.some.1 c.draws.ensures in omega arith

pub bounds-draws-number : goal.bounds-draws-number
bounds-draws-number g c = hit_place (λ d. g.D.Drawable.box_of d.draw) c.args.self.now.design c.args.tile c.in-Some.is c.in_ok-number.ensures.some.1 c.draws.ensures

pub bounds-draws-number-in-Some : goal.bounds-draws-number-in-Some
bounds-draws-number-in-Some g c = hit_place (λ d. g.D.Drawable.box_of d.draw) c.args.self.now.design c.args.tile c.in-Some.is c.in_ok-number.ensures.some.1 c.draws.ensures

pub returns : goal.returns
returns g c =
    let (asked, some) = c.in_ok-number.ensures.some in
    let below = hit_place (λ d. g.D.Drawable.box_of d.draw) c.args.self.now.design c.args.tile c.in-Some.is some c.draws.ensures in
    (asked, (MatchOption-at_some _ _ _ c.in-Some.is some, line_at c.draws.result.now (vec_items c.args.self.now.design.draws) c.in-Some.number _ c.draws.ensures below))
