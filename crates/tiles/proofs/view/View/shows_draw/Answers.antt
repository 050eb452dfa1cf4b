use Rattle.std.proofs.Common.{rules}
use Rattle.tiles.proofs.Shows.{draw_is}
use Rattle.tiles.proofs.view.View.shows_draw.Goals as goal

pub returns : goal.returns
returns g c = draw_is (λ d. g.D.Drawable.box_of d c.args.self.now.strips.now) c.args.self.now.tile c.args.self.now.draws.now c.args.number c.get.result _ c.get.ensures.lookup (search rules)
