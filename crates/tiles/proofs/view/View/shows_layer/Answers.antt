use Rattle.std.proofs.Common.{rules}
use Rattle.tiles.proofs.Shows.{layer_is}
use Rattle.tiles.proofs.view.View.shows_layer.Goals as goal

pub returns : goal.returns
returns g c = let e = c.layers.ensures.value in rw (← e) (layer_is c.args.self.now.tile c.layers.result.now c.args.number c.get.result _ c.get.ensures.lookup (search rules))
