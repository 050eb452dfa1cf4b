use Rattle.std.proofs.Common.{rules}
use Rattle.tiles.proofs.Shows.{filter_is}
use Rattle.tiles.proofs.surface.is_filter.Goals as goal

pub returns : goal.returns
returns c = filter_is c.args.layers.now c.args.number c.get-layer.result _ c.get-layer.ensures.lookup (search rules)
