use Rattle.std.proofs.Common.{length}
use Rattle.tiles.specs.TileSteps.{Sifted}
use Rattle.tiles.specs.View.{seen, shows}
use Rattle.tiles.proofs.view.View.+list_layer.Given as goal

abbrev pub decreases-list_layer : goal.decreases-list_layer
decreases-list_layer g l = l.depth

abbrev pub invariant-loop-node : goal.invariant-loop-node
invariant-loop-node g l = Sifted (seen g.D.Drawable.box_of l.self) (shows l.self) l.owner l.initial.rest l.initial.list l.rest l.list

abbrev pub decreases-loop-node : goal.decreases-loop-node
decreases-loop-node g l = length l.rest
