use Rattle.std.proofs.Common.{length}
use Rattle.tiles.specs.TileSteps.{Passed}
use Rattle.tiles.proofs.view.+pass_layer.Given as goal

abbrev pub decreases-pass_layer : goal.decreases-pass_layer
decreases-pass_layer l = l.depth

abbrev pub invariant-loop-node : goal.invariant-loop-node
invariant-loop-node l = Passed l.owner l.initial.rest l.rest

abbrev pub decreases-loop-node : goal.decreases-loop-node
decreases-loop-node l = length l.rest
