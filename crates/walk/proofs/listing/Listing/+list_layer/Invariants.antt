use Rattle.std.proofs.Common.{length}
use Rattle.walk.specs.Listing.{Walked}
use Rattle.walk.proofs.listing.Listing.+list_layer.Given as goal

abbrev pub decreases-list_layer : goal.decreases-list_layer
decreases-list_layer l = l.depth

abbrev pub invariant-loop-node : goal.invariant-loop-node
invariant-loop-node l = Walked l.owner l.initial.rest l.initial.self l.rest l.self

abbrev pub decreases-loop-node : goal.decreases-loop-node
decreases-loop-node l = length l.rest
