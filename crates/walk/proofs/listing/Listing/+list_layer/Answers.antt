-- A turn goes by the next node and the two steps of `Listings`.
use Rattle.walk.proofs.Listings.{walked_then, walked-draws, walked-layer}
use Rattle.walk.proofs.listing.Listing.+list_layer.Goals as goal

pub loop-node-preserved-in-Some-layer : goal.loop-node-preserved-in-Some-layer
loop-node-preserved-in-Some-layer t c =
    walked_then c.loop-node.invariant
    (walked-layer c.in-Some.ensures c.push_draws.ensures c.in-Some-layer.is c.push.ensures c.list_layer-rest.ensures.walked c.list_layer-rest.ensures.stopped c.push-in-Some-layer.ensures)

pub loop-node-preserved : goal.loop-node-preserved
loop-node-preserved t c = walked_then c.loop-node.invariant (walked-draws c.in-Some.ensures c.push_draws.ensures c.in_default-layer.is)
