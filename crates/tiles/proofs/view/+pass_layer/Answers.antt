use Rattle.tiles.proofs.Tiles.{passed_then, passed-draws, passed-layer}
use Rattle.tiles.proofs.view.+pass_layer.Goals as goal

pub loop-node-preserved-in-Some-layer : goal.loop-node-preserved-in-Some-layer
loop-node-preserved-in-Some-layer t c = passed_then c.loop-node.invariant (passed-layer c.in-Some.ensures c.in-Some-layer.is c.pass_layer-rest.ensures.passed c.pass_layer-rest.ensures.stopped)

pub loop-node-preserved : goal.loop-node-preserved
loop-node-preserved t c = passed_then c.loop-node.invariant (passed-draws c.in-Some.ensures c.in_default-layer.is)
