-- A turn goes by the next node and the three steps of `Tiles`.
use Rattle.std.proofs.Common.{◌≤◌, sym, refl, arith}
use Rattle.tiles.specs.declared.showing.Showing.TheVariants.{Placed, Hidden}
use Rattle.walk.proofs.Walks.{layer_held}
use Rattle.tiles.proofs.Tallies.{added_none}
use Rattle.tiles.proofs.Tiles.{sifted-then, sifted-rooms, layer-rooms, sifted-draws, sifted-through, sifted-over}
use Rattle.tiles.proofs.view.View.+list_layer.Goals as goal

pub push-requires : goal.push-requires
push-requires g t c = omega (arith, layer-rooms c.loop-node.invariant c.in-Some.ensures c.list_draws.ensures c.in-Some-layer.is)

pub list_layer-rest-requires : goal.list_layer-rest-requires
list_layer-rest-requires g t c κs within =
    let rooms = layer-rooms c.loop-node.invariant c.in-Some.ensures c.list_draws.ensures c.in-Some-layer.is in
    let held = layer_held c.in-Some.ensures c.in-Some-layer.is in
    let d : 1 ≤ c.args.depth = omega (arith, c.loop-node.invariant.stretch.fewer) in
    (omega arith, (within, (omega (arith, c.push.ensures.count), omega (arith, c.loop-node.invariant.stretch.fewer))))

pub push-requires-in-Through : goal.push-requires-in-Through
push-requires-in-Through g t c =
    omega (arith, layer-rooms c.loop-node.invariant c.in-Some.ensures c.list_draws.ensures c.in-Some-layer.is, c.push.ensures.count, sifted-rooms c.list_layer-rest.ensures.sifted)

pub push-requires-in-Placed : goal.push-requires-in-Placed
push-requires-in-Placed g t c = omega (arith, layer-rooms c.loop-node.invariant c.in-Some.ensures c.list_draws.ensures c.in-Some-layer.is)

pub loop-node-preserved-in-Through : goal.loop-node-preserved-in-Through
loop-node-preserved-in-Through g t c =
    sifted-then c.loop-node.invariant
    (sifted-through c.in-Some.ensures c.list_draws.ensures c.in-Some-layer.is (sym c.in-Through.ensures) c.push.ensures c.list_layer-rest.ensures.sifted c.list_layer-rest.ensures.stopped c.push-in-Through.ensures)

pub loop-node-preserved-in-Placed : goal.loop-node-preserved-in-Placed
loop-node-preserved-in-Placed g t c =
    sifted-then c.loop-node.invariant
    (sifted-over c.in-Some.ensures c.list_draws.ensures Placed c.in-Some-layer.is (sym c.in-Placed.ensures) refl c.push-in-Placed.ensures c.pass_layer-rest.ensures.passed c.pass_layer-rest.ensures.stopped)

pub loop-node-preserved-in-Hidden : goal.loop-node-preserved-in-Hidden
loop-node-preserved-in-Hidden g t c =
    sifted-then c.loop-node.invariant
    (sifted-over c.in-Some.ensures c.list_draws.ensures Hidden c.in-Some-layer.is (sym c.in-Hidden.ensures) refl (added_none _) c.pass_layer-rest-in-Hidden.ensures.passed c.pass_layer-rest-in-Hidden.ensures.stopped)

pub loop-node-preserved : goal.loop-node-preserved
loop-node-preserved g t c = sifted-then c.loop-node.invariant (sifted-draws c.in-Some.ensures c.list_draws.ensures c.in_default-layer.is)
