use Rattle.std.proofs.Common.{◌≡◌, [], sym, ap, ◌∙◌, arith}
use Rattle.walk.proofs.Counts.{recorded-room, recorded-held}
use Rattle.tiles.specs.Tile.{sift}
use Rattle.tiles.specs.View.{seen, shows, shown}
use Rattle.tiles.proofs.Sieves.{sieved-all}
use Rattle.tiles.proofs.Surfaces.{room-nodes_of, held-nodes_of, surface-all}
use Rattle.tiles.proofs.Tallies.{added-as, added_then}
use Rattle.tiles.proofs.view.View.list_surface.Goals as goal

pub list_layer-requires : goal.list_layer-requires
list_layer-requires g c =
    let r = c.args.self.now.recorder.now in
    let s = c.args.surface in
    let ns = c.nodes.result.now in
    let is = c.nodes-nodes.ensures in
    record {
      places = rw is (omega (arith, room-nodes_of s ns, recorded-room r c.nodes.ensures.sound c.nodes.ensures.value, c.nodes.ensures.sound.0.3, c.nodes.ensures.sound.0.4));
      deep = rw is (omega (arith, held-nodes_of s ns, recorded-held r c.nodes.ensures.sound c.nodes.ensures.value, c.nodes.ensures.sound.0.3));
    }

pub returns : goal.returns
returns g c =
    let v = c.args.self.now in
    let w = c.list_layer.ensures.sifted in
    let on = surface-all v.recorder.now c.nodes.ensures.sound c.args.surface c.requires c.nodes.ensures.value c.nodes-nodes.ensures c.owner.ensures w.stretch w.clear c.list_layer.ensures.stopped in
    let box = g.D.Drawable.box_of in
    let all : shown box v c.args.surface ≡ w.shown = ap (λ z. sift (seen box v) (shows v) [] 0 z) on ∙ sieved-all (seen box v) (shows v) w.whole w.shown w.sieved in
    added-as (sym all) (added_then c.new-list.ensures w.added)
