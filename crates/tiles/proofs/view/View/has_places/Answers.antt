use Rattle.std.proofs.Common.{leb, length, ap, sym, arith}
use Rattle.std.proofs.lemmas.Bool.{le-leb}
use Rattle.tiles.specs.View.{seen, shown}
use Rattle.tiles.proofs.Surfaces.{tile_few}
use Rattle.tiles.proofs.Tallies.{all-count}
use Rattle.tiles.proofs.view.View.has_places.Goals as goal

pub returns-then-entry_count-places : goal.returns-then-entry_count-places
returns-then-entry_count-places g c =
    let v = c.args.self.now in
    let s = c.args.surface in
    let box = g.D.Drawable.box_of in
    sym (le-leb (length (shown box v s)) c.args.places (omega (arith, tile_few v.recorder.now s v.tile (seen box v) c.entry_count.ensures.all)))

pub returns : goal.returns
returns g c = ap (λ z. leb z c.args.places) (all-count c.list_surface.ensures)
