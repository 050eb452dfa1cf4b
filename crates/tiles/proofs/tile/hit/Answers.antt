use Rattle.tiles.proofs.Tallies.{top-some, top-any}
use Rattle.tiles.proofs.tile.hit.Goals as goal

pub returns : goal.returns
returns g c =
    let asked = c.in_ok-ask.ensures.0 in
    record { some = (asked, top-some c.list_surface.ensures); none = (asked, top-any c.list_surface.ensures) }
