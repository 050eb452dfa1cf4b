use Rattle.std.proofs.Common.{◌-◌, length, refl, ap, ◌∙◌, arith}
use Rattle.walk.specs.Walk.{own_draws}
use Rattle.walk.proofs.Listings.{length-poured}
use Rattle.walk.proofs.Walks.{length-spanned}
use Rattle.walk.proofs.listing.Listing.push_draws.Goals as goal

pub returns : goal.returns
returns c =
    let node = c.args.node.now in
    let before = c.args.self.now in
    let wrote = c.write_draws-self.ensures in
    record { same = refl; count = omega (arith, length-spanned node.start (node.end - node.start), wrote.next); places = wrote.places; long = ap length wrote.places ∙ length-poured before.count (own_draws node) before.out.now }
