use Rattle.std.proofs.Common.{◌≡◌, ◌+◌, ◌-◌, ◌≤◌, [], ◌∷◌, length, set, sym, ap₂, ◌∙◌, arith, length-set}
use Rattle.walk.specs.declared.listed.Listed.TheVariants.{Draw}
use Rattle.walk.specs.Walk.{spanned}
use Rattle.walk.proofs.Listings.{poured-then}
use Rattle.walk.proofs.Walks.{length-spanned, spanned_more}
use Rattle.walk.proofs.listing.write_draws.Goals as goal

pub loop-number-preserved : goal.loop-number-preserved
loop-number-preserved c =
    let n = c.loop-number.number in
    let a = c.args.start in
    let inv = c.loop-number.invariant in
    let le : a ≤ n = omega arith in
    let drawn = spanned a (n - a) in
    let at : c.loop-number.place ≡ c.args.at + length drawn = omega (arith, length-spanned a (n - a), inv.1) in
    let written = ap₂ (λ out place. set out place (Draw n)) inv.2 at ∙ sym (poured-then c.args.at drawn (Draw n ∷ []) c.args.out.now) in
    (omega arith, omega arith, rw (spanned_more a n le) written, length-set c.loop-number.out c.loop-number.place (Draw n) ∙ inv.3)
