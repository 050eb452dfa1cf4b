use Rattle.std.proofs.Common.{◌≡◌, ◌+◌, ◌-◌, ◌≤◌, length}
use Rattle.walk.specs.Listing.{poured}
use Rattle.walk.specs.Walk.{spanned}
use Rattle.walk.proofs.listing.write_draws.Given as goal

abbrev pub invariant-loop-number : goal.invariant-loop-number
invariant-loop-number l =
    (l.number - l.start ≤ l.end - l.start)
    × (l.place ≡ l.at + (l.number - l.start))
    × (l.out ≡ poured l.at (spanned l.start (l.number - l.start)) l.initial.out)
    × (length l.out ≡ length l.initial.out)
