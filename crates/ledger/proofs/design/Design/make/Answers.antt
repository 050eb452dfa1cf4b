use Rattle.std.proofs.Common.{◌≡◌, length, vec_len, refl, ◌∙◌}
use Rattle.std.proofs.lemmas.List.{with_items_is}
use Rattle.ledger.specs.Reached.{called}
use Rattle.ledger.proofs.Reached.{accepted-is}
use Rattle.ledger.proofs.design.Design.make.Goals as goal

-- the draw list has as many places as the slice of it that was lent
pub returns : goal.returns
returns g c =
    let x = c.args.self.now in
    let m = c.make_call.ensures.made in
    let lent = c.as_mut_slice.ensures in
    let long : length c.make_call.new.draws ≡ vec_len x.draws = c.make_call.auto.draws ∙ lent.len in
    let made = rw (lent.value, ← with_items_is x.draws c.make_call.new.draws long) at m in
    let asked = accepted-is c.args.call (vec_len x.draws) x.recorder c.make_call.result (rw lent.len at m.answered) in
    record { made = made; kept = c.make_call.ensures.kept; leads = record { asked = asked; strips = refl; ledgers = λ b w. called _ _ b _ _ _ _ made w } }
