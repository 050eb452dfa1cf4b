use Rattle.std.proofs.Common.{ap, ◌∙◌, arith, set}
use Rattle.record.proofs.Changes.{take-set}
use Rattle.record.proofs.table.Table.set.Goals as goal

pub returns-then-place-self : goal.returns-then-place-self
returns-then-place-self g c =
    take-set c.self.inside.count c.self.inside.places c.args.place c.args.element (omega (arith, c.if-place-self.true)) (omega (arith, c.self.invariant))
    ∙ ap (λ xs. set xs c.args.place c.args.element) c.self.view_is
