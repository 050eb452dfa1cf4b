use Rattle.std.proofs.Common.{sym, ◌∙◌}
use Rattle.layers.specs.Records.{recorded_closed}
use Rattle.record.proofs.Changes.{change-got, change-none}
use Rattle.record.proofs.tree.LayerTable.close.Goals as goal

pub returns-in-Some : goal.returns-in-Some
returns-in-Some c =
    let closed = recorded_closed c.args.closed.now in
    c.set.ensures ∙ rw c.placed_kind-kind.ensures (change-got closed c.args.self.now.records c.args.id c.in-Some.layer (sym c.get.ensures ∙ c.in-Some.is))

pub returns-in_default : goal.returns-in_default
returns-in_default c = change-none (recorded_closed c.args.closed.now) c.args.self.now.records c.args.id (sym c.get.ensures ∙ c.in_default.is)
