use Rattle.ledger.specs.Reached.{begun}
use Rattle.ledger.proofs.design.Design.new.Goals as goal

pub returns-clause-begun : goal.returns-clause-begun
returns-clause-begun g c = rw c.new-recorder.ensures (begun _)
