use Rattle.ledger.proofs.Reached.{reaches-always, reaches-led}
use Rattle.ledger.proofs.design.Design.recorder.Goals as goal

pub returns-clause-led : goal.returns-clause-led
returns-clause-led g c = λ b w. reaches-always _ _ b _ _ w

pub returns-clause-by_rules : goal.returns-clause-by_rules
returns-clause-by_rules g c = λ b w. reaches-led _ _ b _ _ w
