use Rattle.ledger.proofs.Reached.{lists-all}
use Rattle.ledger.proofs.design.Design.full_walk.Goals as goal

pub returns-clause-law : goal.returns-clause-law
returns-clause-law g c = λ b w. lists-all _ _ b _ _ w c.full_walk.result c.args.out.now c.full_walk.new.out c.full_walk.ensures
