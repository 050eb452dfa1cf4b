use Rattle.stage.proofs.Leads.{refused_leads}
use Rattle.stage.proofs.stage.Stage.close.Goals as goal

pub returns-in_err-kind-clause-leads : goal.returns-in_err-kind-clause-leads
returns-in_err-kind-clause-leads g c = refused_leads c.make.result c.from_residual-in_err-kind.result c.in_err-kind.was c.from_residual-in_err-kind.ensures.0 c.make.ensures.leads
