use Rattle.stage.proofs.Leads.{refused_leads}
use Rattle.stage.proofs.stage.Stage.draw.Goals as goal

pub returns-in_err-number-clause-leads : goal.returns-in_err-number-clause-leads
returns-in_err-number-clause-leads g c = refused_leads c.make.result c.from_residual.result c.in_err-number.was c.from_residual.ensures.0 c.make.ensures.leads
