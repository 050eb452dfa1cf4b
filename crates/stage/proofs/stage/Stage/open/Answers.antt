use Rattle.stage.proofs.Leads.{refused_leads}
use Rattle.stage.proofs.stage.Stage.open.Goals as goal

pub returns-in_err-layer-clause-leads : goal.returns-in_err-layer-clause-leads
returns-in_err-layer-clause-leads g c = refused_leads c.make.result c.from_residual.result c.in_err-layer.was c.from_residual.ensures.0 c.make.ensures.leads
