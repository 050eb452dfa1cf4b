use Rattle.std.proofs.Common.{rules}
use Rattle.stage.specs.Calls.{recording_call}
use Rattle.stage.proofs.Leads.{line_leads}
use Rattle.stage.proofs.run.make.Goals as goal

pub returns-in_ok-print-in-Reset : goal.returns-in_ok-print-in-Reset
returns-in_ok-print-in-Reset g c = line_leads (recording_call c.args.line.now) c.reset.ensures.leads (search rules)

pub returns-in_err-print-in-Reset : goal.returns-in_err-print-in-Reset
returns-in_err-print-in-Reset g c = line_leads (recording_call c.args.line.now) c.reset.ensures.leads (search rules)

pub returns-in_ok-print-in-Draw-Ok : goal.returns-in_ok-print-in-Draw-Ok
returns-in_ok-print-in-Draw-Ok g c = line_leads (recording_call c.args.line.now) c.draw.ensures.leads (search rules)

pub returns-in_err-print-in-Draw-Ok : goal.returns-in_err-print-in-Draw-Ok
returns-in_err-print-in-Draw-Ok g c = line_leads (recording_call c.args.line.now) c.draw.ensures.leads (search rules)

pub returns-in_ok-print-in-Open : goal.returns-in_ok-print-in-Open
returns-in_ok-print-in-Open g c = line_leads (recording_call c.args.line.now) c.open.ensures.leads (search rules)

pub returns-in_err-print-in-Open : goal.returns-in_err-print-in-Open
returns-in_err-print-in-Open g c = line_leads (recording_call c.args.line.now) c.open.ensures.leads (search rules)

pub returns-in_ok-print-in-Close : goal.returns-in_ok-print-in-Close
returns-in_ok-print-in-Close g c = line_leads (recording_call c.args.line.now) c.close.ensures.leads (search rules)

pub returns-in_err-print-in-Close : goal.returns-in_err-print-in-Close
returns-in_err-print-in-Close g c = line_leads (recording_call c.args.line.now) c.close.ensures.leads (search rules)
