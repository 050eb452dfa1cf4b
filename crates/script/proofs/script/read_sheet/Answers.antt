use Rattle.std.proofs.Common.{◌∙◌, subst}
use Rattle.std.proofs.lemmas.Result.{err_from_is_err_and}
use Rattle.text.specs.Lines.{lines_of}
use Rattle.script.specs.Readings.{LineLeads, StopsAt}
use Rattle.script.specs.Sheets.{view_of}
use Rattle.script.proofs.Follows.{so_far_more, stopped-at}
use Rattle.script.proofs.script.read_sheet.Goals as goal

pub loop-line-preserved : goal.loop-line-preserved
loop-line-preserved g c =
    let (split, number, taken) = c.in-Some.ensures.steps in
    let one = subst (λ n. LineLeads g.D.DrawLine.Written (view_of c.loop-line.sheet) n c.in-Some.line.bytes.now (view_of c.read_line.new.sheet)) (number ∙ taken) c.in_ok-read_line.ensures in
    rw taken (so_far_more g.D.DrawLine.Written (lines_of c.args.bytes.now) _ _ _ _ _ _ split c.loop-line.invariant one)

pub returns-in_err-read_line : goal.returns-in_err-read_line
returns-in_err-read_line g c =
    let (split, number, taken) = c.in-Some.ensures.steps in
    let p = err_from_is_err_and c.from_residual.result c.from_residual.ensures.1 in
    let fault = subst (λ n. StopsAt g.D.DrawLine.Written (view_of c.loop-line.sheet) n c.in-Some.line.bytes.now c.in_err-read_line.field-0.0) (number ∙ taken) c.in_err-read_line.ensures in
    rw (p.1, p.2) (stopped-at g.D.DrawLine.Written (lines_of c.args.bytes.now) _ _ _ _ _ split c.loop-line.invariant c.in_err-read_line.field-0.0 fault)
