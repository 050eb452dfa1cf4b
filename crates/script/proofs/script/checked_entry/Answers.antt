use Rattle.std.proofs.lemmas.Option.{MatchOption-at_some}
use Rattle.std.proofs.lemmas.Result.{err_from_is_err_and}
use Rattle.script.specs.Sheets.{view_of}
use Rattle.script.proofs.Faults.{disallowed}
use Rattle.script.proofs.script.checked_entry.Goals as goal

pub returns-in_err-allows : goal.returns-in_err-allows
returns-in_err-allows g c =
    let p = err_from_is_err_and c.from_residual-in_err-allows.result c.from_residual-in_err-allows.ensures.1 in
    rw p.1 (disallowed g.D.DrawLine.Written g.met.D.DrawLine.begins (view_of c.args.sheet.now) c.args.line.number c.args.line.bytes.now c.in-Some.entry (MatchOption-at_some _ _ _ c.in-Some.is c.in_ok-entry.ensures.1) c.in_err-allows.ensures)
