use Rattle.text.specs.Lines.{lines_of}
use Rattle.script.specs.Sheets.{view_of}
use Rattle.script.proofs.Follows.{SoFar}
use Rattle.script.proofs.script.read_sheet.Given as goal

abbrev pub invariant-loop-line : goal.invariant-loop-line
invariant-loop-line g l =
    SoFar g.D.DrawLine.Written (lines_of l.bytes) (view_of l.sheet) l.line-iterator.taken (lines_of l.line-iterator.rest.now)
