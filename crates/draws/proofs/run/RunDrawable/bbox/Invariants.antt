use Rattle.std.proofs.Common.{◌≡◌, take}
use Rattle.draws.specs.Strips.{strips_box}
use Rattle.draws.proofs.run.RunDrawable.bbox.Given as goal

-- the box so far is that of the strips passed
abbrev pub invariant-loop-strip : goal.invariant-loop-strip
invariant-loop-strip l = l.bbox ≡ strips_box (take l.strip-index l.strip-items)
