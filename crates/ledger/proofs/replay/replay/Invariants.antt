use Rattle.ledger.proofs.Keeps.{SoFar}
use Rattle.ledger.proofs.replay.replay.Given as goal

abbrev pub invariant-loop-i : goal.invariant-loop-i
invariant-loop-i g l = SoFar (λ d. g.D.Drawable.box_of d l.strips) g.D.Drawable.mode_of l.initial.draws l.calls l.answers l.initial.answers l.i l.recorder l.draws
