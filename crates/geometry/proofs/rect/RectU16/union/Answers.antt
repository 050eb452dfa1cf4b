use Rattle.geometry.proofs.Edges.{ahead, joined-least}
use Rattle.geometry.proofs.rect.RectU16.union.Goals as goal

pub returns-clause-least : goal.returns-clause-least
returns-clause-least c = λ e f.
    rw (c.min-self.ensures, c.min-self-2.ensures, c.max-self.ensures, c.max-self-2.ensures)
    (joined-least c.args.self.now c.args.other (ahead c.args.self.now e) (ahead c.args.other f))
