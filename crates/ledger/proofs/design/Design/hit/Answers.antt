use Rattle.std.proofs.Common.{vec_items, vec_len}
use Rattle.ledger.specs.Reached.{box_in}
use Rattle.ledger.proofs.Reached.{hits-listed, hits-any}
use Rattle.ledger.proofs.design.Design.hit.Goals as goal

-- the slice that was lent is the draw list
pub returns : goal.returns
returns g c =
    let x = c.args.self.now in
    let box = box_in g.D.Drawable.box_of x in
    let mode = g.D.Drawable.mode_of in
    let some_of = rw (c.as_slice.ensures.len, c.as_slice.ensures.value) at c.hit.ensures.some in
    let any_of = rw (c.as_slice.ensures.len, c.as_slice.ensures.value) at c.hit.ensures.none in
    record {
      some = some_of;
      none = any_of;
      some_law = λ b w. hits-listed box mode b x.recorder (vec_items x.draws) w c.args.tile (vec_len x.draws) c.hit.result some_of;
      none_law = λ b w. hits-any box mode b x.recorder (vec_items x.draws) w c.args.tile (vec_len x.draws) c.hit.result any_of;
    }
