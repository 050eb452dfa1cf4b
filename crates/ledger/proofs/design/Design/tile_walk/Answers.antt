use Rattle.std.proofs.Common.{vec_items, vec_len}
use Rattle.ledger.specs.Reached.{box_in}
use Rattle.ledger.proofs.Reached.{lists-tile}
use Rattle.ledger.proofs.design.Design.tile_walk.Goals as goal

-- the slice that was lent is the draw list
pub returns : goal.returns
returns g c =
    let x = c.args.self.now in
    let walked = rw (c.as_slice.ensures.len, c.as_slice.ensures.value) at c.tile_walk.ensures in
    record {
      walked = walked;
      law = λ b w.
          lists-tile (box_in g.D.Drawable.box_of x) g.D.Drawable.mode_of b x.recorder (vec_items x.draws) w c.args.surface c.args.tile (vec_len x.draws) c.tile_walk.result c.args.out.now c.tile_walk.new.out walked;
    }
