use Rattle.std.proofs.Common.{◌-◌, ◌≤◌, sym, ◌∙◌, arith}
use Rattle.tiles.specs.View.{seen}
use Rattle.tiles.proofs.Sieves.{picked_shown, picked_hidden}
use Rattle.tiles.proofs.Tallies.{added_then}
use Rattle.tiles.proofs.Tiles.{drawn_count}
use Rattle.tiles.proofs.view.View.list_draws.Goals as goal
use Rattle.tiles.proofs.view.View.list_draws.Goals.{then-shows_draw, else-shows_draw}

pub push-requires : goal.push-requires
push-requires g c = omega (arith, drawn_count (seen g.D.Drawable.box_of c.args.self.now) c.args.node.now.start (c.loop-number.number - c.args.node.now.start) c.loop-number.invariant.1)

pub loop-number-preserved : goal.loop-number-preserved
loop-number-preserved g c =
    let shows = seen g.D.Drawable.box_of c.args.self.now in
    let a = c.args.node.now.start in
    let n = c.loop-number.number in
    let le : a ≤ n = omega arith in
    let before = c.loop-number.invariant.1 in
    elim c.if-shows_draw.branch [
      | then-shows_draw w ↦ (omega arith, rw (w.list-is, picked_shown shows a n le (sym c.shows_draw.ensures ∙ w.if-shows_draw.true)) (added_then before w.push.ensures))
      | else-shows_draw w ↦ (omega arith, rw (w.list-is, picked_hidden shows a n le (sym c.shows_draw.ensures ∙ w.if-shows_draw.false)) before)
    ]
