use Rattle.std.proofs.Common.{◌+◌, ◌-◌, ◌≤◌, length, drop, ◌∙◌, arith, length-drop}
use Rattle.std.proofs.lemmas.List.{take_all}
use Rattle.tiles.proofs.Surfaces.{past_some, past_none}
use Rattle.tiles.proofs.surface.past_holder.Goals as goal

pub returns-in-Some : goal.returns-in-Some
returns-in-Some c =
    let ns = c.args.nodes.now in
    let i = c.in-Some.place in
    let all : length (drop (i + 1) ns) ≤ length ns - (i + 1) = omega (arith, length-drop (i + 1) ns) in
    take_all (length ns - (i + 1)) (drop (i + 1) ns) all ∙ past_some c.args.layer ns i c.in-Some.ensures

pub returns-in-None : goal.returns-in-None
returns-in-None c = past_none c.args.layer c.args.nodes.now c.in-None.ensures
