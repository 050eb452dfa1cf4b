use Rattle.std.proofs.Common.{◌-◌, ◌≤◌}
use Rattle.tiles.specs.Tally.{Added}
use Rattle.tiles.specs.TileSteps.{picked}
use Rattle.tiles.specs.View.{seen}
use Rattle.tiles.proofs.view.View.list_draws.Given as goal

abbrev pub invariant-loop-number : goal.invariant-loop-number
invariant-loop-number g l = (l.number - l.node.start ≤ l.node.end - l.node.start) × Added (picked (seen g.D.Drawable.box_of l.self) l.node.start (l.number - l.node.start)) l.initial.list l.list
