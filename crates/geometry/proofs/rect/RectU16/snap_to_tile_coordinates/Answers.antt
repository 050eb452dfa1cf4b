use Rattle.std.proofs.Common.{◌∙◌, ap₂}
use Rattle.geometry.specs.Rect.{rect}
use Rattle.geometry.specs.Snap.{lowered}
use Rattle.geometry.proofs.Edges.{next-raised, ahead, outward-least}
use Rattle.geometry.proofs.rect.RectU16.snap_to_tile_coordinates.Goals as goal

pub returns-clause-least : goal.returns-clause-least
returns-clause-least c =
    let r = c.args.self in
    let x = c.next_multiple_of-x1.ensures in
    let y = c.next_multiple_of-y1.ensures in
    let made = c.new-2.ensures ∙ ap₂ (rect (lowered r.x0) (lowered r.y0)) (next-raised r.x1 _ x.lower_bound x.upper_bound x.multiple) (next-raised r.y1 _ y.lower_bound y.upper_bound y.multiple) in
    λ e. rw made (outward-least r (ahead r e))
