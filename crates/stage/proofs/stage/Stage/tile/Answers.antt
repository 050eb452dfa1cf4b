use Rattle.std.proofs.Common.{◌≡◌, min, length, vec_len, unwrap_or, ◌∙◌}
use Rattle.std.proofs.lemmas.List.{with_items_is}
use Rattle.walk.specs.FullWalk.{entry_count}
use Rattle.tiles.specs.Tile.{tile_questions, TileWalk, tile_listed}
use Rattle.ledger.specs.Reached.{draw_shows_in}
use Rattle.stage.proofs.Listings.{tile-asked, kept-list}
use Rattle.stage.proofs.stage.Stage.tile.Goals as goal

-- the list has as many places as the slice of it that was lent
pub returns : goal.returns
returns g c =
    let x = c.args.self.now.design in
    let v = x.recorder in
    let s = c.args.surface in
    let t = c.args.tile in
    let seen = draw_shows_in (λ d. g.D.Drawable.box_of d.draw) x t in
    let long = vec_len x.draws in
    let room = unwrap_or c.args.room (entry_count v) in
    let lent = c.as_mut_slice in
    let given = lent.result.now in
    let left = c.tile_walk-walked.new.out in
    let places : length given ≡ min (entry_count v) room = lent.ensures.len ∙ c.in_ok-entries.ensures.len ∙ c.walk_places.ensures.count in
    let back = with_items_is c.in_ok-entries.entries left (c.tile_walk-walked.auto.out ∙ lent.ensures.len) in
    kept-list (tile_questions s t seen v long (length given)) (tile_questions s t seen v long room) (tile_listed s t seen v) given left (λ n. TileWalk s t seen v n given left) (left ≡ given) c.tile_walk-walked.result c.kept.result
    (tile-asked v s t seen long room (length given) c.walk_places.ensures.all places) (λ n w. (w.count, w.written)) c.tile_walk-walked.ensures.walked (rw back at c.kept.ensures)
