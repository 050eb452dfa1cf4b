use Rattle.std.proofs.Common.{◌≡◌, min, length, unwrap_or, sym, ◌∙◌}
use Rattle.std.proofs.lemmas.List.{with_items_is}
use Rattle.walk.specs.FullWalk.{FullWalk, listed, entry_count, walk_questions}
use Rattle.stage.proofs.Listings.{walk-asked, kept-list}
use Rattle.stage.proofs.stage.Stage.walk.Goals as goal

-- the list has as many places as the slice of it that was lent
pub returns : goal.returns
returns g c =
    let v = c.args.self.now.design.recorder in
    let room = unwrap_or c.args.room (entry_count v) in
    let lent = c.as_mut_slice in
    let given = lent.result.now in
    let left = c.full_walk-walked.new.out in
    let places : length given ≡ min (entry_count v) room = lent.ensures.len ∙ c.in_ok-entries.ensures.len ∙ c.walk_places.ensures.count in
    let back = with_items_is c.in_ok-entries.entries left (c.full_walk-walked.auto.out ∙ lent.ensures.len) in
    kept-list (walk_questions v (length given)) (walk_questions v room) (listed v) given left (λ n. FullWalk v n given left) (left ≡ given) c.full_walk-walked.result c.kept.result
    (walk-asked v room (length given) places) (λ n w. (w.count ∙ sym w.all, w.written)) c.full_walk-walked.ensures.walked (rw back at c.kept.ensures)
