use Rattle.std.proofs.Common.{◌≡◌, true, leb, length, sym, refl, arith, rules}
use Rattle.std.proofs.lemmas.Bool.{le-leb, not-false}
use Rattle.record.specs.Account.{at_root}
use Rattle.walk.specs.FullWalk.{entry_count}
use Rattle.walk.proofs.Counts.{recorded-held, recorded-room}
use Rattle.walk.proofs.Listings.{lists-all}
use Rattle.walk.proofs.full.full_walk.Goals as goal

pub list_layer-requires : goal.list_layer-requires
list_layer-requires c = record { places = omega (arith, recorded-room c.args.recorder.now c.nodes.ensures.sound c.nodes.ensures.value); deep = omega (arith, recorded-held c.args.recorder.now c.nodes.ensures.sound c.nodes.ensures.value, c.nodes.ensures.sound.0.3) }

pub returns : goal.returns
returns c =
    let r = c.args.recorder.now in
    let closed : at_root r.account.opened ≡ true = not-false (at_root r.account.opened) (sym c.if-has_layers.ensures) in
    let fits : leb (entry_count r) (length c.args.out.now) ≡ true = le-leb (entry_count r) (length c.args.out.now) (omega arith) in
    let all = lists-all r c.nodes.ensures.value c.list_layer.ensures.walked c.list_layer.ensures.stopped c.entry_count.ensures.all refl (omega arith) in
    (rw (closed, fits), record { count = all.0; all = c.entry_count.ensures.all; written = let same = c.list_layer.ensures.walked.added.same in let written = all.1 in search rules })
