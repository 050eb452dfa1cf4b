use Rattle.std.proofs.Common.{◌+◌, ◌<◌, sym, ap, ◌∙◌, arith}
use Rattle.record.specs.Recording.{active}
use Rattle.record.proofs.Sounds.{sound-at, sound-open}
use Rattle.record.proofs.recorder.CommandRecorder.push_layer.Goals as goal

pub invariant_of-self : goal.invariant_of-self
invariant_of-self c =
    let r = c.self.inside in
    let v = c.self-inside.view_is in
    let few : r.account.layers < 256 = let same = ap (λ x. x.account.layers) v in omega arith in
    let owner = c.active_layer-owner.ensures ∙ ap active (sym c.self.view_is) in
    sound-at c.open_layer.ensures (c.open_layer-2.ensures ∙ rw (ap (λ x. x.account.layers) v, ap (λ x. x.account.drawn) v, c.recorded_open-layer.ensures, owner))
    (sound-open c.args.props c.args.filter (c.open_count.result + 1) r.account r.tree few c.self.invariant)
