use Rattle.std.proofs.Common.{sym, ap, ◌∙◌}
use Rattle.record.specs.Recording.{active}
use Rattle.record.proofs.Sounds.{sound-at, sound-leave}
use Rattle.record.proofs.recorder.CommandRecorder.pop_layer.Goals as goal

pub invariant_of-self : goal.invariant_of-self
invariant_of-self c =
    let r = c.self.inside in
    let innermost = sym c.in_ok-id.ensures.ok_part ∙ c.active_layer.ensures ∙ ap active (sym c.self.view_is) in
    sound-at c.leave_layer.ensures c.close_layer.ensures (sound-leave c.in_ok-id.id r.account r.tree innermost c.self.invariant c.in_ok-closed.closed)
