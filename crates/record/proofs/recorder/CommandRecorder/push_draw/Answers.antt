use Rattle.std.proofs.Common.{◌<◌, sym, ap, ◌∙◌, ap₂, arith}
use Rattle.record.specs.Recording.{active}
use Rattle.record.specs.Tree.{tree_after_draw}
use Rattle.record.proofs.Sounds.{sound-at, sound-draw}
use Rattle.record.proofs.recorder.CommandRecorder.push_draw.Goals as goal

pub invariant_of-self : goal.invariant_of-self
invariant_of-self g c =
    let r = c.self.inside in
    let number = ap (λ x. x.account.drawn) c.self-inside.view_is in
    let few : r.account.drawn < 1048576 = omega (arith, number) in
    let owner = c.active_layer-owner.ensures ∙ ap active (sym c.self.view_is) in
    sound-at c.record_draw.ensures (c.push_draw.ensures ∙ ap₂ (λ n o. tree_after_draw n o r.tree) number owner)
    (sound-draw _ c.blend_mode-mode.result r.account r.tree few c.self.invariant)
