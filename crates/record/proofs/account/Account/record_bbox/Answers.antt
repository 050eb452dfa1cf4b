use Rattle.std.proofs.Common.{Some, ◌≡◌, ◌-◌, length, sym, ap, refl, ◌∙◌}
use Rattle.std.specs.List.{slice_get}
use Rattle.record.proofs.Changes.{last-anew}
use Rattle.record.proofs.account.Account.record_bbox.Goals as goal

pub returns : goal.returns
returns c =
    let stack = c.self.inside.layer_stack in
    let layer = c.in-Some-Some.layer in
    let stood : slice_get stack (length stack - 1) ≡ Some layer = ap (λ xs. slice_get xs (length xs - 1)) (sym c.as_slice.ensures) ∙ sym c.last.ensures.value ∙ sym c.copied.ensures ∙ c.in-Some-Some.is-0 in
    let both = last-anew stack layer (record { id = layer.id; clip = layer.clip; filter = layer.filter; contents = c.put_into-layer.result }) stood in
    rw (← c.self.view_is, c.in-Some-Some.is-1, c.set_last.ensures, both.0, both.1, c.put_into-layer.ensures) refl
