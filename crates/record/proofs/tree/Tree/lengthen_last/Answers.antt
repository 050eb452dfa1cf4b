use Rattle.std.proofs.Common.{Some, ◌≡◌, ◌-◌, length, sym, ap, refl, ◌∙◌}
use Rattle.std.specs.List.{slice_get}
use Rattle.record.specs.Table.{node}
use Rattle.record.proofs.Changes.{last-anew}
use Rattle.record.proofs.tree.Tree.lengthen_last.Goals as goal

pub returns-in-Some : goal.returns-in-Some
returns-in-Some c =
    let nodes = c.self.inside.nodes in
    let last = c.in-Some.last in
    let stood : slice_get nodes (length nodes - 1) ≡ Some last = ap (λ xs. slice_get xs (length xs - 1)) (sym c.as_slice.ensures) ∙ sym c.last.ensures.value ∙ sym c.copied.ensures ∙ c.in-Some.is in
    let both = last-anew nodes last (node last.start c.args.end last.layer last.owner) stood in
    rw (← c.self.view_is, c.set_last.ensures, both.0, both.1) refl
