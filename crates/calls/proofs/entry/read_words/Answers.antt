use Rattle.std.proofs.Common.{◌≡◌, Some, sym, subst, arith}
use Rattle.std.proofs.lemmas.Result.{err_from_is_err_and}
use Rattle.text.specs.Readers.{left}
use Rattle.calls.specs.Heads.{head_of, SaysHead}
use Rattle.calls.proofs.Meanings.{by-head, head-says}
use Rattle.calls.proofs.entry.read_words.Goals as goal

pub returns-in_err-entry : goal.returns-in_err-entry
returns-in_err-entry g c =
    let p = err_from_is_err_and c.from_residual-in_err-entry.result c.from_residual-in_err-entry.ensures.1 in
    let known : head_of c.args.word.now ≡ Some c.in_ok-head.head = grind (arith, c.in_ok-head.ensures.value) in
    rw p.1 (λ e says. c.in_err-entry.ensures e _ (head-says g.D.DrawLine.Written c.args.word.now (left c.args.words) g.met.D.DrawLine.begins c.in_ok-head.head known e says))

-- whatever else the words may say leaves the same words, of which there are some
pub returns-in_err-end : goal.returns-in_err-end
returns-in_err-end g c =
    let p = err_from_is_err_and c.from_residual-in_err-end.result c.from_residual-in_err-end.ensures.1 in
    let known : head_of c.args.word.now ≡ Some c.in_ok-head.head = grind (arith, c.in_ok-head.ensures.value) in
    rw p.1 (λ e says. c.in_err-end.ensures (sym (c.in_ok-entry.ensures.1 e _ (head-says g.D.DrawLine.Written c.args.word.now (left c.args.words) g.met.D.DrawLine.begins c.in_ok-head.head known e says))))

pub returns : goal.returns
returns g c =
    let known : head_of c.args.word.now ≡ Some c.in_ok-head.head = grind (arith, c.in_ok-head.ensures.value) in
    by-head g.D.DrawLine.Written c.args.word.now (left c.args.words) c.in_ok-head.head known c.in_ok-entry.entry (subst (λ after. SaysHead g.D.DrawLine.Written c.in_ok-head.head (left c.args.words) c.in_ok-entry.entry after) c.in_ok-end.ensures c.in_ok-entry.ensures.0)
