use Rattle.std.proofs.Common.{◌≡◌, rules, tests, sym, ◌∙◌, length, eqb, false}
use Rattle.std.specs.Char.{is_ascii_digit}
use Rattle.std.proofs.lemmas.Iterator.Adapters.{YieldsList-from_bytes}
use Rattle.std.proofs.lemmas.Iterator.Search.{all_from_yields_List}
use Rattle.text.proofs.numbers.is_numeral.Goals as goal

pub returns-then-not-is_empty : goal.returns-then-not-is_empty
returns-then-not-is_empty c =
    let some : eqb (length c.args.word.now) 0 ≡ false = sym c.is_empty.ensures ∙ c.if-not-is_empty.true in
    rw some (all_from_yields_List is_ascii_digit _ _ c.all.result c.all.ensures.ran (YieldsList-from_bytes c.args.word.now c.bytes.ensures.rest) (λ x b q k. search (rules, tests)))
