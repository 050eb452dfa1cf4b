use Rattle.std.proofs.Common.{◌≡◌, Ok, Err, Result, MatchResult, sym, ◌∙◌}
use Rattle.std.specs.Result.{IsErrAnd}
use Rattle.std.proofs.lemmas.Result.{err_from_is_err_and}
use Rattle.text.proofs.numbers.read_number.Goals as goal

-- what is known of one answer is known of another that differs in its error alone
through : {A E F : Type 0} (P : A → Type 0) (Q : Type 0) (R : E → F → Type 0) (p : Result A E) (r : Result A F) → MatchResult p (λ x. r ≡ Ok x) (λ e. IsErrAnd r (R e)) → MatchResult p P (λ _. Q) → MatchResult r P (λ _. Q)
through P Q R (Ok x) r same known = rw same known
through P Q R (Err e) r err known = let p = err_from_is_err_and r err in rw p.1 known

pub returns-clause-value : goal.returns-clause-value
returns-clause-value g c = λ rest.
    through _ _ _ c.parse.result c.map_err.result c.map_err.ensures.cases (g.met.N.Number.reads.given c.args.word.now rest c.parse.result (sym c.is_numeral.ensures ∙ c.if-not-is_numeral.false) c.parse.ensures.value)
