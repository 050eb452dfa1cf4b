-- What `parse` reads, in the words of this crate.
use Rattle.std.proofs.Common.{◌≡◌, ℕ, suc, ◌^◌, ◌<◌, true, ◌&&◌, [], not, eqb, leb, List, ◌∷◌, length, Ok, Err, Result, refl, ⊎_elim, arith, Some, None, MatchResult, rules}
use Rattle.std.specs.Char.{is_ascii_digit}
use Rattle.std.specs.List.{list_all}
use Rattle.std.specs.Result.{OkIff}
use Rattle.std.specs.Str.Parse.{ParsesUnsigned}
use Rattle.std.proofs.lemmas.Str.Parse.{IsNumeralModel, numerals_by_fold, parse_digits}
use Rattle.std.proofs.lemmas.Bool.{leb-true, le-leb, and_parts, cases_Bool, false≢true}
use Rattle.text.specs.Numbers.{numeral, value_after, value_of}
use Rattle.text.specs.Readers.{ReadsNumerals, number_up_to}

own : IsNumeralModel (λ ds. list_all is_ascii_digit ds ≡ true) (value_after 0)
own = numerals_by_fold _ (search rules) value_after (search rules)

given : {E : Type 0} (most : ℕ) (word : List ℕ) (words : List (List ℕ)) (r : Result ℕ E) → numeral word ≡ true → OkIff r ((0 < length word) × (value_of word < suc most)) (value_of word) → MatchResult r (λ n. number_up_to most (word ∷ words) ≡ Some (n, words)) (λ _. number_up_to most (word ∷ words) ≡ None)
given most word words (Ok n) is ((some, fits), same) = rw (is, le-leb (value_of word) most (omega arith), same)
given most word words (Err e) is refused =
    ⊎_elim
    (λ both. absurd (refused (some word is, omega (arith, leb-true (value_of word) most (and_parts (numeral word) (leb (value_of word) most) both).1))))
    (λ no. rw no refl)
    (cases_Bool (numeral word && leb (value_of word) most))
  where
    some : (word : List ℕ) → numeral word ≡ true → 0 < length word
    some [] is = absurd (false≢true is)
    some (c ∷ cs) is = omega arith

-- what an unsigned type of k bits is parsed from
pub reads_parsed : {E : Type 0} (k most : ℕ) → suc most ≡ 2 ^ k → {gives : List ℕ → Result ℕ E → Type 0} → ((word : List ℕ) (r : Result ℕ E) → gives word r → ParsesUnsigned k 10 word r) → ReadsNumerals gives (number_up_to most)
reads_parsed k most bits parses = record {
  none = refl;
  other = λ word words not. rw not;
  given = λ word words r is gives.
      let parts = and_parts (not (eqb (length word) 0)) (list_all is_ascii_digit word) is in
      given most word words r is (rw bits (parse_digits own k word r (parses word r gives) parts.1));
}
