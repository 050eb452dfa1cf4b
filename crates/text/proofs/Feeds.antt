-- How a script falls into lines.
use Rattle.std.proofs.Common.{◌≡◌, ℕ, ◌+◌, ◌<◌, Bool, false, eqb, List, [], ◌∷◌, length, get_or, take, drop, sym, refl, ap, ◌∙◌, arith}
use Rattle.std.specs.List.{slice_split, position_or_len}
use Rattle.std.specs.Str.Lines.{lines_of_parts, strip_carriage_return}
use Rattle.std.proofs.lemmas.Bool.{eq-eqb, ne_eqb}
use Rattle.std.proofs.lemmas.List.Elements.{All-from_get_or}
use Rattle.std.proofs.lemmas.List.Splits.{slice_split_none, slice_split_first, length-slice_split}
use Rattle.std.proofs.lemmas.List.Sums.{position_or_len_is}
use Rattle.text.specs.Lines.{lines_of}

abbrev feed : ℕ → Bool
feed c = eqb c 10

some-part : (parts : List (List ℕ)) → 0 < length parts → (part : List ℕ) × (more : List (List ℕ)) × (parts ≡ part ∷ more)
some-part [] some = absurd (omega arith)
some-part (part ∷ more) some = (part, more, refl)

-- a script that is cut at its first LF
pub cut-first : (bs : List ℕ) (n : ℕ) → n < length bs → get_or bs n 0 ≡ 10 → ((k : ℕ) → k < n → get_or bs k 0 ≡ 10 → ⊥) → lines_of bs ≡ strip_carriage_return (take n bs) ∷ lines_of (drop (n + 1) bs)
cut-first bs n lt is before =
    let at : position_or_len feed bs ≡ n = position_or_len_is feed bs n 0 (omega arith) (λ k below. ne_eqb _ 10 (before k below)) (λ _. eq-eqb _ 10 is) in
    let split = rw at at (slice_split_first feed bs 0 (rw at lt)) in
    let rest = slice_split feed (drop (n + 1) bs) in
    let more = some-part rest (omega (arith, length-slice_split feed (drop (n + 1) bs))) in
    ap lines_of_parts (split ∙ ap (λ parts. take n bs ∷ parts) more.2)
    ∙ ap (λ parts. strip_carriage_return (take n bs) ∷ lines_of_parts parts) (sym more.2)

-- a script without an LF
pub cut-last : (bs : List ℕ) → 0 < length bs → ((k : ℕ) → k < length bs → get_or bs k 0 ≡ 10 → ⊥) → lines_of bs ≡ bs ∷ []
cut-last bs some none =
    rw (slice_split_none feed bs (All-from_get_or (λ c. feed c ≡ false) bs 0 (λ k lt. ne_eqb _ 10 (none k lt))), ne_eqb (length bs) 0 (λ e. omega (arith, e))) refl
