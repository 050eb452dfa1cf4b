-- What a write at one place makes of a table.
use Rattle.std.proofs.lemmas.List.{same_lists, places, get_or-set_same, reverse-append, take_more, take_more_set, take_all}
use Rattle.std.proofs.lemmas.Option.{slice_get_within, get_or_from_slice_get}
use Rattle.std.proofs.lemmas.Bool.{cases_eq}
use Rattle.std.proofs.Common.{◌≡◌, ℕ, zero, suc, ◌+◌, ◌-◌, ◌<◌, ◌≤◌, List, [], ◌∷◌, ◌++◌, length, reverse, length-set, sym, ◌∙◌, set, slice_get, Some, None, take, refl, ap, arith, rules}
use Rattle.record.specs.Tree.{change_at}

-- one element, which stood there, written anew
pub change-got : {X : Type 0} (f : X → X) (xs : List X) (i : ℕ) (x : X) → slice_get xs i ≡ Some x → set xs i (f x) ≡ change_at f i xs
change-got f [] i x stood = absurd (cc)
change-got f (y ∷ xs) zero x stood = ap (λ z. f z ∷ xs) (search (rules, stood))
change-got f (y ∷ xs) (suc i) x stood = ap (λ ys. y ∷ ys) (change-got f xs i x stood)

-- where nothing stood, there is nothing to change
pub change-none : {X : Type 0} (f : X → X) (xs : List X) (i : ℕ) → slice_get xs i ≡ None → xs ≡ change_at f i xs
change-none f [] i none = refl
change-none f (x ∷ xs) zero none = absurd (cc)
change-none f (x ∷ xs) (suc i) none = ap (λ ys. x ∷ ys) (change-none f xs i none)

-- a write below the count is a write to what is counted
pub take-set : {X : Type 0} (n : ℕ) (xs : List X) (i : ℕ) (x : X) → i < n → n ≤ length xs → take n (set xs i x) ≡ set (take n xs) i x
take-set n xs i x lt le = same_lists _ _ (search (rules, places)) (λ k d h. grind (arith, places, get_or-set_same, cases_eq k i))

-- latest first, the last of a table stands in front of the others, and so does what is written in its place
pub last-anew : {X : Type 0} (xs : List X) (x y : X) → slice_get xs (length xs - 1) ≡ Some x
    → (reverse xs ≡ x ∷ reverse (take (length xs - 1) xs)) × (reverse (set xs (length xs - 1) y) ≡ y ∷ reverse (take (length xs - 1) xs))
last-anew xs x y stood =
    let lt : length xs - 1 < length xs = slice_get_within xs (length xs - 1) x stood in
    let front = take (length xs - 1) xs in
    let count : (length xs - 1) + 1 ≡ length xs = omega arith in
    let whole : xs ≡ front ++ x ∷ [] =
    sym (take_all (length xs) xs (omega arith)) ∙ ap (λ n. take n xs) (sym count) ∙ take_more xs (length xs - 1) x lt ∙ ap (λ z. front ++ z ∷ []) (get_or_from_slice_get xs (length xs - 1) x x stood) in
    let written = set xs (length xs - 1) y in
    let anew : written ≡ front ++ y ∷ [] =
    sym (take_all (length written) written (omega arith)) ∙ ap (λ n. take n written) (length-set xs (length xs - 1) y ∙ sym count) ∙ take_more_set xs (length xs - 1) y lt in
    (ap reverse whole ∙ reverse-append front (x ∷ []), ap reverse anew ∙ reverse-append front (y ∷ []))
