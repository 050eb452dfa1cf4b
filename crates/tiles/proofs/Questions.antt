-- The questions of a call.
use Rattle.std.proofs.Common.{◌≡◌, true, false, List, [], ◌∷◌, ◌++◌, None, refl, ⊎_elim}
use Rattle.std.proofs.lemmas.Bool.{cases_Bool}
use Rattle.refusal.specs.Refusals.{Question, first_no}

-- where the first questions are answered with yes, the others decide
pub all_yes : (first others : List Question) → first_no first ≡ None → first_no (first ++ others) ≡ first_no others
all_yes [] others h = refl
all_yes (q ∷ first) others h =
    ⊎_elim (λ (e : q.0 ≡ true). rw e (all_yes first others (rw e at h)))
    (λ (e : q.0 ≡ false). let n = rw e at h in cc)
    (cases_Bool q.0)
