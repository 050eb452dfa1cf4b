-- Seeking a layer among those that have been entered.
use Rattle.std.proofs.Common.{◌≡◌, ℕ, ◌≤◌, Bool, true, false, List, [], ◌∷◌, Some, None, Option, refl, ap, subst, ⊎_elim, arith}
use Rattle.std.proofs.lemmas.Bool.{eq-eqb, ne_eqb, eqb-true, cases_Bool, cond_both}
use Rattle.record.specs.Table.{same, top, free}
use Rattle.record.specs.Nesting.{seek, Falls}

pub same_self : (o : Option ℕ) → same o o ≡ true
same_self None = refl
same_self (Some a) = eq-eqb a a refl

pub same-equal : (a b : Option ℕ) → same a b ≡ true → a ≡ b
same-equal None None e = refl
same-equal None (Some b) e = let z : ◌≡◌ {A = ℕ} 0 1 = cc in absurd (omega arith)
same-equal (Some a) None e = let z : ◌≡◌ {A = ℕ} 0 1 = cc in absurd (omega arith)
same-equal (Some a) (Some b) e = ap Some (eqb-true a b e)

-- what it says of a node that another can join
pub free-none : (l : Option ℕ) (b : Bool) → free l b ≡ true → l ≡ None
free-none None b e = refl
free-none (Some l) b e = let z : ◌≡◌ {A = ℕ} 0 1 = cc in absurd (omega arith)

pub free_own : (l : Option ℕ) (b : Bool) → free l b ≡ true → b ≡ true
free_own None b e = e
free_own (Some l) b e = let z : ◌≡◌ {A = ℕ} 0 1 = cc in absurd (omega arith)

-- the innermost layer is found at once
pub seek-self : (s : List ℕ) → seek (top s) s ≡ s
seek-self [] = refl
seek-self (l ∷ s) = rw (eq-eqb l l refl)

pub falls-above : (a b : ℕ) (s : List ℕ) → a ≤ b → Falls a s → Falls b s
falls-above a b [] h f = tt
falls-above a b (l ∷ s) h f = (omega arith, f.1)

pub falls-seek : (b : ℕ) (o : Option ℕ) (s : List ℕ) → Falls b s → Falls b (seek o s)
falls-seek b o [] f = tt
falls-seek b o (l ∷ s) f =
    let low : l ≤ b = omega arith in
    cond_both (same o (Some l)) (l ∷ s) (seek o s) (Falls b) (λ _. f) (λ _. falls-above l b (seek o s) low (falls-seek l o s f.1))

-- no layer below p is p
other : (p : ℕ) (s : List ℕ) → Falls p s → same (top s) (Some p) ≡ false
other p [] f = refl
other p (l ∷ s) f = ne_eqb l p (λ e. omega arith)

-- a layer further out is found past a layer that is found
pub seek-outer : (b c : ℕ) (q s : List ℕ) → Falls b q → seek (Some c) q ≡ c ∷ s → seek (top s) q ≡ s
seek-outer b c [] s f e = let z : ◌≡◌ {A = ℕ} 0 1 = cc in absurd (omega arith)
seek-outer b c (p ∷ q) s f e =
    ⊎_elim
    (λ yes.
    let here : p ∷ q ≡ c ∷ s = rw yes at e in
    let rest : q ≡ s = cc in
    let far : same (top s) (Some p) ≡ false = subst (λ z. same (top z) (Some p) ≡ false) rest (other p q f.1) in
    rw far (subst (λ z. seek (top z) q ≡ z) rest (seek-self q)))
    (λ no.
    let deeper : seek (Some c) q ≡ c ∷ s = rw no at e in
    let found = seek-outer p c q s f.1 deeper in
    let below : Falls p s = subst (Falls p) found (falls-seek p (top s) q f.1) in
    rw (other p s below) found)
    (cases_Bool (same (Some c) (Some p)))
