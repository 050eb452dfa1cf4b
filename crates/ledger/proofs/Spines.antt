-- Past the layers that are closed already, a walk is in the open ones.
use Rattle.std.proofs.Common.{◌≡◌, ℕ, ◌<◌, true, false, List, [], ◌∷◌, ◌++◌, Some, refl, arith}
use Rattle.std.proofs.lemmas.Bool.{eq-eqb, ne_eqb}
use Rattle.record.specs.Nesting.{seek, Falls}
use Rattle.record.specs.Table.{same, top}
use Rattle.walk.specs.declared.listed.Listed.{Listed}
use Rattle.walk.specs.declared.listed.Listed.TheVariants.{Leave}
use Rattle.walk.specs.Walk.{leaves, unwind}

pub falls_below : (b : ℕ) (p : List ℕ) (l : ℕ) (s : List ℕ) → Falls b (p ++ (l ∷ s)) → l < b
falls_below b [] l s f = f.0
falls_below b (q ∷ p) l s f = let h = falls_below q p l s f.1 in omega arith

pub falls-after : (b : ℕ) (p s : List ℕ) → Falls b (p ++ s) → Falls b s
falls-after b [] s f = f
falls-after b (q ∷ p) [] f = tt
falls-after b (q ∷ p) (l ∷ s) f = (falls_below b (q ∷ p) l s f, (falls-after q p (l ∷ s) f.1).1)

other : (b p : ℕ) (ps s : List ℕ) → Falls b (p ∷ (ps ++ s)) → same (top s) (Some p) ≡ false
other b p ps [] f = refl
other b p ps (l ∷ s) f = let h = falls_below p ps l s f.1 in ne_eqb l p (λ e. omega arith)

-- past the layers p that are closed already, the walk is in s
pub seek-past : (b : ℕ) (p s : List ℕ) → Falls b (p ++ s) → seek (top s) (p ++ s) ≡ s
seek-past b [] [] f = refl
seek-past b [] (l ∷ s) f = rw (eq-eqb l l refl)
seek-past b (q ∷ p) s f = rw (other b q p s f) (seek-past q p s f.1)

pub leaves-past : (b : ℕ) (p s : List ℕ) (out : List Listed) → Falls b (p ++ s) → leaves (top s) out (p ++ s) ≡ unwind out p
leaves-past b [] [] out f = refl
leaves-past b [] (l ∷ s) out f = rw (eq-eqb l l refl)
leaves-past b (q ∷ p) s out f = rw (other b q p s f) (leaves-past q p s (out ++ (Leave q ∷ [])) f.1)

-- where the innermost layer is the active one, none before it is closed
pub none-past : (b : ℕ) (p s : List ℕ) → Falls b (p ++ s) → same (top (p ++ s)) (top s) ≡ true → p ≡ []
none-past b [] s f e = refl
none-past b (q ∷ p) [] f e = absurd (cc)
none-past b (q ∷ p) (l ∷ s) f e =
    let h = falls_below q p l s f.1 in
    let n = ne_eqb q l (λ i. omega arith) in
    absurd (cc)

pub unwind-push : (out : List Listed) (p : List ℕ) (l : ℕ) → unwind out (p ++ (l ∷ [])) ≡ unwind out p ++ (Leave l ∷ [])
unwind-push out [] l = refl
unwind-push out (q ∷ p) l = unwind-push (out ++ (Leave q ∷ [])) p l
