-- Adding entries to a list.
use Rattle.std.proofs.Common.{◌≡◌, ℕ, ◌+◌, ◌≤◌, true, ◌||◌, eqb, ◌⊎◌, List, [], ◌∷◌, ◌++◌, length, drop, is_some, IfSome, Some, None, Option, sym, refl, ap, ◌∙◌, subst, inl, inr, ⊎_elim, arith, length-append}
use Rattle.std.specs.Borrow.{MutBor}
use Rattle.std.proofs.Math.Bool.{or-false}
use Rattle.std.proofs.lemmas.Bool.{eq-eqb, or_left, or_right}
use Rattle.walk.specs.declared.listed.Listed.{Listed}
use Rattle.walk.specs.declared.listed.Listed.TheVariants.{Draw, Enter, Leave, Filter}
use Rattle.walk.specs.Listing.{poured}
use Rattle.walk.proofs.Listings.{poured-then, poured-whole}
use Rattle.tiles.specs.declared.tally.Tally.{Tally}
use Rattle.tiles.specs.Tally.{begun, last_draw, last_of, Added}
use Rattle.tiles.specs.Tile.{draw_listed, any_draw}

last_of-then : (o : Option ℕ) (xs ys : List Listed) → last_of o (xs ++ ys) ≡ last_of (last_of o xs) ys
last_of-then o [] ys = refl
last_of-then o (e ∷ xs) ys = last_of-then (last_draw e o) xs ys

pub added-as : {xs ys : List Listed} {t u : Tally} → xs ≡ ys → Added xs t u → Added ys t u
added-as {xs} {ys} {t} {u} e w = subst (λ z. Added z t u) e w

pub added_none : (t : Tally) → Added [] t t
added_none t = record { same = refl; count = omega arith; top = refl; places = refl }

pub added_then : {xs ys : List Listed} {t u v : Tally} → Added xs t u → Added ys u v → Added (xs ++ ys) t v
added_then {xs} {ys} {t} {u} {v} p q = record {
  same = q.same ∙ p.same;
  count = omega (arith, length-append xs ys);
  top = q.top ∙ ap (λ z. last_of z ys) p.top ∙ sym (last_of-then t.top xs ys);
  places = q.places ∙ ap (λ z. poured z ys u.out.now) p.count ∙ ap (poured (t.count + length xs) ys) p.places ∙ sym (poured-then t.count xs ys t.out.now);
}

-- the last draw was listed, unless it was the last before
last-listed : (o : Option ℕ) (es : List Listed) (n : ℕ) → last_of o es ≡ Some n → (draw_listed n es ≡ true) ⊎ (o ≡ Some n)
last-listed o [] n e = inr e
last-listed o (Draw m ∷ es) n e =
    ⊎_elim (λ h. inl (or_right (eqb m n) (draw_listed n es) h)) (λ h. inl (or_left (eqb m n) (draw_listed n es) (eq-eqb m n (cc)))) (last-listed (Some m) es n e)
last-listed o (Enter l ∷ es) n e = last-listed o es n e
last-listed o (Leave l ∷ es) n e = last-listed o es n e
last-listed o (Filter l ∷ es) n e = last-listed o es n e

last_some : (es : List Listed) (o : Option ℕ) → last_of None es ≡ o → IfSome o (λ n. draw_listed n es ≡ true)
last_some es None e = tt
last_some es (Some n) e = ⊎_elim (λ h. h) (λ h. cc) (last-listed None es n e)

-- a draw was listed, or there was one before
last-any : (o : Option ℕ) (es : List Listed) → is_some (last_of o es) ≡ (any_draw es || is_some o)
last-any o [] = refl
last-any o (Draw m ∷ es) = last-any (Some m) es ∙ or_right (any_draw es) true refl
last-any o (Enter l ∷ es) = last-any o es
last-any o (Leave l ∷ es) = last-any o es
last-any o (Filter l ∷ es) = last-any o es

-- a list that was begun without entries
module _ {es : List Listed} {out : MutBor (List Listed)} {u : Tally} (w : Added es (begun out) u) where
  pub all-count : u.count ≡ length es
  all-count = omega (arith, w.count)

  pub all-written : length es ≤ length out.now → u.out.now ≡ es ++ drop u.count out.now
  all-written h = let at : 0 + length es ≡ u.count = omega (arith, w.count) in w.places ∙ poured-whole 0 es out.now (omega arith) ∙ ap (λ z. es ++ drop z out.now) at

  -- its last draw
  pub top-some : IfSome u.top (λ n. draw_listed n es ≡ true)
  top-some = last_some es u.top (sym w.top)

  pub top-any : is_some u.top ≡ any_draw es
  top-any = ap is_some w.top ∙ last-any None es ∙ or-false (any_draw es)
