-- The ledger, one entry on.
use Rattle.std.proofs.Common.{◌≡◌, ℕ, ◌+◌, ◌<◌, ◌≢◌, List, [], ◌∷◌, ◌++◌, length, set, Result, refl, ◌∙◌, arith, length-set}
use Rattle.std.proofs.lemmas.List.{get_or-set_same, get_or-set_other}
use Rattle.ledger.specs.declared.call.Call.{Call}
use Rattle.refusal.specs.declared.Refusal.{Refusal}
use Rattle.ledger.specs.Ledger.{Entry, Draw, Enter, Leave, Ledger, is_draw, is_enter, draws_in, layers_in, open_step, open_from, after, ledger_from}
use Rattle.ledger.specs.Laws.{Each, Stands}

module _ {D : Type 0} where
  pub draws-push : (es : List (Entry D)) (e : Entry D) → draws_in (es ++ (e ∷ [])) ≡ is_draw e + draws_in es
  draws-push [] e = refl
  draws-push (x ∷ xs) e = let p = draws-push xs e in omega arith

  pub layers-push : (es : List (Entry D)) (e : Entry D) → layers_in (es ++ (e ∷ [])) ≡ is_enter e + layers_in es
  layers-push [] e = refl
  layers-push (x ∷ xs) e = let p = layers-push xs e in omega arith

  pub open-push : (s : List ℕ) (es : List (Entry D)) (e : Entry D) → open_from s (es ++ (e ∷ [])) ≡ open_step (open_from s es) e
  open-push s [] e = refl
  open-push s (x ∷ xs) e = open-push (open_step s x) xs e

  pub each-push : (P : Entry D → Type 0) (es : List (Entry D)) (e : Entry D) → Each P es → P e → Each P (es ++ (e ∷ []))
  each-push P [] e all p = (p, tt)
  each-push P (x ∷ xs) e all p = (all.0, each-push P xs e all.1 p)

  pub each-weaker : (P Q : Entry D → Type 0) → ((e : Entry D) → P e → Q e) → (es : List (Entry D)) → Each P es → Each Q es
  each-weaker P Q f [] all = tt
  each-weaker P Q f (x ∷ xs) all = (f x all.0, each-weaker P Q f xs all.1)

  -- a draw that stands before place m goes on standing when place m is written
  abbrev pub StandsBefore : ℕ → List D → Entry D → Type 0
  StandsBefore m ds (Draw n d) = (n < m) × Stands ds (Draw n d)
  StandsBefore m ds (Enter n o) = Unit {0}
  StandsBefore m ds (Leave n) = Unit {0}

  pub stands_on : (m : ℕ) (ds : List D) (d : D) (e : Entry D) → StandsBefore m ds e → StandsBefore (m + 1) (set ds m d) e
  stands_on m ds d (Draw n x) s =
      let long = length-set ds m d in
      let ne : n ≢ m = omega arith in
      (omega arith, (omega (arith, s.1.0), λ y. get_or-set_other ds m n d y ne ∙ s.1.1 y))
  stands_on m ds d (Enter n o) s = tt
  stands_on m ds d (Leave n) s = tt

  pub stands-new : (m : ℕ) (ds : List D) (d : D) → m < length ds → StandsBefore (m + 1) (set ds m d) (Draw m d)
  stands-new m ds d h =
      let long = length-set ds m d in
      (omega arith, (omega arith, λ y. get_or-set_same ds m d y h))

  pub stands_plain : (m : ℕ) (ds : List D) (e : Entry D) → StandsBefore m ds e → Stands ds e
  stands_plain m ds (Draw n d) s = s.1
  stands_plain m ds (Enter n o) s = tt
  stands_plain m ds (Leave n) s = tt

  -- one call on
  pub ledger-push : {A : Type 0} (b : Ledger D) (cs : List (Call D)) (as' : List (Result A Refusal)) (c : Call D) (a : Result A Refusal) → length cs ≡ length as'
      → ledger_from b (cs ++ (c ∷ [])) (as' ++ (a ∷ [])) ≡ after (ledger_from b cs as') c a
  ledger-push b [] [] c a h = refl
  ledger-push b [] (y ∷ ys) c a h = absurd (omega arith)
  ledger-push b (x ∷ xs) [] c a h = absurd (omega arith)
  ledger-push b (x ∷ xs) (y ∷ ys) c a h = let p : length xs ≡ length ys = omega arith in ledger-push (after b x y) xs ys c a p
