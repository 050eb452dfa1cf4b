-- The kind that the first line with a meaning gives.
use Rattle.std.proofs.Common.{◌≡◌, ℕ, suc, ◌+◌, ◌<◌, zero, List, [], ◌∷◌, IfSome, IsTrue, IsUtf8, MatchOption, Some, None, Option, refl, sym, subst, inl, inr, arith}
use Rattle.std.specs.Fn.{Called}
use Rattle.std.specs.Iterator.{Yields}
use Rattle.std.specs.Iterator.Runs.{SomeRun, YieldsRun, AllItemsGive, IsFirstToGive}
use Rattle.std.specs.List.{slice_get}
use Rattle.std.specs.Option.{unwrap_or, IsSomeAnd}
use denote.Param.Members.{Mut}
use Rattle.text.specs.Words.{words_of}
use Rattle.calls.specs.declared.draw_line.Kind.{Kind}
use Rattle.calls.specs.declared.draw_line.Kind.TheVariants as kind
use Rattle.calls.specs.Calls.{PassedOver}
use Rattle.script.specs.Readings.{head_kind, GivesKind}

-- what a line gives: nothing where it is passed over
abbrev pub LineGives : List ℕ → Option Kind → Type 0
LineGives line o = MatchOption o (PassedOver (words_of line)) (λ k. IsUtf8 line → k ≡ head_kind (words_of line))

-- calls of g on the lines that come from an iterator, one after another
module _ {S A F : Type 0} (steps : S → Option A → S → Type 0) (rest : S → List (List ℕ)) (bytes : A → List ℕ) (none : (s t : S) → steps s None t → rest s ≡ []) (some : (s : S) (x : A) (t : S) → steps s (Some x) t → rest s ≡ bytes x ∷ rest t) (g : Mut F (A × Unit {0}) (Option Kind)) (f : F) (gives : (x : A) (o : Option Kind) (q : F) → Called g f (x, tt) o q → (q ≡ f) × LineGives (bytes x) o) where
  over : (xs : List A) (s t : S) (k : Kind) → Yields steps s xs t → ((i : ℕ) → IfSome (slice_get xs i) (λ x. Called g f (x, tt) None f)) → GivesKind (rest t) k → GivesKind (rest s) k
  over [] s t k e all then = subst (λ s. GivesKind (rest s) k) (sym e) then
  over (x ∷ xs) s t k (j, step, more) all then =
      rw (some s x j step) (inl ((gives x None f (all 0)).1, over xs j t k more (λ i. all (suc i)) then))

  first : (xs : List A) (i : ℕ) (s t : S) (k : Kind) → Yields steps s xs t → ((n : ℕ) → n < i → IsSomeAnd (slice_get xs n) (λ x. Called g f (x, tt) None f)) → IsSomeAnd (slice_get xs i) (λ x. Called g f (x, tt) (Some k) f) → GivesKind (rest s) k
  first [] i s t k e before here = absurd here
  first (x ∷ xs) zero s t k (j, step, more) before here = rw (some s x j step) (inr (gives x (Some k) f here).1)
  first (x ∷ xs) (suc i) s t k (j, step, more) before here =
      rw (some s x j step) (inl ((gives x None f (before 0 (omega arith))).1, first xs i j t k more (λ n lt. before (suc n) (omega arith)) here))

  -- the kind that `find_map` finds, and that of fills where it finds none
  pub found-kind : (s : S) (r : Option Kind) → SomeRun steps s (λ p. MatchOption r (IsTrue p.whole × AllItemsGive p g f None) (λ k. (i : ℕ) × (i < p.len) × (p.len ≡ i + 1) × IsFirstToGive p g f (Some k) None i)) → GivesKind (rest s) (unwrap_or r kind.Fill)
  unfolding YieldsRun
  found-kind s None (p, from, told) =
      let (run, reads) = p.gave in
      let end = run.2 told.0 in
      let then : GivesKind (rest run.0) kind.Fill = rw (none run.0 end.0 end.1) refl in
      subst (λ s. GivesKind (rest s) kind.Fill) from (over p.items p.from run.0 kind.Fill run.1 (λ i. subst (λ o. IfSome o (λ x. Called g f (x, tt) None f)) (reads i) (told.1 (λ a o q called. (gives a.0 o q called).0) i)) then)
  found-kind s (Some k) (p, from, told) =
      let (run, reads) = p.gave in
      let calls = told.3 (λ a o q called. (gives a.0 o q called).0) in
      subst (λ s. GivesKind (rest s) k) from (first p.items told.0 p.from run.0 k run.1 (λ n lt. subst (λ o. IsSomeAnd o (λ x. Called g f (x, tt) None f)) (reads n) (calls.1 n lt)) (subst (λ o. IsSomeAnd o (λ x. Called g f (x, tt) (Some k) f)) (reads told.0) calls.0))
