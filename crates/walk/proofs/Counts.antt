-- How many entries a walk of a recording has.
use Rattle.std.proofs.Common.{◌≡◌, ℕ, ◌+◌, ◌-◌, ◌*◌, true, false, List, [], ◌∷◌, ◌++◌, reverse, length, Some, None, Option, sym, refl, ap, ◌∙◌, ⊎_elim, append_assoc, arith, length-append}
use mathlib.Core.List.{reverse-cons}
use mathlib.Core.Logic.{∥∥₁_elim}
use denote.Struct.Props.{props}
use Rattle.std.proofs.lemmas.List.{append-nil}
use Rattle.std.proofs.lemmas.List.Recursion.{is_sum_by}
use Rattle.std.proofs.lemmas.List.Sorted.{sum_by-IsPermutation, IsPermutation-reverse}
use Rattle.std.proofs.lemmas.Bool.{cases_Bool}
use Rattle.layers.specs.declared.node.Node.{Node}
use mathlib.Core.Logic.{∥∥₁_elim}
use denote.Struct.Props.{props}
use Rattle.record.specs.Recording.{Recording}
use Rattle.record.specs.Sound.{Sound}
use Rattle.record.specs.Nesting.{pushed, seek, spine, Found}
use Rattle.record.specs.Table.{same, top, span_end, Chained, held, holding}
use Rattle.record.proofs.Nestings.{same_self}
use Rattle.walk.specs.declared.listed.Listed.{Listed}
use Rattle.walk.specs.declared.listed.Listed.TheVariants.{Enter, Leave}
use Rattle.walk.specs.FullWalk.{listed, entry_count}
use Rattle.walk.specs.Walk.{walk, told, leaves, unwind, spanned, entered, room}
use Rattle.walk.proofs.Walks.{length-spanned}

-- the entries of a table read from its last node back
abbrev pub lines : List Node → List Listed
lines [] = []
lines (x ∷ older) = told (leaves x.owner (lines older) (spine older)) x

-- both ways round the table says the same
pub walk-reverse : (t ys : List Node) → Found t → walk (reverse t ++ ys) [] [] ≡ walk ys (lines t) (spine t)
walk-reverse [] ys f = refl
walk-reverse (x ∷ older) ys f =
    let r : reverse (x ∷ older) ++ ys ≡ reverse older ++ (x ∷ ys) = ap (λ z. z ++ ys) (reverse-cons x older) ∙ append_assoc (reverse older) (x ∷ []) ys in
    let own : same x.owner (top (seek x.owner (spine older))) ≡ true = rw f.0 (same_self x.owner) in
    ap (λ z. walk z [] []) r ∙ walk-reverse older (x ∷ ys) f.1 ∙ rw own refl

length-entered : (o : Option ℕ) (out : List Listed) → length (entered o out) ≡ length out + holding o
length-entered None out = omega arith
length-entered (Some l) out = length-append out (Enter l ∷ [])

length-pushed : (o : Option ℕ) (s : List ℕ) → length (pushed o s) ≡ length s + holding o
length-pushed None s = omega arith
length-pushed (Some l) s = omega arith

length-leaves : (o : Option ℕ) (out : List Listed) (s : List ℕ) → length (leaves o out s) + length (seek o s) ≡ length out + length s
length-leaves o out [] = refl
length-leaves o out (l ∷ s) =
    ⊎_elim (λ (e : same o (Some l) ≡ true). rw e) (λ (e : same o (Some l) ≡ false). let n = length-leaves o (out ++ (Leave l ∷ [])) s in let m = length-append out (Leave l ∷ []) in rw e (omega arith))
    (cases_Bool (same o (Some l)))

length-unwind : (out : List Listed) (s : List ℕ) → length (unwind out s) ≡ length out + length s
length-unwind out [] = omega arith
length-unwind out (l ∷ s) = let n = length-unwind (out ++ (Leave l ∷ [])) s in let m = length-append out (Leave l ∷ []) in omega arith

-- the entries so far, and one Leave for each layer not left
length-lines : (t : List Node) → length (lines t) + length (spine t) ≡ room t
length-lines [] = refl
length-lines (x ∷ older) =
    let base = leaves x.owner (lines older) (spine older) in
    let draws = spanned x.start (x.end - x.start) in
    let a = length-entered x.layer (base ++ draws) in
    let b = length-append base draws in
    let c = length-spanned x.start (x.end - x.start) in
    let d = length-pushed x.layer (seek x.owner (spine older)) in
    let e = length-leaves x.owner (lines older) (spine older) in
    let f = length-lines older in
    omega arith

room-chained : (t : List Node) → Chained t → room t ≡ span_end t + 2 * held t
room-chained [] w = refl
room-chained (x ∷ older) w = let e = room-chained older w.2 in let a = w.0 in let b = w.1 in omega arith

-- a sum over the nodes is the same from the first node on
sum-reverse : (F : List Node → ℕ) (f : Node → ℕ) → F [] ≡ 0 → ((x : Node) (xs : List Node) → F (x ∷ xs) ≡ f x + F xs) → (t : List Node) → F (reverse t) ≡ F t
sum-reverse F f none more t = is_sum_by F f none more (reverse t) ∙ sum_by-IsPermutation f t (reverse t) (IsPermutation-reverse t) ∙ sym (is_sum_by F f none more t)

room-reverse : (t : List Node) → room (reverse t) ≡ room t
room-reverse = sum-reverse room (λ x. (x.end - x.start) + 2 * holding x.layer) refl (λ x xs. refl)

held-reverse : (t : List Node) → held (reverse t) ≡ held t
held-reverse = sum-reverse held (λ x. holding x.layer) refl (λ x xs. refl)

pub walk-length : (t : List Node) → Found t → length (walk (reverse t) [] []) ≡ room t
walk-length t f =
    let e : walk (reverse t) [] [] ≡ unwind (lines t) (spine t) = ap (λ z. walk z [] []) (sym (append-nil (reverse t))) ∙ walk-reverse t [] f in
    ap length e ∙ length-unwind (lines t) (spine t) ∙ length-lines t

pub room-counted : (t : List Node) (n l : ℕ) → Chained t → span_end t ≡ n → held t ≡ l → room t ≡ n + 2 * l
room-counted t n l c e h = let r = room-chained t c in omega arith

-- how many entries and layers a recorder's nodes have
module _ (r : Recording) (w : Sound r.account r.tree) where
  held-nodes : held r.tree.nodes ≡ r.account.layers
  held-nodes = ∥∥₁_elim w.1 (hlevel props) (λ x. x.threads.holds)

  room-nodes : room r.tree.nodes ≡ entry_count r
  room-nodes = ∥∥₁_elim w.1 (hlevel props) (λ x. room-counted r.tree.nodes r.account.drawn r.account.layers x.threads.chained x.threads.ends x.threads.holds)

  pub length_listed : length (listed r) ≡ entry_count r
  length_listed = ∥∥₁_elim w.1 (hlevel props) (λ x. walk-length r.tree.nodes x.threads.found) ∙ room-nodes

  -- the same of the nodes as the code has them
  pub recorded-held : {ns : List Node} → ns ≡ reverse r.tree.nodes → held ns ≡ r.account.layers
  recorded-held e = ap held e ∙ held-reverse r.tree.nodes ∙ held-nodes

  pub recorded-room : {ns : List Node} → ns ≡ reverse r.tree.nodes → room ns ≡ entry_count r
  recorded-room e = ap room e ∙ room-reverse r.tree.nodes ∙ room-nodes
