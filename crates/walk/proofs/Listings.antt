-- Adding entries to a list, and the steps of a full walk.
use Rattle.std.proofs.Common.{◌≡◌, ℕ, suc, ◌+◌, ◌<◌, ◌≤◌, false, List, [], ◌∷◌, ◌++◌, reverse, length, take, drop, set, Some, None, Option, sym, refl, ap, ◌∙◌, append_assoc, arith, length-append, length-set}
use Rattle.std.proofs.lemmas.List.{append-nil, take_more_set, drop-set-lt, take-append-drop}
use Rattle.record.specs.Recording.{Recording}
use Rattle.layers.specs.declared.node.Node.{Node}
use Rattle.walk.specs.declared.listed.Listed.{Listed}
use Rattle.walk.specs.declared.listed.Listed.TheVariants.{Enter, Leave}
use Rattle.walk.specs.declared.listing.Listing.{Listing}
use Rattle.walk.specs.Listing.{poured, Added, Walked}
use Rattle.walk.specs.FullWalk.{listed, entry_count}
use Rattle.walk.specs.Walk.{own_draws, walk, starts, room, Next}
use Rattle.walk.proofs.Walks.{layer_room, layer_held, around, walk-done, stretch-then, stretch-draws, stretch-layer}

pub poured-then : (a : ℕ) (xs ys out : List Listed) → poured a (xs ++ ys) out ≡ poured (a + length xs) ys (poured a xs out)
poured-then a [] ys out = let e : a + 0 ≡ a = omega arith in rw e
poured-then a (x ∷ xs) ys out = let e : a + suc (length xs) ≡ (a + 1) + length xs = omega arith in rw e (poured-then (a + 1) xs ys (set out a x))

-- where there are places for all entries, they stand between what stood before and after them
pub poured-whole : (a : ℕ) (es out : List Listed) → a + length es ≤ length out → poured a es out ≡ take a out ++ (es ++ drop (a + length es) out)
poured-whole a [] out h = let e : a + 0 ≡ a = omega arith in rw e (sym (take-append-drop a out))
poured-whole a (x ∷ es) out h =
    let lt : a < length out = omega arith in
    let far : a < (a + 1) + length es = omega arith in
    let n = length-set out a x in
    let e : a + suc (length es) ≡ (a + 1) + length es = omega arith in
    rw e
    (poured-whole (a + 1) es (set out a x) (omega arith)
    ∙ ap (λ z. z ++ (es ++ drop ((a + 1) + length es) (set out a x))) (take_more_set out a x lt)
    ∙ ap (λ z. (take a out ++ (x ∷ [])) ++ (es ++ z)) (drop-set-lt ((a + 1) + length es) out a x far)
    ∙ append_assoc (take a out) (x ∷ []) (es ++ drop ((a + 1) + length es) out))

pub length-poured : (a : ℕ) (es out : List Listed) → length (poured a es out) ≡ length out
length-poured a [] out = refl
length-poured a (x ∷ es) out = length-poured (a + 1) es (set out a x) ∙ length-set out a x

pub added_then : {xs ys : List Listed} {t u v : Listing} → Added xs t u → Added ys u v → Added (xs ++ ys) t v
added_then {xs} {ys} {t} {u} {v} p q = record {
  same = q.same ∙ p.same;
  count = omega (arith, length-append xs ys);
  places = q.places ∙ ap (λ z. poured z ys u.out.now) p.count ∙ ap (poured (t.count + length xs) ys) p.places ∙ sym (poured-then t.count xs ys t.out.now);
  long = q.long ∙ p.long;
}

pub walked_then : {o : Option ℕ} {ns mid end : List Node} {t u v : Listing} → Walked o ns t mid u → Walked o mid u end v → Walked o ns t end v
walked_then p q = record { whole = p.whole ++ q.whole; stretch = stretch-then p.stretch q.stretch; added = added_then p.added q.added }

-- there is room for as many entries after it as before
pub walked-rooms : {o : Option ℕ} {ns end : List Node} {t u : Listing} → Walked o ns t end u → u.count + room end ≡ t.count + room ns
walked-rooms p = omega (arith, p.added.count, p.stretch.rooms)

module _ {o : Option ℕ} {ns xs : List Node} {x : Node} {t u : Listing} (n : Next o ns x xs) (drawn : Added (own_draws x) t u) where
  -- a node that holds no layer
  pub walked-draws : x.layer ≡ None → Walked o ns t xs u
  walked-draws none = record { whole = own_draws x; stretch = stretch-draws n none; added = drawn }

  -- a node that holds the layer l
  pub walked-layer : {l : ℕ} {v w z : Listing} {end : List Node} → x.layer ≡ Some l → Added (Enter l ∷ []) u v → Walked (Some l) xs v end w → starts (Some l) end ≡ false → Added (Leave l ∷ []) w z → Walked o ns t end z
  walked-layer {l} some enter inner stopped left = record {
    whole = own_draws x ++ around l inner.whole;
    stretch = stretch-layer n some inner.stretch stopped;
    added = added_then drawn (added_then enter (added_then inner.added left));
  }

-- the walk of the root lists the recording, from the list's first place on
pub lists-all : (r : Recording) {ns end : List Node} {t u : Listing} → ns ≡ reverse r.tree.nodes → Walked None ns t end u → starts None end ≡ false → length (listed r) ≡ entry_count r → t.count ≡ 0
    → entry_count r ≤ length t.out.now → (u.count ≡ entry_count r) × (u.out.now ≡ listed r ++ drop u.count t.out.now)
lists-all r {ns} {end} {t} {u} all w stopped counted none fits =
    let out = t.out.now in
    let es = w.whole in
    let is : listed r ≡ es = ap (λ z. walk z [] []) (sym all) ∙ w.stretch.lines [] refl ∙ ap (λ z. es ++ z) (walk-done end [] stopped) ∙ append-nil es in
    let long : length es ≡ entry_count r = ap length (sym is) ∙ counted in
    let count : u.count ≡ 0 + length es = omega (arith, w.added.count) in
    let written : u.out.now ≡ es ++ drop u.count out =
    w.added.places ∙ ap (λ z. poured z es out) none ∙ poured-whole 0 es out (omega arith) ∙ ap (λ z. es ++ drop z out) (sym count) in
    (omega arith, written ∙ ap (λ z. z ++ drop u.count out) (sym is))

-- what a turn of the walk goes by
pub ruleset walk_steps = (layer_room, layer_held, walked-rooms)
