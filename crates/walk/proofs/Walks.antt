-- What a walk lists of one node, and of the nodes up to another.
use Rattle.std.proofs.Common.{◌≡◌, ℕ, zero, suc, ◌+◌, ◌-◌, ◌*◌, ◌≤◌, Bool, true, false, cond, List, [], ◌∷◌, ◌++◌, length, Some, None, Option, sym, refl, ap, ◌∙◌, append_assoc, arith, length-append}
use Rattle.std.proofs.lemmas.List.{append-nil}
use Rattle.layers.specs.declared.node.Node.{Node}
use Rattle.record.specs.Nesting.{pushed, seek}
use Rattle.record.specs.Table.{same, top, held, holding}
use Rattle.record.proofs.Nestings.{same_self}
use Rattle.walk.specs.declared.listed.Listed.{Listed}
use Rattle.walk.specs.declared.listed.Listed.TheVariants.{Draw, Enter, Leave}
use Rattle.walk.specs.Walk.{own_draws, walk, told, leaves, unwind, spanned, entered, starts, room, Next, Stretch}

-- a node of the layer that the walk is in
walk_here : (x : Node) (xs : List Node) (out : List Listed) (s : List ℕ) → same x.owner (top s) ≡ true → walk (x ∷ xs) out s ≡ walk xs (told out x) (pushed x.layer s)
walk_here x xs out [] e = rw e
walk_here x xs out (l ∷ s) e = rw (e, e)

-- where no node of the root follows, the walk is done
pub walk-done : (xs : List Node) (out : List Listed) → starts None xs ≡ false → walk xs out [] ≡ out
walk-done [] out e = refl
walk-done (x ∷ xs) out e = rw e

-- a walk only adds to the entries
unwind-out : (p out : List Listed) (s : List ℕ) → unwind (p ++ out) s ≡ p ++ unwind out s
unwind-out p out [] = refl
unwind-out p out (l ∷ s) = ap (λ z. unwind z s) (append_assoc p out (Leave l ∷ [])) ∙ unwind-out p (out ++ (Leave l ∷ [])) s

cond-push : {X Y : Type 0} (f : X → Y) (b : Bool) (x y : X) → cond b (f x) (f y) ≡ f (cond b x y)
cond-push f true x y = refl
cond-push f false x y = refl

leaves-out : (o : Option ℕ) (p out : List Listed) (s : List ℕ) → leaves o (p ++ out) s ≡ p ++ leaves o out s
leaves-out o p out [] = refl
leaves-out o p out (l ∷ s) =
    ap (λ z. cond (same o (Some l)) (p ++ out) z) (ap (λ z. leaves o z s) (append_assoc p out (Leave l ∷ [])) ∙ leaves-out o p (out ++ (Leave l ∷ [])) s)
    ∙ cond-push (λ z. p ++ z) (same o (Some l)) out (leaves o (out ++ (Leave l ∷ [])) s)

entered-out : (l : Option ℕ) (p out : List Listed) → entered l (p ++ out) ≡ p ++ entered l out
entered-out None p out = refl
entered-out (Some l) p out = append_assoc p out (Enter l ∷ [])

told-out : (p out : List Listed) (x : Node) → told (p ++ out) x ≡ p ++ told out x
told-out p out x =
    let draws = own_draws x in
    ap (entered x.layer) (append_assoc p out draws) ∙ entered-out x.layer p (out ++ draws)

walk-out : (xs : List Node) (p out : List Listed) (s : List ℕ) → walk xs (p ++ out) s ≡ p ++ walk xs out s
walk-out [] p out s = unwind-out p out s
walk-out (x ∷ xs) p out s =
    let t = same x.owner (top (seek x.owner s)) in
    let s' = pushed x.layer (seek x.owner s) in
    let lo = leaves-out x.owner p out s in
    let first = ap (λ z. walk xs (told z x) s') lo ∙ ap (λ z. walk xs z s') (told-out p (leaves x.owner out s) x) ∙ walk-out xs p (told (leaves x.owner out s) x) s' in
    ap (λ z. cond t z (leaves x.owner (p ++ out) s)) first
    ∙ ap (λ z. cond t (p ++ walk xs (told (leaves x.owner out s) x) s') z) lo
    ∙ cond-push (λ z. p ++ z) t (walk xs (told (leaves x.owner out s) x) s') (leaves x.owner out s)

-- the entries from there on, with none before
pub walk_from : (xs : List Node) (p : List Listed) (s : List ℕ) → walk xs p s ≡ p ++ walk xs [] s
walk_from xs p s = ap (λ z. walk xs z s) (sym (append-nil p)) ∙ walk-out xs p [] s

-- where no node of the layer l follows, the walk leaves it
pub leave : (xs : List Node) (l : ℕ) (s : List ℕ) → starts (Some l) xs ≡ false → walk xs [] (l ∷ s) ≡ Leave l ∷ walk xs [] s
leave [] l s e = walk_from [] (Leave l ∷ []) s
leave (x ∷ xs) l s e = rw e (walk_from (x ∷ xs) (Leave l ∷ []) s)

-- the layer l around what is inside it
abbrev pub around : ℕ → List Listed → List Listed
around l inner = Enter l ∷ (inner ++ (Leave l ∷ []))

pub length-spanned : (a k : ℕ) → length (spanned a k) ≡ k
length-spanned a zero = refl
length-spanned a (suc k) = length-append (spanned a k) (Draw (a + k) ∷ []) ∙ (let e = length-spanned a k in omega arith)

-- one draw more
pub spanned_more : (a n : ℕ) → a ≤ n → spanned a (n + 1 - a) ≡ spanned a (n - a) ++ (Draw n ∷ [])
spanned_more a n h =
    let one : n + 1 - a ≡ suc (n - a) = omega arith in
    let at : a + (n - a) ≡ n = omega arith in
    rw (one, at)

pub stretch-then : {o : Option ℕ} {ns mid end : List Node} {xs ys : List Listed} → Stretch o ns mid xs → Stretch o mid end ys → Stretch o ns end (xs ++ ys)
stretch-then {o} {ns} {mid} {end} {xs} {ys} p q =
    record {
      shorter = omega arith;
      lines = λ s e. p.lines s e ∙ ap (λ z. xs ++ z) (q.lines s e) ∙ sym (append_assoc xs ys (walk end [] s));
      rooms = omega (arith, length-append xs ys);
      fewer = omega arith;
    }

module _ {o : Option ℕ} {ns xs : List Node} {x : Node} (n : Next o ns x xs) where
  next-room : room ns ≡ ((x.end - x.start) + 2 * holding x.layer) + room xs
  next-room = ap room n.first

  next-held : held ns ≡ holding x.layer + held xs
  next-held = ap held n.first

  next-length : length ns ≡ length xs + 1
  next-length = ap length n.first ∙ omega arith

  -- where the node holds a layer
  module _ {l : ℕ} (some : x.layer ≡ Some l) where
    pub layer_room : room ns ≡ (length (own_draws x) + 2) + room xs
    layer_room = let z = ap holding some in omega (arith, next-room, length-spanned x.start (x.end - x.start))

    pub layer_held : held ns ≡ 1 + held xs
    layer_held = let z = ap holding some in omega (arith, next-held)

  -- the node's own entries, then the rest
  own-lines : (s : List ℕ) → top s ≡ o → walk ns [] s ≡ entered x.layer (own_draws x) ++ walk xs [] (pushed x.layer s)
  own-lines s e =
      let own : same x.owner (top s) ≡ true = ap (λ z. same z (top s)) (n.own ∙ sym e) ∙ same_self (top s) in
      ap (λ z. walk z [] s) n.first ∙ walk_here x xs [] s own ∙ walk_from xs (told [] x) (pushed x.layer s)

  -- a node that holds no layer: its draws
  pub stretch-draws : x.layer ≡ None → Stretch o ns xs (own_draws x)
  stretch-draws none =
      let z = ap holding none in
      record {
        shorter = omega (arith, next-length);
        lines = λ s e. own-lines s e ∙ ap (λ z. entered z (own_draws x) ++ walk xs [] (pushed z s)) none;
        rooms = omega (arith, next-room, length-spanned x.start (x.end - x.start));
        fewer = omega (arith, next-held);
      }

  -- a node that holds the layer l: its draws, and the layer around what is inside
  pub stretch-layer : {l : ℕ} {end : List Node} {inner : List Listed} → x.layer ≡ Some l → Stretch (Some l) xs end inner → starts (Some l) end ≡ false → Stretch o ns end (own_draws x ++ around l inner)
  stretch-layer {l} {end} {inner} some w stopped =
      let z = ap holding some in
      let draws = own_draws x in
      record {
        shorter = omega (arith, next-length, w.shorter);
        lines = λ s e.
            own-lines s e
            ∙ ap (λ z. entered z draws ++ walk xs [] (pushed z s)) some
            ∙ append_assoc draws (Enter l ∷ []) (walk xs [] (l ∷ s))
            ∙ ap (λ z. draws ++ (Enter l ∷ z)) (w.lines (l ∷ s) refl ∙ ap (λ z. inner ++ z) (leave end l s stopped) ∙ sym (append_assoc inner (Leave l ∷ []) (walk end [] s)))
            ∙ sym (append_assoc draws (around l inner) (walk end [] s));
        rooms = omega (arith, next-room, w.rooms, length-append draws (around l inner), length-append inner (Leave l ∷ []), length-spanned x.start (x.end - x.start));
        fewer = omega (arith, next-held, w.fewer);
      }
