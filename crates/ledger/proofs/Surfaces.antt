-- The surface of a filter layer: what stands between its Enter and its Leave, and what is the surface's own.
use Rattle.std.proofs.Common.{◌≡◌, ℕ, suc, ◌+◌, ◌<◌, ◌≤◌, Bool, true, false, ◌&&◌, eqb, List, [], ◌∷◌, ◌++◌, None, Option, sym, refl, ap, ◌∙◌, ap₂, ⊎_elim, arith}
use Rattle.std.proofs.lemmas.List.{append-nil}
use Rattle.std.proofs.Math.Arith.{lt_of_le-ne}
use Rattle.std.proofs.lemmas.Bool.{cases_Bool, cases_lt, cases_eq, cond-true, cond-false, eq-eqb, ne_eqb, not-true}
use Rattle.geometry.specs.declared.rect.RectU16.{RectU16}
use Rattle.geometry.specs.declared.tile.Tile.{Tile}
use Rattle.walk.specs.declared.listed.Listed.{Listed}
use Rattle.walk.specs.declared.listed.Listed.TheVariants as listed
use Rattle.tiles.specs.declared.showing.Showing.{Showing}
use Rattle.tiles.specs.declared.surface.Surface.TheVariants as surfaces
use Rattle.tiles.specs.Tile.{after, until, box_shows}
use Rattle.ledger.specs.Ledger.{Opening, numbers}
use Rattle.ledger.specs.Sheet.{Sheet, end, draw, layer, entries, contents}
use Rattle.ledger.specs.Tiles.{Around, all, regular, between, unclipped, shown, if_own, bracket, listings}
use Rattle.ledger.proofs.Kepts.{Agrees, layer-entries}
use Rattle.ledger.proofs.Sheets.{size, Ordered}
use Rattle.ledger.proofs.Tiles.{Apart, bracket-none, between_none, listings-none}

module _ {D : Type 0} (box_of : D → Option RectU16) (t : Tile) (l : ℕ) where
  -- a sheet whose layers are all numbered past l has no Leave and no Enter of it
  until-past : (x : Sheet D) (k : ℕ) (ys : List Listed) → Ordered k x → l < k → until l (numbers (entries x) ++ ys) ≡ numbers (entries x) ++ until l ys
  until-past end k ys o h = refl
  until-past (draw n d rest) k ys o h = ap (λ z. listed.Draw n ∷ z) (until-past rest k ys o h)
  until-past (layer n p inside rest) k ys o h =
      let ne : eqb n l ≡ false = ne_eqb n l (λ e. omega (arith, o.0)) in
      let i = until-past inside (suc k) (listed.Leave n ∷ (numbers (entries rest) ++ ys)) o.1.0 (omega arith) in
      let r = until-past rest (suc (k + size inside)) ys o.1.1 (omega arith) in
      let leave : until l (listed.Leave n ∷ (numbers (entries rest) ++ ys)) ≡ listed.Leave n ∷ (numbers (entries rest) ++ until l ys) = rw ne (ap (λ z. listed.Leave n ∷ z) r) in
      ap (until l) (layer-entries n p inside rest ys)
      ∙ ap (λ z. listed.Enter n ∷ z) (i ∙ ap (λ z. numbers (entries inside) ++ z) leave)
      ∙ sym (layer-entries n p inside rest (until l ys))

  -- where the numbers of a sheet's layers miss l, nothing of it follows an Enter of l
  after-missed : (x : Sheet D) (k : ℕ) (ys : List Listed) → Ordered k x → (k ≤ l → k + size x ≤ l) → after l (numbers (entries x) ++ ys) ≡ after l ys
  after-missed end k ys o h = refl
  after-missed (draw n d rest) k ys o h = after-missed rest k ys o h
  after-missed (layer n p inside rest) k ys o h =
      let ne : eqb n l ≡ false = ne_eqb n l (λ e. let q = h (omega (arith, o.0)) in omega (arith, o.0)) in
      ap (after l) (layer-entries n p inside rest ys)
      ∙ rw ne (after-missed inside (suc k) (listed.Leave n ∷ (numbers (entries rest) ++ ys)) o.1.0 (λ q. let z = h (omega arith) in omega arith) ∙ after-missed rest (suc (k + size inside)) ys o.1.1 (λ q. let z = h (omega arith) in omega arith))

  -- where the numbers of a sheet's layers miss l, none of its layers is layer l
  missed-apart : (x : Sheet D) (k : ℕ) → Ordered k x → (k ≤ l → k + size x ≤ l) → Apart (surfaces.Layer l) x
  missed-apart end k o h = tt
  missed-apart (draw i d rest) k o h = missed-apart rest k o h
  missed-apart (layer i p inside rest) k o h =
      let ne : l ≡ i → ⊥ = λ e. let q = h (omega (arith, o.0)) in omega (arith, o.0) in
      (ne_eqb l i ne, (missed-apart inside (suc k) o.1.0 (λ q. let z = h (omega arith) in omega arith), missed-apart rest (suc (k + size inside)) o.1.1 (λ q. let z = h (omega arith) in omega arith)))

  listings-missed : (x : Sheet D) (k : ℕ) (around : List Around) → Ordered k x → (k ≤ l → k + size x ≤ l) → between (surfaces.Layer l) around ≡ None → listings box_of (surfaces.Layer l) t x around ≡ []
  listings-missed x k around o h n = listings-none t (surfaces.Layer l) box_of x around (missed-apart x k o h) n

  -- inside the surface's layer the lists are those of a scene
  between-same : (m : Around) (inner around : List Around) → (l ≡ m.number → ⊥) → between (surfaces.Layer l) around ≡ between surfaces.Scene inner → between (surfaces.Layer l) (m ∷ around) ≡ between surfaces.Scene (m ∷ inner)
  between-same m inner around ne e =
      let other = ne_eqb l m.number ne in
      ⊎_elim (λ (r : regular m.opening.filter ≡ true). rw (r, e) refl) (λ (r : regular m.opening.filter ≡ false). rw (r, other) refl) (cases_Bool (regular m.opening.filter))

  bracket-same : (m : Around) (inner around : List Around) (e : Listed) (f : List Listed) → (l ≡ m.number → ⊥) → between (surfaces.Layer l) around ≡ between surfaces.Scene inner
      → bracket (surfaces.Layer l) t (m ∷ around) e f ≡ bracket surfaces.Scene t (m ∷ inner) e f
  bracket-same m inner around e f ne w =
      ⊎_elim (λ (r : regular m.opening.filter ≡ true). rw (r, w) refl) (λ (r : regular m.opening.filter ≡ false). rw (r, w) refl) (cases_Bool (regular m.opening.filter))

  listings-same : (x : Sheet D) (k : ℕ) (inner around : List Around) → Ordered k x → l < k → between (surfaces.Layer l) around ≡ between surfaces.Scene inner
      → listings box_of (surfaces.Layer l) t x around ≡ listings box_of surfaces.Scene t x inner
  listings-same end k inner around o h e = refl
  listings-same (draw i d rest) k inner around o h e =
      ap₂ (λ a b. shown (if_own a (all (unclipped t)) && box_shows t (box_of d)) (listed.Draw i) ++ b) e (listings-same rest k inner around o h e)
  listings-same (layer i p inside rest) k inner around o h e =
      let m : Around = record { number = i; opening = p; inner = contents box_of inside } in
      let ne : l ≡ i → ⊥ = λ q. omega (arith, o.0) in
      ap₂ (λ a b. a ++ b) (bracket-same m inner around (listed.Enter i) (listed.Filter i ∷ []) ne e)
      (ap₂ (λ a b. a ++ b) (listings-same inside (suc k) (m ∷ inner) (m ∷ around) o.1.0 (omega arith) (between-same m inner around ne e))
      (ap₂ (λ a b. a ++ b) (bracket-same m inner around (listed.Leave i) [] ne e) (listings-same rest (suc (k + size inside)) inner around o.1.1 (omega arith) e)))

module _ {D : Type 0} (box_of : D → Option RectU16) (t : Tile) (seen : ℕ → Bool) (shows : ℕ → Showing) (filters : ℕ → Bool) (l : ℕ) (is-filter : filters l ≡ true) where
  -- the sheet inside layer l: its entries stand between the layer's Enter and Leave, and the surface's own lists are its lists
  pub record Located (x : Sheet D) : Type 0 where
    pub inner : Sheet D
    pub lines : (ys : List Listed) → until l (after l (numbers (entries x) ++ ys)) ≡ numbers (entries inner)
    pub lists : (around : List Around) → between (surfaces.Layer l) around ≡ None → listings box_of (surfaces.Layer l) t x around ≡ listings box_of surfaces.Scene t inner []
    pub agree : Agrees box_of t seen shows filters inner

  -- layer l itself
  located_here : (n : ℕ) (p : Opening) (inside rest : Sheet D) (k : ℕ) → Ordered k (layer n p inside rest) → l ≡ n → Agrees box_of t seen shows filters (layer n p inside rest) → Located (layer n p inside rest)
  located_here n p inside rest k o e a =
      let m : Around = record { number = n; opening = p; inner = contents box_of inside } in
      let r : regular p.filter ≡ false = not-true (regular p.filter) (sym a.0.1 ∙ ap filters (sym e) ∙ is-filter) in
      let same : eqb n l ≡ true = eq-eqb n l (sym e) in
      let same' : eqb l n ≡ true = eq-eqb l n e in
      record {
        inner = inside;
        lines = λ ys.
            ap (λ z. until l (after l z)) (layer-entries n p inside rest ys)
            ∙ ap (until l) (cond-true (eqb n l) _ _ same)
            ∙ until-past box_of t l inside (suc k) (listed.Leave n ∷ (numbers (entries rest) ++ ys)) o.1.0 (omega (arith, o.0))
            ∙ ap (λ z. numbers (entries inside) ++ z) (cond-true (eqb n l) _ _ same)
            ∙ append-nil (numbers (entries inside));
        lists = λ around none.
            ap₂ (λ x y. x ++ y) (bracket-none t (surfaces.Layer l) m around (listed.Enter n) (listed.Filter n ∷ []) none)
            (ap₂ (λ x y. x ++ y) (listings-same box_of t l inside (suc k) [] (m ∷ around) o.1.0 (omega (arith, o.0)) (rw (r, same') refl))
            (ap₂ (λ x y. x ++ y) (bracket-none t (surfaces.Layer l) m around (listed.Leave n) [] none) (listings-missed box_of t l rest (suc (k + size inside)) around o.1.1 (λ q. absurd (omega (arith, o.0))) none)))
            ∙ append-nil (listings box_of surfaces.Scene t inside []);
        agree = a.1.0;
      }

  -- layer l among those inside another layer
  located-inside : (n : ℕ) (p : Opening) (inside rest : Sheet D) (k : ℕ) → Ordered k (layer n p inside rest) → (l ≡ n → ⊥) → l < suc (k + size inside) → Located inside → Located (layer n p inside rest)
  located-inside n p inside rest k o ne below w =
      let m : Around = record { number = n; opening = p; inner = contents box_of inside } in
      let other : eqb n l ≡ false = ne_eqb n l (λ e. ne (sym e)) in
      record {
        inner = w.inner;
        lines = λ ys.
            ap (λ z. until l (after l z)) (layer-entries n p inside rest ys) ∙ ap (until l) (cond-false (eqb n l) _ _ other) ∙ w.lines (listed.Leave n ∷ (numbers (entries rest) ++ ys));
        lists = λ around none.
            ap₂ (λ x y. x ++ y) (bracket-none t (surfaces.Layer l) m around (listed.Enter n) (listed.Filter n ∷ []) none)
            (ap₂ (λ x y. x ++ y) (w.lists (m ∷ around) (between_none t (surfaces.Layer l) m around (ne_eqb l n ne) none))
            (ap₂ (λ x y. x ++ y) (bracket-none t (surfaces.Layer l) m around (listed.Leave n) [] none) (listings-missed box_of t l rest (suc (k + size inside)) around o.1.1 (λ q. absurd (omega arith)) none)))
            ∙ append-nil (listings box_of surfaces.Scene t w.inner []);
        agree = w.agree;
      }

  -- layer l after another layer
  located-behind : (n : ℕ) (p : Opening) (inside rest : Sheet D) (k : ℕ) → Ordered k (layer n p inside rest) → (l ≡ n → ⊥) → suc (k + size inside) ≤ l → Located rest → Located (layer n p inside rest)
  located-behind n p inside rest k o ne above w =
      let m : Around = record { number = n; opening = p; inner = contents box_of inside } in
      let other : eqb n l ≡ false = ne_eqb n l (λ e. ne (sym e)) in
      record {
        inner = w.inner;
        lines = λ ys.
            ap (λ z. until l (after l z)) (layer-entries n p inside rest ys)
            ∙ ap (until l) (cond-false (eqb n l) _ _ other ∙ after-missed box_of t l inside (suc k) (listed.Leave n ∷ (numbers (entries rest) ++ ys)) o.1.0 (λ q. omega arith))
            ∙ w.lines ys;
        lists = λ around none.
            ap₂ (λ x y. x ++ y) (bracket-none t (surfaces.Layer l) m around (listed.Enter n) (listed.Filter n ∷ []) none)
            (ap₂ (λ x y. x ++ y) (listings-missed box_of t l inside (suc k) (m ∷ around) o.1.0 (λ q. omega arith) (between_none t (surfaces.Layer l) m around (ne_eqb l n ne) none))
            (ap₂ (λ x y. x ++ y) (bracket-none t (surfaces.Layer l) m around (listed.Leave n) [] none) (w.lists around none)));
        agree = w.agree;
      }

  pub locate : (x : Sheet D) (k : ℕ) → Ordered k x → k ≤ l → l < k + size x → Agrees box_of t seen shows filters x → Located x
  locate end k o a b g = absurd (omega arith)
  locate (draw n d rest) k o a b g =
      let w = locate rest k o a b g.1 in
      record { inner = w.inner; lines = w.lines; lists = λ around none. rw none (w.lists around none); agree = w.agree }
  locate (layer n p inside rest) k o a b g =
      ⊎_elim (λ e. located_here n p inside rest k o e g)
      (λ ne.
      let past : suc k ≤ l = omega (arith, lt_of_le-ne a (λ q. ne (sym q ∙ sym o.0))) in
      ⊎_elim (λ below. located-inside n p inside rest k o ne below (locate inside (suc k) o.1.0 past (omega arith) g.1.0))
      (λ above. located-behind n p inside rest k o ne above (locate rest (suc (k + size inside)) o.1.1 above (omega arith) g.1.1))
      (cases_lt l (suc (k + size inside))))
      (cases_eq l n)
