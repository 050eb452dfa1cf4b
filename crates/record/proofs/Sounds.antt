-- Each call keeps what holds of every recorder.
use Rattle.std.proofs.Common.{◌≡◌, ℕ, zero, suc, ◌+◌, ◌*◌, ◌<◌, ◌≤◌, Bool, true, false, List, [], ◌∷◌, ◌++◌, length, Some, None, Option, sym, refl, ap, ◌∙◌, subst, ⊎_elim, arith, length-append}
use mathlib.Core.Logic.{∥∥₁_map}
use denote.Struct.Props.{props}
use Rattle.std.proofs.lemmas.Bool.{cases_Bool}
use Rattle.geometry.specs.declared.rect.RectU16.{RectU16}
use Rattle.geometry.specs.Rect.{zero as nowhere}
use Rattle.draws.specs.declared.blend.BlendMode.{BlendMode}
use Rattle.filter.specs.declared.data.FilterData.{FilterData}
use Rattle.layers.specs.declared.layer.ClosedLayer.{ClosedLayer}
use Rattle.layers.specs.declared.layer.OpenLayer.{OpenLayer}
use Rattle.layers.specs.declared.layer.RecordedLayer.{RecordedLayer}
use Rattle.layers.specs.declared.node.Node.{Node}
use Rattle.layers.specs.declared.props.LayerProps.{LayerProps}
use Rattle.record.specs.Account.{AccountView, ids, account_after_draw, account_after_opening, account_after_closing}
use Rattle.layers.specs.Closing.{take_in}
use Rattle.record.specs.Nesting.{seek, spine, Falls}
use Rattle.record.specs.Sound.{Threads, Sound, UnclosedAt, AllUnclosed, UnplacedKind}
use Rattle.record.specs.Table.{same, top, joins, joint, one-if, node, holding, lengthen, hang, with_draw, with_layer}
use Rattle.layers.specs.Records.{recorded_open, open_kind, recorded_closed}
use Rattle.record.specs.Tree.{TreeView, tree_after_draw, tree_after_opening, tree_after_closing, with_filter, change_at}
use Rattle.record.proofs.Nestings.{same_self, same-equal, free-none, free_own, seek-self, falls-seek, seek-outer}

-- the same at equal views
pub sound-at : {a b : AccountView} {t u : TreeView} → a ≡ b → t ≡ u → Sound b u → Sound a t
sound-at {a} {b} {t} {u} e f w =
    let P : AccountView → Type 0 = λ x. Sound x t in
    let Q : TreeView → Type 0 = λ y. Sound b y in
    subst P (sym e) (subst Q (sym f) w)

pub ids-take_in : (b : Option RectU16) (opened : List OpenLayer) → ids (take_in b opened) ≡ ids opened
ids-take_in b [] = refl
ids-take_in b (o ∷ outer) = refl

length-take_in : (b : Option RectU16) (opened : List OpenLayer) → length (take_in b opened) ≡ length opened
length-take_in b [] = refl
length-take_in b (o ∷ outer) = refl

one-if-le : (b : Bool) → one-if b ≤ 1
one-if-le true = omega arith
one-if-le false = omega arith

module _ (s : List ℕ) (n l : ℕ) where
  threads-lengthen : (nodes : List Node) → joins nodes (top s) ≡ true → Threads nodes s n l → Threads (lengthen (n + 1) nodes) s (n + 1) l
  threads-lengthen [] j w = let z : ◌≡◌ {A = ℕ} 0 1 = cc in absurd (omega arith)
  threads-lengthen (x ∷ older) j w = record {
    chained = (w.chained.0, omega (arith, w.chained.1, w.ends), w.chained.2);
    ends = refl;
    holds = w.holds;
    numbered = w.numbered;
    found = w.found;
    inside = w.inside;
    falls = w.falls;
  }

  threads-apart : (nodes : List Node) → Threads nodes s n l → Threads (node n (n + 1) None (top s) ∷ nodes) s (n + 1) l
  threads-apart nodes w = record {
    chained = (sym w.ends, omega arith, w.chained);
    ends = refl;
    holds = omega (arith, w.holds);
    numbered = (tt, w.numbered);
    found = (ap top w.inside, w.found);
    inside = rw w.inside (seek-self s);
    falls = falls-seek l (top s) (spine nodes) w.falls;
  }

  pub threads-draw : (nodes : List Node) → Threads nodes s n l → Threads (with_draw n (top s) nodes) s (n + 1) l
  threads-draw nodes w =
      ⊎_elim (λ j. rw j (threads-lengthen nodes j w)) (λ j. rw j (threads-apart nodes w)) (cases_Bool (joins nodes (top s)))

  -- where the last node joins, its owner's layers are the open ones
  joined-inside : (x : Node) (older : List Node) → joins (x ∷ older) (top s) ≡ true → Threads (x ∷ older) s n l → seek x.owner (spine older) ≡ s
  joined-inside x older j w =
      let none = free-none x.layer (same x.owner (top s)) j in
      let own = same-equal x.owner (top s) (free_own x.layer (same x.owner (top s)) j) in
      let q = seek x.owner (spine older) in
      let inner : seek (top s) q ≡ s = rw none at w.inside in
      let innermost : top q ≡ top s = w.found.0 ∙ own in
      sym (seek-self q) ∙ ap (λ o. seek o q) innermost ∙ inner

  threads-hang : (nodes : List Node) → joins nodes (top s) ≡ true → Threads nodes s n l → Threads (hang l nodes) (l ∷ s) n (l + 1)
  threads-hang [] j w = let z : ◌≡◌ {A = ℕ} 0 1 = cc in absurd (omega arith)
  threads-hang (x ∷ older) j w =
      let none = free-none x.layer (same x.owner (top s)) j in
      let here = joined-inside x older j w in
      let h = ap holding none in
      record {
        chained = w.chained;
        ends = w.ends;
        holds = omega (arith, w.holds, h);
        numbered = (omega (arith, w.holds, h), w.numbered.1);
        found = w.found;
        inside = seek-self (l ∷ seek x.owner (spine older)) ∙ ap (λ q. l ∷ q) here;
        falls = (omega arith, rw none at w.falls);
      }

  threads-layer : (nodes : List Node) → Threads nodes s n l → Threads (node n n (Some l) (top s) ∷ nodes) (l ∷ s) n (l + 1)
  threads-layer nodes w = record {
    chained = (sym w.ends, omega arith, w.chained);
    ends = refl;
    holds = omega (arith, w.holds);
    numbered = (sym w.holds, w.numbered);
    found = (ap top w.inside, w.found);
    inside = seek-self (l ∷ seek (top s) (spine nodes)) ∙ ap (λ q. l ∷ q) w.inside;
    falls = (omega arith, falls-seek l (top s) (spine nodes) w.falls);
  }

  pub threads-open : (nodes : List Node) → Threads nodes s n l → Threads (with_layer l n (top s) nodes) (l ∷ s) n (l + 1)
  threads-open nodes w =
      ⊎_elim (λ j. rw j (threads-hang nodes j w)) (λ j. rw j (threads-layer nodes w)) (cases_Bool (joins nodes (top s)))

  pub threads-close : (c : ℕ) (nodes : List Node) → Threads nodes (c ∷ s) n l → Threads nodes s n l
  threads-close c nodes w = record {
    chained = w.chained;
    ends = w.ends;
    holds = w.holds;
    numbered = w.numbered;
    found = w.found;
    inside = seek-outer l c (spine nodes) s w.falls w.inside;
    falls = w.falls;
  }

  -- the open layers fall too
  pub threads-falls : (nodes : List Node) → Threads nodes s n l → Falls l s
  threads-falls nodes w = subst (Falls l) w.inside (falls-seek l (top s) (spine nodes) w.falls)

-- how many nodes there are, for k open layers before
module _ (s : List ℕ) (k : ℕ) where
  length-lengthen : (b : ℕ) (nodes : List Node) → length (lengthen b nodes) ≡ length nodes
  length-lengthen b [] = refl
  length-lengthen b (x ∷ older) = refl

  joint-lengthen : (b : ℕ) (nodes : List Node) → joint (lengthen b nodes) (top s) ≡ joint nodes (top s)
  joint-lengthen b [] = refl
  joint-lengthen b (x ∷ older) = refl

  pub count-draw : (l n : ℕ) (nodes : List Node) → length nodes + k ≤ 2 * l + joint nodes (top s) → length (with_draw n (top s) nodes) + k ≤ 2 * l + joint (with_draw n (top s) nodes) (top s)
  count-draw l n nodes h =
      ⊎_elim (λ j. rw j (let a = length-lengthen (n + 1) nodes in let b = joint-lengthen (n + 1) nodes in omega arith))
      (λ j. rw j (let a = ap one-if j in let b = ap one-if (same_self (top s)) in omega arith))
      (cases_Bool (joins nodes (top s)))

  length-hang : (b : ℕ) (nodes : List Node) → length (hang b nodes) ≡ length nodes
  length-hang b [] = refl
  length-hang b (x ∷ older) = refl

  pub count-open : (l n : ℕ) (nodes : List Node) → length nodes + k ≤ 2 * l + joint nodes (top s)
      → length (with_layer l n (top s) nodes) + suc k ≤ 2 * (l + 1) + joint (with_layer l n (top s) nodes) (top (l ∷ s))
  count-open l n nodes h =
      ⊎_elim (λ j. rw j (let a = length-hang l nodes in let b = ap one-if j in omega arith)) (λ j. rw j (let a = ap one-if j in omega arith))
      (cases_Bool (joins nodes (top s)))

pub count-close : (l k : ℕ) (c : ℕ) (s : List ℕ) (nodes : List Node) → length nodes + suc k ≤ 2 * l + joint nodes (top (c ∷ s)) → length nodes + k ≤ 2 * l + joint nodes (top s)
count-close l k c s nodes h = let a = one-if-le (joins nodes (Some c)) in omega arith

-- records of open layers, with one more behind them, or another changed
unclosed-append : (layers : List RecordedLayer) (x : RecordedLayer) (l : ℕ) → UnclosedAt layers l → UnclosedAt (layers ++ (x ∷ [])) l
unclosed-append [] x l u = absurd u
unclosed-append (y ∷ layers) x zero u = u
unclosed-append (y ∷ layers) x (suc l) u = unclosed-append layers x l u

all_append : (layers : List RecordedLayer) (x : RecordedLayer) (s : List ℕ) → AllUnclosed layers s → AllUnclosed (layers ++ (x ∷ [])) s
all_append layers x [] u = tt
all_append layers x (l ∷ s) u = (unclosed-append layers x l u.0, all_append layers x s u.1)

unclosed-last : (layers : List RecordedLayer) (x : RecordedLayer) → (x.bbox ≡ nowhere) × UnplacedKind x.kind → UnclosedAt (layers ++ (x ∷ [])) (length layers)
unclosed-last [] x u = u
unclosed-last (y ∷ layers) x u = unclosed-last layers x u

open-unplaced : (f : Option FilterData) → UnplacedKind (open_kind f)
open-unplaced None = tt
open-unplaced (Some f) = refl

unclosed-change : (g : RecordedLayer → RecordedLayer) (layers : List RecordedLayer) (l c : ℕ) → l < c → UnclosedAt layers l → UnclosedAt (change_at g c layers) l
unclosed-change g [] l c h u = absurd u
unclosed-change g (x ∷ layers) l zero h u = absurd (omega arith)
unclosed-change g (x ∷ layers) zero (suc c) h u = u
unclosed-change g (x ∷ layers) (suc l) (suc c) h u = unclosed-change g layers l c (omega arith) u

all-change : (g : RecordedLayer → RecordedLayer) (layers : List RecordedLayer) (s : List ℕ) (b c : ℕ) → b ≤ c → Falls b s → AllUnclosed layers s → AllUnclosed (change_at g c layers) s
all-change g layers [] b c h f u = tt
all-change g layers (l ∷ s) b c h f u = (unclosed-change g layers l c (omega arith) u.0, all-change g layers s l c (omega arith) f.1 u.1)

pub length-change : {X : Type 0} (g : X → X) (i : ℕ) (xs : List X) → length (change_at g i xs) ≡ length xs
length-change g i [] = refl
length-change g zero (x ∷ xs) = refl
length-change g (suc i) (x ∷ xs) = ap suc (length-change g i xs)

pub sound-draw : (b : Option RectU16) (mode : Option BlendMode) (a : AccountView) (t : TreeView) → a.drawn < 1048576 → Sound a t → Sound (account_after_draw b mode a) (tree_after_draw a.drawn (top (ids a.opened)) t)
sound-draw b mode a t few w =
    let s = ids a.opened in
    let e = ids-take_in b a.opened in
    let n = length-take_in b a.opened in
    let c = count-draw s (length a.opened) a.layers a.drawn t.nodes w.0.0 in (
      (rw (e, n) c, w.0.1, w.0.2, w.0.3, omega arith, w.0.5, rw n w.0.6),
      ∥∥₁_map w.1 (λ x. record { threads = rw e (threads-draw s a.drawn a.layers t.nodes x.threads); unclosed = rw e x.unclosed }),
    )

length-filters : (f : Option FilterData) (l : ℕ) (filters : List ℕ) → length (with_filter f l filters) ≤ length filters + 1
length-filters None l filters = omega arith
length-filters (Some f) l filters = omega (arith, length-append filters (l ∷ []))

pub sound-open : (props : LayerProps) (f : Option FilterData) (d : ℕ) (a : AccountView) (t : TreeView) → a.layers < 256 → Sound a t
    → Sound (account_after_opening props f a) (tree_after_opening a.layers a.drawn (recorded_open props f d) f (top (ids a.opened)) t)
sound-open props f d a t few w =
    let s = ids a.opened in
    let c = count-open s (length a.opened) a.layers a.drawn t.nodes w.0.0 in
    let layer = recorded_open props f d in
    let long = length-append t.layers (layer ∷ []) in
    let more = length-filters f a.layers t.filters in (
      (c, omega (arith, w.0.1, long), omega (arith, w.0.2, more), omega arith, w.0.4, omega (arith, w.0.5, w.0.6), omega (arith, w.0.6)),
      ∥∥₁_map w.1 (λ x. record {
        threads = threads-open s a.drawn a.layers t.nodes x.threads;
        unclosed = (subst (UnclosedAt (t.layers ++ (layer ∷ []))) w.0.1 (unclosed-last t.layers layer (refl, open-unplaced f)), all_append t.layers layer s x.unclosed);
      }),
    )

pub sound-close : (k : ClosedLayer) (o : OpenLayer) (outer : List OpenLayer) (a : AccountView) (t : TreeView) → a.opened ≡ o ∷ outer → Sound a t → Sound (account_after_closing k a) (tree_after_closing o.id k t)
sound-close k o outer a t e w =
    let s = ids outer in
    let r = take_in (Some k.in_parent) outer in
    let i = ids-take_in (Some k.in_parent) outer in
    let n = length-take_in (Some k.in_parent) outer in
    let h : length t.nodes + suc (length outer) ≤ 2 * a.layers + joint t.nodes (top (o.id ∷ s)) = rw e at w.0.0 in
    let c = count-close a.layers (length outer) o.id s t.nodes h in
    let m = length-change (recorded_closed k) o.id t.layers in (
      (rw (e, i, n) c, m ∙ w.0.1, w.0.2, w.0.3, w.0.4, w.0.5, rw (e, n) (let many : suc (length outer) ≤ a.layers = rw e at w.0.6 in omega arith)),
      ∥∥₁_map w.1 (λ x.
          let y : Threads t.nodes (o.id ∷ s) a.drawn a.layers = rw e at x.threads in
          let u : AllUnclosed t.layers (o.id ∷ s) = rw e at x.unclosed in
          let f = threads-falls (o.id ∷ s) a.drawn a.layers t.nodes y in
          record {
            threads = rw (e, i) (threads-close s a.drawn a.layers o.id t.nodes y);
            unclosed = rw (e, i) (all-change (recorded_closed k) t.layers s o.id o.id (omega arith) f.1 u.1);
          }),
    )

-- the innermost open layer by its number
module _ (id : ℕ) (a : AccountView) (t : TreeView) (e : Some id ≡ top (ids a.opened)) (w : Sound a t) where
  pub sound-leave : (k : ClosedLayer) → Sound (account_after_closing k a) (tree_after_closing id k t)
  sound-leave k = go a.opened refl e
    where
      go : (opened : List OpenLayer) → a.opened ≡ opened → Some id ≡ top (ids opened) → Sound (account_after_closing k a) (tree_after_closing id k t)
      go [] p n = let z : ◌≡◌ {A = ℕ} 0 1 = cc in absurd (omega arith)
      go (o ∷ outer) p n = let same : o.id ≡ id = cc in subst (λ i. Sound (account_after_closing k a) (tree_after_closing i k t)) same (sound-close k o outer a t p w)
