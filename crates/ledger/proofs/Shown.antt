-- What a table shows of the entries recorded so far, and that each call adds its own.
use Rattle.std.proofs.Common.{◌≡◌, ℕ, suc, ◌+◌, ◌-◌, ◌<◌, true, List, [], ◌∷◌, ◌++◌, reverse, Some, None, sym, refl, ap, ◌∙◌, subst, append_assoc, arith}
use Rattle.std.proofs.lemmas.List.{append-nil}
use Rattle.layers.specs.declared.node.Node.{Node}
use Rattle.record.specs.Nesting.{seek, spine, Found, Falls}
use Rattle.record.specs.Table.{same, top, joins, node, lengthen, hang, span_end, Chained}
use Rattle.record.proofs.Nestings.{free-none, free_own}
use Rattle.walk.specs.declared.listed.Listed.{Listed}
use Rattle.walk.specs.declared.listed.Listed.TheVariants.{Draw, Enter, Leave}
use Rattle.walk.specs.Walk.{walk, spanned, leaves, unwind}
use Rattle.walk.proofs.Counts.{lines, walk-reverse}
use Rattle.ledger.proofs.Spines.{falls-after, seek-past, leaves-past, none-past, unwind-push}

-- a last node without a layer is of the layer that the walk is in
abbrev pub Tidy : List Node → List ℕ → Type 0
Tidy [] s = Unit {0}
Tidy (x ∷ older) s = x.layer ≡ None → top s ≡ x.owner

-- The table t, the open layers s and l layers show the lines `out`:
-- the layers `past` are closed, and no node has come since to say so.
pub record Shown (out : List Listed) (t : List Node) (s : List ℕ) (l : ℕ) : Type 0 where
  pub past : List ℕ
  pub told : out ≡ unwind (lines t) past
  pub stack : spine t ≡ past ++ s
  pub falls : Falls l (past ++ s)
  pub tidy : Tidy t (past ++ s)
  pub found : Found t

module _ (out : List Listed) (s : List ℕ) (l : ℕ) where
  -- where the last node joins, no closed layer stands between
  joined-past : (x : Node) (older : List Node) → joins (x ∷ older) (top s) ≡ true → (w : Shown out (x ∷ older) s l) → w.past ≡ []
  joined-past x older j w =
      let none = free-none x.layer (same x.owner (top s)) j in
      let own = free_own x.layer (same x.owner (top s)) j in
      none-past l w.past s w.falls (rw (w.tidy none) own)

  pub shown-lengthen : (n : ℕ) (t : List Node) → joins t (top s) ≡ true → span_end t ≡ n → Chained t → Shown out t s l → Shown (out ++ (Draw n ∷ [])) (lengthen (n + 1) t) s l
  shown-lengthen n [] j ends chain w = absurd (cc)
  shown-lengthen n (x ∷ older) j ends chain w =
      let none = free-none x.layer (same x.owner (top s)) j in
      let p = joined-past x older j w in
      let a = x.start in
      let one : n + 1 - a ≡ suc (n - a) = omega arith in
      let at : a + (n - a) ≡ n = omega arith in
      let base = leaves x.owner (lines older) (spine older) in
      let was : out ≡ base ++ spanned a (n - a) = w.told ∙ rw (p, none, ends) refl in
      let assoc = append_assoc base (spanned a (n - a)) (Draw n ∷ []) in
      record {
        past = [];
        told = rw (none, one, at) (ap (λ z. z ++ (Draw n ∷ [])) was ∙ assoc);
        stack = w.stack ∙ ap (λ z. z ++ s) p;
        falls = rw p at w.falls;
        tidy = λ e. rw p at (w.tidy e);
        found = w.found;
      }

  pub shown-draw : (n : ℕ) (t : List Node) → Shown out t s l → Shown (out ++ (Draw n ∷ [])) (node n (n + 1) None (top s) ∷ t) s l
  shown-draw n t w =
      let one : n + 1 - n ≡ 1 = omega arith in
      let at : n + 0 ≡ n = omega arith in
      let left = leaves-past l w.past s (lines t) w.falls in
      let now = seek-past l w.past s w.falls in
      record {
        past = [];
        told = rw (w.stack, left, one, at) (ap (λ z. z ++ (Draw n ∷ [])) w.told);
        stack = rw w.stack now;
        falls = falls-after l w.past s w.falls;
        tidy = λ e. refl;
        found = (rw w.stack (ap top now), w.found);
      }

  pub shown-hang : (t : List Node) → joins t (top s) ≡ true → Shown out t s l → Shown (out ++ (Enter l ∷ [])) (hang l t) (l ∷ s) (l + 1)
  shown-hang [] j w = absurd (cc)
  shown-hang (x ∷ older) j w =
      let none = free-none x.layer (same x.owner (top s)) j in
      let p = joined-past x older j w in
      let base = leaves x.owner (lines older) (spine older) in
      let was : out ≡ base ++ spanned x.start (x.end - x.start) = w.told ∙ rw (p, none) refl in
      let in-s : seek x.owner (spine older) ≡ s = rw (none, p) at w.stack in
      let low : l < l + 1 = omega arith in
      record {
        past = [];
        told = ap (λ z. z ++ (Enter l ∷ [])) was;
        stack = ap (λ z. l ∷ z) in-s;
        falls = (low, rw p at w.falls);
        tidy = λ e. absurd (cc);
        found = w.found;
      }

  pub shown-layer : (n : ℕ) (t : List Node) → Shown out t s l → Shown (out ++ (Enter l ∷ [])) (node n n (Some l) (top s) ∷ t) (l ∷ s) (l + 1)
  shown-layer n t w =
      let zero-long : n - n ≡ 0 = omega arith in
      let left = leaves-past l w.past s (lines t) w.falls in
      let now = seek-past l w.past s w.falls in
      let low : l < l + 1 = omega arith in
      record {
        past = [];
        told = rw (w.stack, left, zero-long) (ap (λ z. z ++ (Enter l ∷ [])) (w.told ∙ sym (append-nil _)));
        stack = rw w.stack (ap (λ z. l ∷ z) now);
        falls = (low, falls-after l w.past s w.falls);
        tidy = λ e. absurd (cc);
        found = (rw w.stack (ap top now), w.found);
      }

pub shown-close : (out : List Listed) (t : List Node) (c : ℕ) (s : List ℕ) (l : ℕ) → Shown out t (c ∷ s) l → Shown (out ++ (Leave c ∷ [])) t s l
shown-close out t c s l w =
    let a = append_assoc w.past (c ∷ []) s in
    record {
      past = w.past ++ (c ∷ []);
      told = ap (λ z. z ++ (Leave c ∷ [])) w.told ∙ sym (unwind-push (lines t) w.past c);
      stack = w.stack ∙ sym a;
      falls = subst (Falls l) (sym a) w.falls;
      tidy = subst (Tidy t) (sym a) w.tidy;
      found = w.found;
    }

pub shown-none : Shown [] [] [] 0
shown-none = record { past = []; told = refl; stack = refl; falls = tt; tidy = tt; found = tt }

-- with no layer open, a full walk lists the entries
pub shown-all : (out : List Listed) (t : List Node) (l : ℕ) → Shown out t [] l → walk (reverse t) [] [] ≡ out
shown-all out t l w =
    let n = append-nil (reverse t) in
    let p = append-nil w.past in
    ap (λ z. walk z [] []) (sym n) ∙ walk-reverse t [] w.found ∙ ap (λ z. unwind (lines t) z) (w.stack ∙ p) ∙ sym w.told
