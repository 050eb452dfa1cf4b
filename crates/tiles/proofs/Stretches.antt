-- What the walk lists of some nodes leaves no layer that they do not hold.
use Rattle.std.proofs.Common.{◌≡◌, ℕ, zero, suc, ◌+◌, ◌-◌, false, cond, eqb, List, [], ◌∷◌, ◌++◌, Some, Option, sym, refl, ap, ◌∙◌, subst, append_assoc}
use Rattle.layers.specs.declared.node.Node.{Node}
use Rattle.record.specs.Table.{same}
use Rattle.walk.specs.declared.listed.Listed.{Listed}
use Rattle.walk.specs.declared.listed.Listed.TheVariants.{Draw, Enter, Leave}
use Rattle.walk.specs.Walk.{own_draws, spanned, Next}
use Rattle.walk.proofs.Walks.{around}
use Rattle.tiles.specs.Tile.{until}
use Rattle.tiles.specs.TileSteps.{Lacks, Clear}

-- draws leave no layer
until-draws : (l a k : ℕ) (rest : List Listed) → until l (spanned a k ++ rest) ≡ spanned a k ++ until l rest
until-draws l a zero rest = refl
until-draws l a (suc k) rest =
    let d = Draw (a + k) ∷ [] in
    ap (until l) (append_assoc (spanned a k) d rest) ∙ until-draws l a k (Draw (a + k) ∷ rest) ∙ sym (append_assoc (spanned a k) d (until l rest))

pub clear-then : {ns mid end : List Node} {xs ys : List Listed} → Clear ns mid xs → Clear mid end ys → Clear ns end (xs ++ ys)
clear-then {ns} {mid} {end} {xs} {ys} p q = record {
  later = λ l w. q.later l (p.later l w);
  clear = λ l w rest. ap (until l) (append_assoc xs ys rest) ∙ p.clear l w (ys ++ rest) ∙ ap (λ z. xs ++ z) (q.clear l (p.later l w) rest) ∙ sym (append_assoc xs ys (until l rest));
}

module _ {o : Option ℕ} {ns xs : List Node} {x : Node} (n : Next o ns x xs) where
  lacks-first : (l : ℕ) → Lacks l ns → Lacks l (x ∷ xs)
  lacks-first l w = subst (Lacks l) n.first w

  pub clear-draws : Clear ns xs (own_draws x)
  clear-draws = record { later = λ l w. (lacks-first l w).1; clear = λ l w rest. until-draws l x.start (x.end - x.start) rest }

  pub clear-layer : {l : ℕ} {end : List Node} {inner : List Listed} → x.layer ≡ Some l → Clear xs end inner → Clear ns end (own_draws x ++ around l inner)
  clear-layer {l} {end} {inner} some w = record {
    later = λ f lacks. w.later f (lacks-first f lacks).1;
    clear = λ f lacks rest.
        let draws = own_draws x in
        let other : eqb l f ≡ false = ap (λ z. same z (Some f)) (sym some) ∙ (lacks-first f lacks).0 in
        ap (until f) (append_assoc draws (around l inner) rest)
        ∙ until-draws f x.start (x.end - x.start) (around l inner ++ rest)
        ∙ ap (λ z. draws ++ (Enter l ∷ z)) (ap (until f) (append_assoc inner (Leave l ∷ []) rest) ∙ w.clear f (lacks-first f lacks).1 (Leave l ∷ rest) ∙ ap (λ z. inner ++ cond z [] (Leave l ∷ until f rest)) other ∙ sym (append_assoc inner (Leave l ∷ []) (until f rest)))
        ∙ sym (append_assoc draws (around l inner) (until f rest));
  }
