-- Where a surface's entries stand among those of the full walk.
use Rattle.std.proofs.Common.{◌≡◌, ℕ, zero, suc, ◌+◌, ◌-◌, ◌<◌, ◌≤◌, Bool, true, false, cond, eqb, ltb, List, [], ◌∷◌, ◌++◌, reverse, length, drop, Some, None, Option, sym, refl, ap, ◌∙◌, subst, ⊎_elim, append_assoc, arith}
use mathlib.Core.List.{reverse-cons}
use mathlib.Core.Logic.{∥∥₁_elim}
use base.Stored.{Coded-set, coded_list}
use Rattle.record.specs.Recording.{Recording}
use Rattle.record.specs.Sound.{Sound}
use Rattle.walk.specs.contracts.listed.Listed.{the_row}
use Rattle.walk.specs.FullWalk.{listed, entry_count}
use Rattle.std.specs.List.{after_first, position, position_or_len}
use Rattle.std.proofs.lemmas.List.{append-nil, drop_all}
use Rattle.std.proofs.lemmas.Bool.{eq-eqb, ne_eqb, lt-ltb, cases_Bool, cases_eq, cases_lt, cond_both}
use Rattle.std.proofs.lemmas.Option.{cond_some}
use Rattle.geometry.specs.declared.tile.Tile.{Tile}
use Rattle.layers.specs.declared.layer.RecordedLayer.{RecordedLayer}
use Rattle.layers.specs.declared.node.Node.{Node}
use Rattle.record.specs.Nesting.{pushed, seek, spine, Found}
use Rattle.record.specs.Table.{same, held, holding, NumberedIs, Numbered}
use Rattle.walk.specs.declared.listed.Listed.{Listed}
use Rattle.walk.specs.declared.listed.Listed.TheVariants.{Draw, Enter, Leave, Filter}
use Rattle.tiles.specs.declared.surface.Surface.{Surface}
use Rattle.tiles.specs.declared.surface.Surface.TheVariants.{Scene, Layer}
use Rattle.tiles.specs.Tile.{after, until, inside, layer_shows, tile_listed, filter_at, is_surface}
use Rattle.tiles.proofs.Sieves.{length-sift}
use Rattle.tiles.specs.TileSteps.{owner_of, past_holder, nodes_of, Lacks, Clear}
use Rattle.walk.specs.Walk.{walk, leaves, spanned, entered, starts, room, Stretch}
use Rattle.walk.proofs.Counts.{lines, walk-reverse}
use Rattle.walk.proofs.Walks.{walk_from, leave, walk-done}

-- the entries do not enter layer l
abbrev Unentered : ℕ → List Listed → Type 0
Unentered l es = (rest : List Listed) → after l (es ++ rest) ≡ after l rest

unentered-then : (l : ℕ) (xs ys : List Listed) → Unentered l xs → Unentered l ys → Unentered l (xs ++ ys)
unentered-then l xs ys p q rest = ap (after l) (append_assoc xs ys rest) ∙ p (ys ++ rest) ∙ q rest

unentered-draws : (l a k : ℕ) → Unentered l (spanned a k)
unentered-draws l a zero = λ rest. refl
unentered-draws l a (suc k) = unentered-then l (spanned a k) (Draw (a + k) ∷ []) (unentered-draws l a k) (λ rest. refl)

unentered-leaves : (l : ℕ) (o : Option ℕ) (out : List Listed) (s : List ℕ) → Unentered l out → Unentered l (leaves o out s)
unentered-leaves l o out [] p = p
unentered-leaves l o out (m ∷ s) p =
    cond_both (same o (Some m)) out (leaves o (out ++ (Leave m ∷ [])) s) (Unentered l) (λ _. p)
    (λ _. unentered-leaves l o (out ++ (Leave m ∷ [])) s (unentered-then l out (Leave m ∷ []) p (λ rest. refl)))

unentered-own : (l : ℕ) (o : Option ℕ) (out : List Listed) → same o (Some l) ≡ false → Unentered l out → Unentered l (entered o out)
unentered-own l None out e p = p
unentered-own l (Some m) out e p = unentered-then l out (Enter m ∷ []) p (λ rest. rw e refl)

-- nodes hold layers in the order of their numbers, so none of them holds a number past theirs
own-lacks : (l : ℕ) (o : Option ℕ) (n : ℕ) → NumberedIs o n → n + holding o ≤ l → same o (Some l) ≡ false
own-lacks l None n w h = refl
own-lacks l (Some m) n w h = ne_eqb m l (λ e. omega arith)

unentered-lines : (l : ℕ) (t : List Node) → Numbered t → held t ≤ l → Unentered l (lines t)
unentered-lines l [] w h = λ rest. refl
unentered-lines l (x ∷ older) w h =
    let base = leaves x.owner (lines older) (spine older) in
    let draws = spanned x.start (x.end - x.start) in
    unentered-own l x.layer (base ++ draws) (own-lacks l x.layer (held older) w.0 (omega arith))
    (unentered-then l base draws (unentered-leaves l x.owner (lines older) (spine older) (unentered-lines l older w.1 (omega arith))) (unentered-draws l x.start (x.end - x.start)))

lacks-append : (l : ℕ) (xs : List Node) (x : Node) → Lacks l xs → same x.layer (Some l) ≡ false → Lacks l (xs ++ (x ∷ []))
lacks-append l [] x w e = (e, tt)
lacks-append l (y ∷ xs) x w e = (w.0, lacks-append l xs x w.1 e)

lacks-older : (l : ℕ) (t : List Node) → Numbered t → held t ≤ l → Lacks l (reverse t)
lacks-older l [] w h = tt
lacks-older l (x ∷ older) w h =
    subst (Lacks l) (sym (reverse-cons x older)) (lacks-append l (reverse older) x (lacks-older l older w.1 (omega arith)) (own-lacks l x.layer (held older) w.0 (omega arith)))

-- the node that holds layer l, with the nodes before it, the latest first, and those after it
record Holder (t : List Node) (l : ℕ) : Type 0 where
  holder : Node
  older : List Node
  newer : List Node
  parts : reverse t ≡ reverse (holder ∷ older) ++ newer
  holds : holder.layer ≡ Some l
  before : held older ≡ l
  numbered : Numbered older
  found : Found (holder ∷ older)
  lacks : Lacks l newer

holder-later : (x : Node) (older : List Node) (l : ℕ) → same x.layer (Some l) ≡ false → Holder older l → Holder (x ∷ older) l
holder-later x older l e w = record {
  holder = w.holder;
  older = w.older;
  newer = w.newer ++ (x ∷ []);
  parts = reverse-cons x older ∙ ap (λ z. z ++ (x ∷ [])) w.parts ∙ append_assoc (reverse (w.holder ∷ w.older)) w.newer (x ∷ []);
  holds = w.holds;
  before = w.before;
  numbered = w.numbered;
  found = w.found;
  lacks = lacks-append l w.newer x w.lacks e;
}

-- the latest node, or one before it
holder-from : (x : Node) (older : List Node) (l : ℕ) → Numbered (x ∷ older) → Found (x ∷ older) → l < held (x ∷ older) → (l < held older → Holder older l) → (o : Option ℕ) → x.layer ≡ o → Holder (x ∷ older) l
holder-from x older l w f h earlier None e =
    let z = ap holding e in
    holder-later x older l (ap (λ z. same z (Some l)) e) (earlier (omega arith))
holder-from x older l w f h earlier (Some m) e =
    let z = ap holding e in
    let is : m ≡ held older = subst (λ o. NumberedIs o (held older)) e w.0 in
    ⊎_elim
    (λ (q : m ≡ l). record {
      holder = x;
      older = older;
      newer = [];
      parts = sym (append-nil (reverse (x ∷ older)));
      holds = e ∙ ap Some q;
      before = sym is ∙ q;
      numbered = w.1;
      found = f;
      lacks = tt;
    })
    (λ (q : m ≡ l → ⊥).
    let d : same x.layer (Some l) ≡ false = ap (λ z. same z (Some l)) e ∙ ne_eqb m l q in
    holder-later x older l d (earlier (⊎_elim (λ (r : l < held older). r) (λ (r : held older ≤ l). absurd (q (omega arith))) (cases_lt l (held older)))))
    (cases_eq m l)

holder-at : (l : ℕ) (t : List Node) → Numbered t → Found t → l < held t → Holder t l
holder-at l [] w f h = absurd (omega arith)
holder-at l (x ∷ older) w f h = holder-from x older l w f h (holder-at l older w.1 f.1) x.layer refl

-- the nodes past the one that holds layer l
past-holder : (l : ℕ) (xs : List Node) (x : Node) (ys : List Node) → Lacks l xs → same x.layer (Some l) ≡ true → past_holder l (xs ++ (x ∷ ys)) ≡ ys
past-holder l [] x ys w e = rw e
past-holder l (y ∷ xs) x ys w e = rw w.0 (past-holder l xs x ys w.1 e)

-- they stand after the place of the first that holds layer l
module _ (l : ℕ) where
  past-after : (ns : List Node) → past_holder l ns ≡ after_first (λ x. same x.layer (Some l)) ns
  past-after [] = refl
  past-after (x ∷ ns) =
      let k = position_or_len (λ (x : Node). same x.layer (Some l)) ns in
      let e : suc (k + 1) ≡ (1 + k) + 1 = omega arith in
      ⊎_elim (λ (e : same x.layer (Some l) ≡ true). rw e) (λ (f : same x.layer (Some l) ≡ false). rw f (past-after ns ∙ ap (λ z. drop z (x ∷ ns)) e)) (cases_Bool (same x.layer (Some l)))

  pub past_some : (ns : List Node) (i : ℕ) → Some i ≡ position (λ x. same x.layer (Some l)) ns → drop (i + 1) ns ≡ past_holder l ns
  past_some ns i e =
      let k = position_or_len (λ (x : Node). same x.layer (Some l)) ns in
      ap (λ z. drop (z + 1) ns) (sym (cond_some (ltb k (length ns)) k i (sym e)).1) ∙ sym (past-after ns)

  pub past_none : (ns : List Node) → None ≡ position (λ x. same x.layer (Some l)) ns → [] ≡ past_holder l ns
  past_none ns e =
      let k = position_or_len (λ (x : Node). same x.layer (Some l)) ns in
      ⊎_elim (λ (h : k < length ns). let t = lt-ltb k (length ns) h in let is : None ≡ Some k = rw t at e in cc) (λ (h : length ns ≤ k). sym (past-after ns ∙ drop_all (k + 1) ns (omega arith))) (cases_lt k (length ns))

-- a surface's nodes have no more entries than all, and hold no more layers
past-room : (l : ℕ) (ns : List Node) → room (past_holder l ns) ≤ room ns
past-room l [] = omega arith
past-room l (x ∷ ns) = cond_both (same x.layer (Some l)) ns (past_holder l ns) (λ z. room z ≤ room (x ∷ ns)) (λ _. omega arith) (λ _. omega (arith, past-room l ns))

past-held : (l : ℕ) (ns : List Node) → held (past_holder l ns) ≤ held ns
past-held l [] = omega arith
past-held l (x ∷ ns) = cond_both (same x.layer (Some l)) ns (past_holder l ns) (λ z. held z ≤ held (x ∷ ns)) (λ _. omega arith) (λ _. omega (arith, past-held l ns))

pub room-nodes_of : (s : Surface) (ns : List Node) → room (nodes_of s ns) ≤ room ns
room-nodes_of Scene ns = omega arith
room-nodes_of (Layer l) ns = past-room l ns

pub held-nodes_of : (s : Surface) (ns : List Node) → held (nodes_of s ns) ≤ held ns
held-nodes_of Scene ns = omega arith
held-nodes_of (Layer l) ns = past-held l ns

-- what follows the Enter of layer l is what the walk lists from the node past its holder on
record Follows (ns : List Node) (l : ℕ) : Type 0 where
  around : List ℕ
  entries : after l (walk ns [] []) ≡ walk (past_holder l ns) [] (l ∷ around)
  lacks : Lacks l (past_holder l ns)

follows : (l : ℕ) (t : List Node) → Numbered t → Found t → l < held t → Follows (reverse t) l
follows l t w f h =
    let k = holder-at l t w f h in
    let x = k.holder in
    let s = seek x.owner (spine k.older) in
    let base = leaves x.owner (lines k.older) (spine k.older) in
    let draws = spanned x.start (x.end - x.start) in
    let low : held k.older ≤ l = omega (arith, k.before) in
    let apart : reverse t ≡ reverse k.older ++ (x ∷ k.newer) = k.parts ∙ ap (λ z. z ++ k.newer) (reverse-cons x k.older) ∙ append_assoc (reverse k.older) (x ∷ []) k.newer in
    let own : same x.layer (Some l) ≡ true = ap (λ z. same z (Some l)) k.holds ∙ eq-eqb l l refl in
    let past : past_holder l (reverse t) ≡ k.newer = ap (past_holder l) apart ∙ past-holder l (reverse k.older) x k.newer (lacks-older l k.older k.numbered low) own in
    let rest = walk k.newer [] (l ∷ s) in
    record {
      around = s;
      entries =
          ap (λ z. after l (walk z [] [])) k.parts
          ∙ ap (after l) (walk-reverse (x ∷ k.older) k.newer k.found ∙ walk_from k.newer (lines (x ∷ k.older)) (spine (x ∷ k.older)))
          ∙ ap (λ o. after l (entered o (base ++ draws) ++ walk k.newer [] (pushed o s))) k.holds
          ∙ ap (after l) (append_assoc (base ++ draws) (Enter l ∷ []) rest)
          ∙ unentered-then l base draws (unentered-leaves l x.owner (lines k.older) (spine k.older) (unentered-lines l k.older k.numbered low)) (unentered-draws l x.start (x.end - x.start)) (Enter l ∷ rest)
          ∙ ap (λ z. cond z rest (after l rest)) (eq-eqb l l refl)
          ∙ ap (λ z. walk z [] (l ∷ s)) (sym past);
      lacks = subst (Lacks l) (sym past) k.lacks;
    }

filter-below : (layers : List RecordedLayer) (l : ℕ) → filter_at layers l ≡ true → l < length layers
filter-below [] l e = absurd (cc)
filter-below (x ∷ layers) zero e = omega arith
filter-below (x ∷ layers) (suc l) e = omega (arith, filter-below layers l e)

-- the stretch of a surface's nodes, up to where none follows, is what lies on the surface
module _ (layers : List RecordedLayer) (t : List Node) {end : List Node} {whole : List Listed} (long : length layers ≡ held t) (w : Numbered t) (f : Found t) where
  pub surface-whole : (s : Surface) → is_surface s layers ≡ true → Stretch (owner_of s) (nodes_of s (reverse t)) end whole → Clear (nodes_of s (reverse t)) end whole → starts (owner_of s) end ≡ false → inside s (walk (reverse t) [] []) ≡ whole
  surface-whole Scene is p clear stopped = p.lines [] refl ∙ ap (λ z. whole ++ z) (walk-done end [] stopped) ∙ append-nil whole
  surface-whole (Layer l) is p clear stopped =
      let low = filter-below layers l is in
      let k = follows l t w f (omega arith) in
      let rest = walk end [] k.around in
      ap (until l) (k.entries ∙ p.lines (l ∷ k.around) refl ∙ ap (λ z. whole ++ z) (leave end l k.around stopped))
      ∙ clear.clear l k.lacks (Leave l ∷ rest)
      ∙ ap (λ z. whole ++ cond z [] (Leave l ∷ until l rest)) (eq-eqb l l refl)
      ∙ append-nil whole

-- the same of a recorder's surface, with the nodes and the owner as the code has them
pub surface-all : (r : Recording) → Sound r.account r.tree → (s : Surface) {ns nodes end : List Node} {o : Option ℕ} {whole : List Listed} → is_surface s r.tree.layers ≡ true → ns ≡ reverse r.tree.nodes → nodes ≡ nodes_of s ns → o ≡ owner_of s
    → Stretch o nodes end whole → Clear nodes end whole → starts o end ≡ false → inside s (listed r) ≡ whole
surface-all r sound s {ns} {nodes} {end} {o} {whole} is all first own p clear stopped =
    let at : nodes ≡ nodes_of s (reverse r.tree.nodes) = first ∙ ap (nodes_of s) all in
    ∥∥₁_elim sound.1 (Coded-set (coded_list the_row.coded) _ _) (λ x.
    surface-whole r.tree.layers r.tree.nodes (sound.0.1 ∙ sym x.threads.holds) x.threads.numbered x.threads.found s is (rw (own, at) at p) (rw at at clear) (rw own at stopped))

-- what lies on a surface is no more than there is
length-until : (l : ℕ) (es : List Listed) → length (until l es) ≤ length es
length-until l [] = omega arith
length-until l (Draw n ∷ es) = omega (arith, length-until l es)
length-until l (Enter m ∷ es) = omega (arith, length-until l es)
length-until l (Leave m ∷ es) = cond_both (eqb m l) [] (Leave m ∷ until l es) (λ z. length z ≤ length (Leave m ∷ es)) (λ _. omega arith) (λ _. omega (arith, length-until l es))
length-until l (Filter m ∷ es) = omega (arith, length-until l es)

length-after : (l : ℕ) (es : List Listed) → length (after l es) ≤ length es
length-after l [] = omega arith
length-after l (Draw n ∷ es) = omega (arith, length-after l es)
length-after l (Enter m ∷ es) = cond_both (eqb m l) es (after l es) (λ z. length z ≤ length (Enter m ∷ es)) (λ _. omega arith) (λ _. omega (arith, length-after l es))
length-after l (Leave m ∷ es) = omega (arith, length-after l es)
length-after l (Filter m ∷ es) = omega (arith, length-after l es)

pub length-inside : (s : Surface) (es : List Listed) → length (inside s es) ≤ length es
length-inside Scene es = omega arith
length-inside (Layer l) es = omega (arith, length-until l (after l es), length-after l es)

-- a tile shows no more entries than the full walk has
pub tile_few : (r : Recording) (s : Surface) (t : Tile) (seen : ℕ → Bool) → length (listed r) ≡ entry_count r → length (tile_listed s t seen r) ≤ entry_count r
tile_few r s t seen all = omega (arith, length-sift seen (layer_shows t r.tree.layers) [] 0 (inside s (listed r)), length-inside s (listed r))
