-- The node table of a ledger grows as the recorder's does.
use Rattle.std.proofs.Common.{◌≡◌, ℕ, suc, ◌+◌, ◌≤◌, false, List, [], ◌∷◌, Some, None, Option, sym, refl, ap, ◌∙◌, arith}
use Rattle.std.proofs.lemmas.Bool.{ne_eqb}
use Rattle.layers.specs.declared.node.Node.{Node}
use Rattle.record.specs.Table.{node, same, joins, with_draw, with_layer}
use Rattle.record.proofs.Nestings.{same_self}
use Rattle.ledger.specs.Ledger.{Opening}
use Rattle.ledger.specs.Sheet.{Sheet, end, draw, layer, joined}
use Rattle.ledger.specs.Draft.{Frame, frame}
use Rattle.ledger.specs.Nodes.{start_or, with_run, drawn_after, nodes_from, drawn_in, nodes_of}
use Rattle.ledger.proofs.Sheets.{size, Ordered, base, AllOrdered}

-- no layer from number b on is p
abbrev Over : Option ℕ → ℕ → Type 0
Over p b = (m : ℕ) → b ≤ m → same (Some m) p ≡ false

-- a draw and a layer, put where draws have come since the last node that holds a layer, or not
run-draw : (p run : Option ℕ) (k : ℕ) (ns : List Node) → joins ns p ≡ false → with_draw k p (with_run p run k ns) ≡ node (start_or run k) (k + 1) None p ∷ ns
run-draw p None k ns h = rw h refl
run-draw p (Some a) k ns h = rw (same_self p) refl

run-layer : (p run : Option ℕ) (l k : ℕ) (ns : List Node) → joins ns p ≡ false → with_layer l k p (with_run p run k ns) ≡ node (start_or run k) k (Some l) p ∷ ns
run-layer p None l k ns h = rw h refl
run-layer p (Some a) l k ns h = rw (same_self p) refl

module _ {D : Type 0} where
  -- where the draws begin that no layer has followed after a sheet
  abbrev run_after : Option ℕ → ℕ → Sheet D → Option ℕ
  run_after run k end = run
  run_after run k (draw n d rest) = run_after (Some (start_or run k)) (k + 1) rest
  run_after run k (layer n o inside rest) = run_after None (drawn_after k inside) rest

  -- the nodes without the one that those draws make
  abbrev settled : Option ℕ → Option ℕ → ℕ → List Node → Sheet D → List Node
  settled p run k ns end = ns
  settled p run k ns (draw n d rest) = settled p (Some (start_or run k)) (k + 1) ns rest
  settled p run k ns (layer n o inside rest) = settled p None (drawn_after k inside) (nodes_from (Some n) None k (node (start_or run k) k (Some n) p ∷ ns) inside) rest

  drawn-joined : (k : ℕ) (x y : Sheet D) → drawn_after k (joined x y) ≡ drawn_after (drawn_after k x) y
  unfolding joined
  drawn-joined k end y = refl
  drawn-joined k (draw n d rest) y = drawn-joined (k + 1) rest y
  drawn-joined k (layer n o inside rest) y = drawn-joined (drawn_after k inside) rest y

  nodes-joined : (p run : Option ℕ) (k : ℕ) (ns : List Node) (x y : Sheet D) → nodes_from p run k ns (joined x y) ≡ nodes_from p (run_after run k x) (drawn_after k x) (settled p run k ns x) y
  unfolding joined
  nodes-joined p run k ns end y = refl
  nodes-joined p run k ns (draw n d rest) y = nodes-joined p (Some (start_or run k)) (k + 1) ns rest y
  nodes-joined p run k ns (layer n o inside rest) y =
      nodes-joined p None (drawn_after k inside) (nodes_from (Some n) None k (node (start_or run k) k (Some n) p ∷ ns) inside) rest y

  nodes-run : (p run : Option ℕ) (k : ℕ) (ns : List Node) (x : Sheet D) → nodes_from p run k ns x ≡ with_run p (run_after run k x) (drawn_after k x) (settled p run k ns x)
  nodes-run p run k ns end = refl
  nodes-run p run k ns (draw n d rest) = nodes-run p (Some (start_or run k)) (k + 1) ns rest
  nodes-run p run k ns (layer n o inside rest) =
      nodes-run p None (drawn_after k inside) (nodes_from (Some n) None k (node (start_or run k) k (Some n) p ∷ ns) inside) rest

  -- no node of another layer can be joined by what is put into p
  nodes-apart : (p run : Option ℕ) (q k b : ℕ) (ns : List Node) (x : Sheet D) → Over p b → same (Some q) p ≡ false → Ordered b x → joins ns p ≡ false → joins (nodes_from (Some q) run k ns x) p ≡ false
  nodes-apart p None q k b ns end over ne o h = h
  nodes-apart p (Some a) q k b ns end over ne o h = ne
  nodes-apart p run q k b ns (draw n d rest) over ne o h = nodes-apart p (Some (start_or run k)) q (k + 1) b ns rest over ne o h
  nodes-apart p run q k b ns (layer n op inside rest) over ne o h =
      let n-over : same (Some n) p ≡ false = over n (omega (arith, o.0)) in
      let inner = nodes-apart p None n k (suc b) (node (start_or run k) k (Some n) (Some q) ∷ ns) inside (λ m l. over m (omega arith)) n-over o.1.0 refl in
      nodes-apart p None q (drawn_after k inside) (suc (b + size inside)) (nodes_from (Some n) None k (node (start_or run k) k (Some n) (Some q) ∷ ns) inside) rest (λ m l. over m (omega arith)) ne o.1.1 inner

  settled-apart : (p run : Option ℕ) (k b : ℕ) (ns : List Node) (x : Sheet D) → Over p b → Ordered b x → joins ns p ≡ false → joins (settled p run k ns x) p ≡ false
  settled-apart p run k b ns end over o h = h
  settled-apart p run k b ns (draw n d rest) over o h = settled-apart p (Some (start_or run k)) (k + 1) b ns rest over o h
  settled-apart p run k b ns (layer n op inside rest) over o h =
      let n-over : same (Some n) p ≡ false = over n (omega (arith, o.0)) in
      let inner = nodes-apart p None n k (suc b) (node (start_or run k) k (Some n) p ∷ ns) inside (λ m l. over m (omega arith)) n-over o.1.0 refl in
      settled-apart p None (drawn_after k inside) (suc (b + size inside)) (nodes_from (Some n) None k (node (start_or run k) k (Some n) p ∷ ns) inside) rest (λ m l. over m (omega arith)) o.1.1 inner

  -- the innermost open layer
  abbrev pub owner_of : List (Frame D) → Option ℕ
  owner_of [] = None
  owner_of (frame before n o ∷ fs) = Some n

  abbrev start_of : List (Frame D) → ℕ
  start_of [] = 0
  start_of (frame before n o ∷ fs) = drawn_in fs before

  abbrev base_nodes : List (Frame D) → List Node
  base_nodes [] = []
  base_nodes (frame before n o ∷ fs) = nodes_of fs (joined before (layer n o end end))

  drawn-level : (fs : List (Frame D)) (x : Sheet D) → drawn_in fs x ≡ drawn_after (start_of fs) x
  drawn-level [] x = refl
  drawn-level (frame before n o ∷ fs) x = refl

  nodes-level : (fs : List (Frame D)) (x : Sheet D) → nodes_of fs x ≡ nodes_from (owner_of fs) None (start_of fs) (base_nodes fs) x
  nodes-level [] x = refl
  nodes-level (frame before n o ∷ fs) x = refl

  over-level : (fs : List (Frame D)) → Over (owner_of fs) (base fs)
  over-level [] m h = refl
  over-level (frame before n o ∷ fs) m h = ne_eqb m n (λ e. omega arith)

  ordered-level : (fs : List (Frame D)) (x : Sheet D) → AllOrdered fs x → Ordered (base fs) x
  ordered-level [] x w = w
  ordered-level (frame before n o ∷ fs) x w = w.0

  -- the nodes with more in the innermost layer
  abbrev run_of : List (Frame D) → Sheet D → Option ℕ
  run_of fs x = run_after None (start_of fs) x

  abbrev settled_of : List (Frame D) → Sheet D → List Node
  settled_of fs x = settled (owner_of fs) None (start_of fs) (base_nodes fs) x

  more : (fs : List (Frame D)) (x y : Sheet D) → nodes_of fs (joined x y) ≡ nodes_from (owner_of fs) (run_of fs x) (drawn_in fs x) (settled_of fs x) y
  more fs x y =
      nodes-level fs (joined x y) ∙ nodes-joined (owner_of fs) None (start_of fs) (base_nodes fs) x y
      ∙ ap (λ k. nodes_from (owner_of fs) (run_of fs x) k (settled_of fs x) y) (sym (drawn-level fs x))

  so_far : (fs : List (Frame D)) (x : Sheet D) → nodes_of fs x ≡ with_run (owner_of fs) (run_of fs x) (drawn_in fs x) (settled_of fs x)
  so_far fs x =
      nodes-level fs x ∙ nodes-run (owner_of fs) None (start_of fs) (base_nodes fs) x
      ∙ ap (λ k. with_run (owner_of fs) (run_of fs x) k (settled_of fs x)) (sym (drawn-level fs x))

  base-apart : (fs : List (Frame D)) → joins (base_nodes fs) (owner_of fs) ≡ false
  base-apart [] = refl
  base-apart (frame before n o ∷ fs) = ap (λ ns. joins ns (Some n)) (more fs before (layer n o end end))

  apart : (fs : List (Frame D)) (x : Sheet D) → AllOrdered fs x → joins (settled_of fs x) (owner_of fs) ≡ false
  apart fs x w = settled-apart (owner_of fs) None (start_of fs) (base fs) (base_nodes fs) x (over-level fs) (ordered-level fs x w) (base-apart fs)

  pub nodes-draw : (fs : List (Frame D)) (x : Sheet D) (n : ℕ) (d : D) → AllOrdered fs x → with_draw (drawn_in fs x) (owner_of fs) (nodes_of fs x) ≡ nodes_of fs (joined x (draw n d end))
  nodes-draw fs x n d w =
      ap (with_draw (drawn_in fs x) (owner_of fs)) (so_far fs x) ∙ run-draw (owner_of fs) (run_of fs x) (drawn_in fs x) (settled_of fs x) (apart fs x w) ∙ sym (more fs x (draw n d end))

  pub nodes-open : (fs : List (Frame D)) (x : Sheet D) (n : ℕ) (o : Opening) → AllOrdered fs x → with_layer n (drawn_in fs x) (owner_of fs) (nodes_of fs x) ≡ nodes_of (frame x n o ∷ fs) end
  nodes-open fs x n o w =
      ap (with_layer n (drawn_in fs x) (owner_of fs)) (so_far fs x) ∙ run-layer (owner_of fs) (run_of fs x) n (drawn_in fs x) (settled_of fs x) (apart fs x w) ∙ sym (more fs x (layer n o end end))

  pub nodes-close : (fs : List (Frame D)) (before x : Sheet D) (n : ℕ) (o : Opening) → nodes_of (frame before n o ∷ fs) x ≡ nodes_of fs (joined before (layer n o x end))
  nodes-close fs before x n o =
      ap (λ ns. nodes_from (Some n) None (drawn_in fs before) ns x) (more fs before (layer n o end end)) ∙ sym (more fs before (layer n o x end))

  pub drawn-draw : (fs : List (Frame D)) (x : Sheet D) (n : ℕ) (d : D) → drawn_in fs (joined x (draw n d end)) ≡ drawn_in fs x + 1
  drawn-draw fs x n d =
      drawn-level fs (joined x (draw n d end)) ∙ drawn-joined (start_of fs) x (draw n d end) ∙ ap (λ k. k + 1) (sym (drawn-level fs x))

  pub drawn-close : (fs : List (Frame D)) (before x : Sheet D) (n : ℕ) (o : Opening) → drawn_in (frame before n o ∷ fs) x ≡ drawn_in fs (joined before (layer n o x end))
  drawn-close fs before x n o =
      ap (λ k. drawn_after k x) (drawn-level fs before) ∙ sym (drawn-level fs (joined before (layer n o x end)) ∙ drawn-joined (start_of fs) before (layer n o x end))
