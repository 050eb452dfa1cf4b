-- The recording by the ledger's nesting, call by call: open layers, contents so far, nodes, and the layers' records.
use Rattle.std.proofs.Common.{◌≡◌, ℕ, suc, ◌+◌, true, List, [], ◌∷◌, ◌++◌, length, Some, None, Option, sym, refl, ap, ◌∙◌, subst, ap₂, append_assoc, arith, length-append}
use Rattle.std.proofs.lemmas.List.{append-nil}
use Rattle.geometry.specs.declared.rect.RectU16.{RectU16}
use Rattle.geometry.specs.declared.size.SizeU16.{SizeU16}
use Rattle.draws.specs.declared.blend.BlendMode.{BlendMode}
use Rattle.filter.specs.declared.data.FilterData.{FilterData}
use Rattle.layers.specs.declared.layer.OpenLayer.{OpenLayer}
use Rattle.layers.specs.declared.props.LayerProps.{LayerProps}
use Rattle.record.specs.Account.{ids, outer, account_after_closing, closing_of, size_of, grown, grown_filter}
use Rattle.layers.specs.Closing.{put, take_in, closing, pads_within}
use Rattle.record.specs.Recording.{Recording, empty_recording, active, after_draw, after_opening, after_closing, closed_by, closed_tree}
use Rattle.record.specs.Table.{top, with_draw, with_layer}
use Rattle.layers.specs.Records.{recorded_open, recorded_closed}
use Rattle.record.specs.Tree.{change_at, tree_after_closing}
use Rattle.record.proofs.Sounds.{length-change}
use Rattle.ledger.specs.Ledger.{Opening, Entry, Draw, Enter, Leave}
use Rattle.ledger.specs.Sheet.{Sheet, end, draw, layer, joined, entries, closed_as, or_nothing, contents, records, closings}
use Rattle.ledger.specs.Draft.{Frame, frame, shut, draft_of, flat}
use Rattle.ledger.specs.Nodes.{drawn_in, nodes_of}
use Rattle.ledger.specs.Recorded.{open_with, open_layers_of, records_of, closings_of, largest_from, largest_filter_from}
use Rattle.ledger.proofs.Closes.{Closes, closed-lies}
use Rattle.ledger.proofs.Drafts.{draft-push}
use Rattle.ledger.proofs.Figures.{largest-push, largest_filter-push}
use Rattle.ledger.proofs.Nodes.{owner_of, nodes-draw, nodes-open, nodes-close, drawn-draw, drawn-close}
use Rattle.ledger.proofs.Places.{AllLaid, all-laid-joined}
use Rattle.ledger.proofs.Sheets.{flat-push, contents-joined, records-push, take_open, length-open, closings-push, Counts, size, Ordered, base, AllOrdered, all-ordered-joined, length-flat, change-behind}

module _ {D : Type 0} (box_of : D → Option RectU16) (mode_of : D → Option BlendMode) where
  -- The entries es, whose nesting is `sheet` in the frames, led to the recording v.
  pub record NestedAs (es : List (Entry D)) (frames : List (Frame D)) (sheet : Sheet D) (v : Recording) : Type 0 where
    pub draft : draft_of es ≡ record { frames = frames; sheet = sheet }
    pub whole : es ≡ flat frames sheet
    pub opened : v.account.opened ≡ open_layers_of box_of frames sheet
    pub drawn : v.account.drawn ≡ drawn_in frames sheet
    pub nodes : v.tree.nodes ≡ nodes_of frames sheet
    pub layers : v.tree.layers ≡ records_of box_of frames sheet
    pub largest : v.account.largest ≡ largest_from None (closings_of box_of frames sheet)
    pub largest_filter : v.account.largest_filter ≡ largest_filter_from None (closings_of box_of frames sheet)
    pub counts : Counts box_of frames
    pub laid : AllLaid box_of frames sheet
    pub ordered : AllOrdered frames sheet
    pub long : length v.tree.layers ≡ v.account.layers

  abbrev pub Nested : List (Entry D) → Recording → Type 0
  Nested es v = NestedAs es (draft_of es).frames (draft_of es).sheet v

  nested-at : (es : List (Entry D)) (fs : List (Frame D)) (x : Sheet D) (v : Recording) → NestedAs es fs x v → Nested es v
  nested-at es fs x v w = subst (λ z. NestedAs es z.frames z.sheet v) (sym w.draft) w

  pub nested-none : (scene : SizeU16) → Nested [] (empty_recording scene)
  nested-none scene = record { draft = refl; whole = refl; opened = refl; drawn = refl; nodes = refl; layers = refl; largest = refl; largest_filter = refl; counts = tt; laid = tt; ordered = tt; long = refl }

  -- the active layer is the innermost frame's
  active-is : (fs : List (Frame D)) (x : Sheet D) (os : List OpenLayer) → os ≡ open_layers_of box_of fs x → top (ids os) ≡ owner_of fs
  active-is [] x os e = ap (λ o. top (ids o)) e
  active-is (frame before n o ∷ fs) x os e = ap (λ o. top (ids o)) e

  pub nested-draw : (es : List (Entry D)) (v : Recording) (n : ℕ) (d : D) → Nested es v → Nested (es ++ (Draw n d ∷ [])) (after_draw (box_of d) (mode_of d) v)
  nested-draw es v n d w =
      let x = draw n d end in
      let fs = (draft_of es).frames in
      let s = (draft_of es).sheet in
      let unclosed = closings-push box_of fs s x ∙ append-nil (closings_of box_of fs s) in
      let owner = active-is fs s v.account.opened w.opened in
      nested-at (es ++ (Draw n d ∷ [])) fs (joined s x) (after_draw (box_of d) (mode_of d) v) (record {
        draft = draft-push _ es (Draw n d);
        whole = ap (λ z. z ++ (Draw n d ∷ [])) w.whole ∙ sym (flat-push fs s x);
        opened = ap (take_in (box_of d)) w.opened ∙ take_open box_of (box_of d) fs s (joined s x) (contents-joined box_of None s x);
        drawn = ap (λ k. k + 1) w.drawn ∙ sym (drawn-draw fs s n d);
        nodes = ap₂ (λ k o. with_draw k o v.tree.nodes) w.drawn owner ∙ ap (with_draw (drawn_in fs s) (owner_of fs)) w.nodes ∙ nodes-draw fs s n d w.ordered;
        layers = w.layers ∙ sym (records-push box_of fs s x ∙ append-nil (records_of box_of fs s));
        largest = w.largest ∙ ap (largest_from None) (sym unclosed);
        largest_filter = w.largest_filter ∙ ap (largest_filter_from None) (sym unclosed);
        counts = w.counts;
        laid = all-laid-joined box_of fs s x w.laid tt;
        ordered = all-ordered-joined fs s x w.ordered tt;
        long = w.long;
      })

  pub nested-open : (es : List (Entry D)) (v : Recording) (l : ℕ) (props : LayerProps) (f : Option FilterData) → l ≡ v.account.layers → Nested es v
      → Nested (es ++ (Enter l (record { props = props; filter = f }) ∷ [])) (after_opening props f v)
  nested-open es v l props f e w =
      let op : Opening = record { props = props; filter = f } in
      let fs = (draft_of es).frames in
      let s = (draft_of es).sheet in
      let deep : length v.account.opened ≡ length fs = ap length w.opened ∙ length-open box_of fs s in
      let r = length-append v.tree.layers (recorded_open props f (length v.account.opened + 1) ∷ []) in
      let owner = active-is fs s v.account.opened w.opened in
      nested-at (es ++ (Enter l op ∷ [])) (frame s l op ∷ fs) end (after_opening props f v) (record {
        draft = draft-push _ es (Enter l op);
        whole = ap (λ z. z ++ (Enter l op ∷ [])) w.whole;
        opened = ap₂ (λ i o. open_with i op None ∷ o) (sym e) w.opened;
        drawn = w.drawn;
        nodes = ap₂ (λ i k. with_layer i k (active v) v.tree.nodes) (sym e) w.drawn ∙ ap₂ (with_layer l (drawn_in fs s)) owner w.nodes ∙ nodes-open fs s l op w.ordered;
        layers = ap₂ (λ y k. y ++ (recorded_open props f (k + 1) ∷ [])) w.layers deep;
        largest = w.largest ∙ ap (largest_from None) (sym (append-nil (closings_of box_of fs s)));
        largest_filter = w.largest_filter ∙ ap (largest_filter_from None) (sym (append-nil (closings_of box_of fs s)));
        counts = (e ∙ sym w.long ∙ ap length w.layers, w.counts);
        laid = (tt, w.laid);
        ordered = (tt, w.ordered);
        long = omega (arith, r, w.long);
      })

  -- a closing, by the innermost frame
  module _ (es : List (Entry D)) (v : Recording) (k : Closes v.account.opened) where
    abbrev u : Recording
    u = record { account = account_after_closing k.result v.account; tree = tree_after_closing k.layer.id k.result v.tree }

    close-frames : (fs : List (Frame D)) (x : Sheet D) → NestedAs es fs x v → Nested (es ++ (Leave k.layer.id ∷ [])) u
    close-frames [] x w = let none : k.layer ∷ k.outer ≡ [] = sym k.is ∙ w.opened in absurd (cc)
    close-frames (frame before n op ∷ fs) x w =
        let o = k.layer in
        let both : o ∷ k.outer ≡ open_with n op (contents box_of x) ∷ open_layers_of box_of fs before = sym k.is ∙ w.opened in
        let o_is : o ≡ open_with n op (contents box_of x) = cc in
        let rest-is : k.outer ≡ open_layers_of box_of fs before = cc in
        let id-is : o.id ≡ n = ap (λ z. z.id) o_is in
        let gives : closing o ≡ Some k.result = ap closing_of (sym k.is) ∙ k.gives in
        let result : closed_as op (contents box_of x) ≡ k.result = ap (λ z. or_nothing (closing z)) (sym o_is) ∙ ap or_nothing gives in
        let y = layer n op x end in
        let taken : contents box_of (joined before y) ≡ put (Some k.result.in_parent) (contents box_of before) = contents-joined box_of None before y ∙ ap (λ z. put (Some z.in_parent) (contents box_of before)) result in
        let outer-is : outer v.account.opened ≡ open_layers_of box_of fs before = ap outer k.is ∙ rest-is in
        let place : o.id ≡ length (records_of box_of fs before) = id-is ∙ w.counts.0 in
        let open-record = recorded_open op.props op.filter (length fs + 1) in
        let inside = records box_of (length fs + 1 + 1) x in
        let changed : change_at (recorded_closed k.result) o.id v.tree.layers ≡ records_of box_of fs before ++ (recorded_closed k.result open-record ∷ inside)
        = ap₂ (change_at (recorded_closed k.result)) place w.layers ∙ change-behind (recorded_closed k.result) (records_of box_of fs before) open-record inside in
        let now-records : records_of box_of fs (joined before y) ≡ records_of box_of fs before ++ (recorded_closed k.result open-record ∷ inside)
        = records-push box_of fs before y ∙ ap₂ (λ z i. records_of box_of fs before ++ (recorded_closed z open-record ∷ i)) result (append-nil inside) in
        let was = closings_of box_of fs before ++ closings box_of x in
        let now-closed : closings_of box_of fs (joined before y) ≡ was ++ (k.result ∷ [])
        = closings-push box_of fs before y ∙ ap (λ z. closings_of box_of fs before ++ (closings box_of x ++ (z ∷ []))) result ∙ sym (append_assoc (closings_of box_of fs before) (closings box_of x) (k.result ∷ [])) in
        let first : n ≡ base fs + size before = w.counts.0 ∙ length-flat box_of fs before w.counts.1 in
        let pads : pads_within op.filter (contents box_of x) ≡ true = ap (λ z. pads_within z.filter z.contents) (sym o_is) ∙ k.pads in
        nested-at (es ++ (Leave o.id ∷ [])) fs (joined before y) u (record {
          draft = draft-push _ es (Leave o.id) ∙ ap (λ z. shut z.frames z.sheet) w.draft;
          whole = ap₂ (λ a i. a ++ (Leave i ∷ [])) w.whole id-is ∙ append_assoc (flat fs before) (Enter n op ∷ entries x) (Leave n ∷ []) ∙ sym (flat-push fs before y);
          opened = ap (take_in (Some k.result.in_parent)) outer-is ∙ take_open box_of (Some k.result.in_parent) fs before (joined before y) taken;
          drawn = w.drawn ∙ drawn-close fs before x n op;
          nodes = w.nodes ∙ nodes-close fs before x n op;
          layers = changed ∙ sym now-records;
          largest = ap (grown (size_of k.result.bbox)) w.largest ∙ sym (ap (largest_from None) now-closed ∙ largest-push None was k.result);
          largest_filter = ap (grown_filter k.result.placement (size_of k.result.bbox)) w.largest_filter ∙ sym (ap (largest_filter_from None) now-closed ∙ largest_filter-push None was k.result);
          counts = w.counts.1;
          laid = all-laid-joined box_of fs before y w.laid.1 (closed-lies op (contents box_of x) pads, (w.laid.0, tt));
          ordered = all-ordered-joined fs before y w.ordered.1 (first, (subst (λ i. Ordered (suc i) x) first w.ordered.0, tt));
          long = length-change (recorded_closed k.result) o.id v.tree.layers ∙ w.long;
        })

  pub nested-close : (es : List (Entry D)) (v : Recording) (k : Closes v.account.opened) → Nested es v → Nested (es ++ (Leave k.layer.id ∷ [])) (after_closing v)
  nested-close es v k w =
      let q : after_closing v ≡ u es v k = ap (λ c. closed_by c v) k.gives ∙ ap (λ o. record { account = account_after_closing k.result v.account; tree = closed_tree k.result o v.tree }) k.is in
      subst (Nested (es ++ (Leave k.layer.id ∷ []))) (sym q) (close-frames es v k (draft_of es).frames (draft_of es).sheet w)

  -- with no layer open
  pub nested-sheet : (es : List (Entry D)) (v : Recording) → v.account.opened ≡ [] → Nested es v → NestedAs es [] (draft_of es).sheet v
  nested-sheet es v none w = go (draft_of es).frames (draft_of es).sheet w
    where
      go : (fs : List (Frame D)) (x : Sheet D) → NestedAs es fs x v → NestedAs es [] x v
      go [] x n = n
      go (frame before l o ∷ fs) x n =
          let e : [] ≡ open_with l o (contents box_of x) ∷ open_layers_of box_of fs before = sym none ∙ n.opened in
          absurd (cc)
