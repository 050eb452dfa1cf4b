-- A recording and its draw list keep to the ledger, call by call.
use Rattle.std.proofs.Common.{◌≡◌, ℕ, zero, suc, ◌+◌, ◌<◌, max, true, false, cond, ◌&&◌, ◌||◌, eqb, ltb, List, [], ◌∷◌, ◌++◌, length, get_or, take, drop, set, is_ok, Some, None, Ok, Err, Option, Result, sym, refl, ap, ◌∙◌, subst, ap₂, ⊎_elim, arith}
use Rattle.std.proofs.lemmas.List.{append-nil, map_push, take_more, take_more_set, length-take-le, drop-drop, drop-set-lt}
use Rattle.std.proofs.Math.Bool.{or-false, and-false}
use Rattle.std.proofs.lemmas.Bool.{cond_both, cases_Bool, and_parts, ltb-true}
use Rattle.refusal.specs.Refusals.{first_no}
use Rattle.refusal.specs.declared.Refusal.{Refusal}
use Rattle.geometry.specs.declared.rect.RectU16.{RectU16}
use Rattle.geometry.specs.declared.size.SizeU16.{SizeU16}
use Rattle.draws.specs.declared.blend.BlendMode.{BlendMode}
use Rattle.filter.specs.declared.data.FilterData.{FilterData}
use Rattle.layers.specs.declared.layer.OpenLayer.{OpenLayer}
use Rattle.layers.specs.declared.node.Node.{Node}
use Rattle.layers.specs.declared.props.LayerProps.{LayerProps}
use Rattle.record.specs.Account.{AccountView, ids, outer, at_root, blending, account_after_closing, scene_of}
use Rattle.record.specs.Recording.{Recording, empty_recording, after_draw, after_opening, after_closing, closed_by, closed_tree}
use Rattle.record.specs.Sound.{Threads}
use Rattle.record.specs.Table.{joins, node, top, lengthen, hang}
use Rattle.layers.specs.Records.{recorded_open}
use Rattle.record.specs.Tree.{TreeView, with_filter, tree_after_closing}
use Rattle.record.proofs.Sounds.{threads-draw, threads-open, threads-close, ids-take_in}
use Rattle.walk.specs.declared.listed.Listed.TheVariants as listed
use Rattle.ledger.specs.Ledger.{Entry, Draw, Enter, Leave, Ledger, draws_in, layers_in, opened, without, closed, noted, after, empty, ledger, ledger_from, number, numbers}
use Rattle.ledger.specs.declared.call.Answer.{Answer}
use Rattle.ledger.specs.declared.call.Call.{Call}
use Rattle.ledger.specs.declared.call.Call.TheVariants as call
use Rattle.ledger.specs.Laws.{Each, Stands, Led, LedAlways}
use Rattle.geometry.specs.declared.tile.Tile.{Tile}
use Rattle.layers.specs.declared.layer.RecordedLayer.{RecordedLayer}
use Rattle.tiles.specs.declared.surface.Surface.{Surface}
use Rattle.tiles.specs.declared.surface.Surface.TheVariants as surfaces
use Rattle.ledger.specs.Sheet.{Sheet, entries, records}
use Rattle.ledger.specs.Tiles.{opens_filter, filter_in, surface_in, tile_list}
use Rattle.walk.specs.FullWalk.{listed as walked}
use Rattle.tiles.specs.Tile.{after as past, until, sift, draw_shows, layer_shows, filter_at, is_surface, tile_listed}
use Rattle.ledger.proofs.Kepts.{Agrees, sifted, agrees}
use Rattle.ledger.proofs.Places.{records-at, all_placed}
use Rattle.ledger.proofs.Sheets.{size, Ordered, length-records}
use Rattle.ledger.proofs.Surfaces.{locate}
use Rattle.ledger.proofs.Tiles.{scene-kept}
use Rattle.ledger.specs.Made.{Made, after_call, written, draw_list}
use Rattle.ledger.specs.Runs.{after_entry, recorded_from, recorded, questions, Answered, AllAnswered}
use Rattle.ledger.specs.Draft.{draft_of, sheet_of}
use Rattle.ledger.specs.Recorded.{none, numbered, opening_mode, depth_at, layer_blends, deepest_from, filter_numbers, mode_in, root_blends, records_of, recording_for}
use Rattle.ledger.proofs.Figures.{filter_in-push, filter-append, filter-opened, filter-changed, blends-push, root-push, deepest-push, filters-push}
use Rattle.ledger.proofs.Closes.{Closes, closes}
use Rattle.ledger.proofs.Ledgers.{draws-push, layers-push, open-push, each-push, each-weaker, StandsBefore, stands_on, stands-new, stands_plain, ledger-push}
use Rattle.ledger.proofs.Drafts.{draft-sheet}
use Rattle.ledger.proofs.Nesteds.{Nested, nested-none, nested-draw, nested-open, nested-close, nested-sheet}
use Rattle.ledger.proofs.Shown.{Shown, shown-lengthen, shown-draw, shown-hang, shown-layer, shown-close, shown-none, shown-all}

same-account : (a b : AccountView) → a.scene ≡ b.scene → a.opened ≡ b.opened → a.drawn ≡ b.drawn → a.layers ≡ b.layers → a.root_target ≡ b.root_target → a.blends ≡ b.blends
    → a.deepest ≡ b.deepest → a.largest ≡ b.largest → a.largest_filter ≡ b.largest_filter → a ≡ b
same-account a b e1 e2 e3 e4 e5 e6 e7 e8 e9 =
    let e : ◌≡◌ {A = AccountView} (record { scene = a.scene; opened = a.opened; drawn = a.drawn; layers = a.layers; root_target = a.root_target; blends = a.blends; deepest = a.deepest; largest = a.largest; largest_filter = a.largest_filter }) (record { scene = b.scene; opened = b.opened; drawn = b.drawn; layers = b.layers; root_target = b.root_target; blends = b.blends; deepest = b.deepest; largest = b.largest; largest_filter = b.largest_filter }) = cc in
    e

same-tree : (t u : TreeView) → t.nodes ≡ u.nodes → t.layers ≡ u.layers → t.filters ≡ u.filters → t ≡ u
same-tree t u e1 e2 e3 = let e : ◌≡◌ {A = TreeView} (record { nodes = t.nodes; layers = t.layers; filters = t.filters }) (record { nodes = u.nodes; layers = u.layers; filters = u.filters }) = cc in e

same-fields : (v u : Recording) → v.account ≡ u.account → v.tree ≡ u.tree → v ≡ u
same-fields v u e1 e2 = ap₂ (λ x y. record { account = x; tree = y }) e1 e2

module _ {D : Type 0} (box_of : D → Option RectU16) (mode_of : D → Option BlendMode) where
  -- the figures of the entries
  pub record Figures (scene : SizeU16) (es : List (Entry D)) (v : Recording) : Type 0 where
    pub scene-is : v.account.scene ≡ scene
    pub root_target : v.account.root_target ≡ root_blends mode_of [] es
    pub blends : v.account.blends ≡ layer_blends es
    pub deepest : v.account.deepest ≡ deepest_from [] es
    pub filters : v.tree.filters ≡ filter_numbers es
    pub surfaces : (l : ℕ) → filter_at v.tree.layers l ≡ filter_in l es

  -- the entries es, since a reset to the scene, led to the recording v and the draw list ds
  pub record Keeps (scene : SizeU16) (es : List (Entry D)) (v : Recording) (ds : List D) : Type 0 where
    pub is : v ≡ recorded_from box_of mode_of (empty_recording scene) es
    pub figures : Figures scene es v
    pub shown : Shown (numbers es) v.tree.nodes (ids v.account.opened) v.account.layers
    pub threads : Threads v.tree.nodes (ids v.account.opened) v.account.drawn v.account.layers
    pub unclosed : opened es ≡ ids v.account.opened
    pub draws : draws_in es ≡ v.account.drawn
    pub layers : layers_in es ≡ v.account.layers
    pub stands : Each (StandsBefore v.account.drawn ds) es
    pub nested : Nested box_of mode_of es v

  pub keeps-none : (scene : SizeU16) (ds : List D) → Keeps scene [] (empty_recording scene) ds
  keeps-none scene ds = record {
    is = refl;
    figures = record { scene-is = refl; root_target = refl; blends = refl; deepest = refl; filters = refl; surfaces = λ l. refl };
    shown = shown-none;
    threads = record { chained = tt; ends = refl; holds = refl; numbered = tt; found = tt; inside = refl; falls = tt };
    unclosed = refl;
    draws = refl;
    layers = refl;
    stands = tt;
    nested = nested-none box_of mode_of scene;
  }

  -- the recording is the ledger's
  same-recording : (b : Ledger D) (v : Recording) (ds : List D) → Keeps b.scene b.entries v ds → v ≡ recording_for box_of mode_of b
  same-recording b v ds w =
      let f = w.figures in
      let n = w.nested in
      same-fields v (recording_for box_of mode_of b)
      (same-account v.account (recording_for box_of mode_of b).account f.scene-is n.opened (sym w.draws) (sym w.layers) f.root_target f.blends f.deepest n.largest n.largest_filter)
      (same-tree v.tree (recording_for box_of mode_of b).tree n.nodes n.layers f.filters)

  length_ids : (os : List OpenLayer) → length (ids os) ≡ length os
  length_ids [] = refl
  length_ids (o ∷ os) = ap suc (length_ids os)

  pub root_none : (os : List OpenLayer) → none (ids os) ≡ at_root os
  root_none [] = refl
  root_none (o ∷ os) = refl

  filter-new : (f : Option FilterData) (l : ℕ) (ns : List ℕ) → ns ++ numbered f l [] ≡ with_filter f l ns
  filter-new None l ns = append-nil ns
  filter-new (Some f) l ns = refl

  recorded-push : (r : Recording) (es : List (Entry D)) (e : Entry D) → recorded_from box_of mode_of r (es ++ (e ∷ [])) ≡ after_entry box_of mode_of e (recorded_from box_of mode_of r es)
  recorded-push r [] e = refl
  recorded-push r (x ∷ es) e = recorded-push (after_entry box_of mode_of x r) es e

  numbers-push : (es : List (Entry D)) (e : Entry D) → numbers (es ++ (e ∷ [])) ≡ numbers es ++ (number e ∷ [])
  numbers-push es e = map_push number es e

  module _ (scene : SizeU16) (es : List (Entry D)) (v : Recording) (ds : List D) (w : Keeps scene es v ds) where
    -- the rules make of the next entry what the call does
    now-is : (e : Entry D) → after_entry box_of mode_of e v ≡ recorded_from box_of mode_of (empty_recording scene) (es ++ (e ∷ []))
    now-is e = ap (after_entry box_of mode_of e) w.is ∙ sym (recorded-push (empty_recording scene) es e)

    -- whether the root is what the next entry blends into
    root-next : (e : Entry D) → (v.account.root_target || (at_root v.account.opened && blending (mode_in mode_of e))) ≡ root_blends mode_of [] (es ++ (e ∷ []))
    root-next e =
        ap₂ (λ x y. x || (y && blending (mode_in mode_of e))) w.figures.root_target (sym (root_none v.account.opened) ∙ ap none (sym w.unclosed))
        ∙ sym (root-push mode_of [] es e)

    blends-next : (e : Entry D) → (v.account.blends || blending (opening_mode e)) ≡ layer_blends (es ++ (e ∷ []))
    blends-next e = ap (λ x. x || blending (opening_mode e)) w.figures.blends ∙ sym (blends-push es e)

    deepest-next : (e : Entry D) → max v.account.deepest (depth_at (ids v.account.opened) e) ≡ deepest_from [] (es ++ (e ∷ []))
    deepest-next e = ap₂ (λ x s. max x (depth_at s e)) w.figures.deepest (sym w.unclosed) ∙ sym (deepest-push [] es e)

    surfaces-next : (e : Entry D) (l : ℕ) → (filter_at v.tree.layers l || opens_filter l e) ≡ filter_in l (es ++ (e ∷ []))
    surfaces-next e l = ap (λ x. x || opens_filter l e) (w.figures.surfaces l) ∙ sym (filter_in-push l es e)

    filters-next : (e : Entry D) → v.tree.filters ++ filter_numbers (e ∷ []) ≡ filter_numbers (es ++ (e ∷ []))
    filters-next e = ap (λ x. x ++ filter_numbers (e ∷ [])) w.figures.filters ∙ sym (filters-push es e)

    pub keeps-draw : (d : D) → v.account.drawn < length ds → Keeps scene (es ++ (Draw (draws_in es) d ∷ [])) (after_draw (box_of d) (mode_of d) v) (set ds v.account.drawn d)
    keeps-draw d h =
        let n = v.account.drawn in
        let l = v.account.layers in
        let s = ids v.account.opened in
        let t = v.tree.nodes in
        let same-ids = ids-take_in (box_of d) v.account.opened in
        let e = Draw (draws_in es) d in
        let P : List Node → Type 0 = λ t'. Shown (numbers es ++ (listed.Draw n ∷ [])) t' s l in
        let sh = cond_both (joins t (top s)) (lengthen (n + 1) t) (node n (n + 1) None (top s) ∷ t) P
        (λ j. shown-lengthen (numbers es) s l n t j w.threads.ends w.threads.chained w.shown)
        (λ j. shown-draw (numbers es) s l n t w.shown) in
        let stood = each-weaker (StandsBefore n ds) (StandsBefore (n + 1) (set ds n d)) (stands_on n ds d) es w.stands in
        let deep = deepest-next e in
        record {
          is = now-is e;
          figures = record {
            scene-is = w.figures.scene-is;
            root_target = root-next e;
            blends = sym (or-false v.account.blends) ∙ blends-next e;
            deepest = omega arith;
            filters = sym (append-nil v.tree.filters) ∙ filters-next e;
            surfaces = λ i. sym (or-false (filter_at v.tree.layers i)) ∙ surfaces-next e i;
          };
          shown = rw (same-ids, numbers-push es e, w.draws) sh;
          threads = rw same-ids (threads-draw s n l t w.threads);
          unclosed = open-push [] es e ∙ w.unclosed ∙ sym same-ids;
          draws = omega (arith, draws-push es e, w.draws);
          layers = omega (arith, layers-push es e, w.layers);
          stands = each-push (StandsBefore (n + 1) (set ds n d)) es e stood (rw w.draws (stands-new n ds d h));
          nested = nested-draw box_of mode_of es v (draws_in es) d w.nested;
        }

    pub keeps-open : (props : LayerProps) (f : Option FilterData) → Keeps scene (es ++ (Enter (layers_in es) (record { props = props; filter = f }) ∷ [])) (after_opening props f v) ds
    keeps-open props f =
        let n = v.account.drawn in
        let l = v.account.layers in
        let s = ids v.account.opened in
        let t = v.tree.nodes in
        let e : Entry D = Enter (layers_in es) (record { props = props; filter = f }) in
        let P : List Node → Type 0 = λ t'. Shown (numbers es ++ (listed.Enter l ∷ [])) t' (l ∷ s) (l + 1) in
        let sh = cond_both (joins t (top s)) (hang l t) (node n n (Some l) (top s) ∷ t) P
        (λ j. shown-hang (numbers es) s l t j w.shown)
        (λ j. shown-layer (numbers es) s l n t w.shown) in
        let deep = deepest-next e in
        record {
          is = now-is e;
          figures = record {
            scene-is = w.figures.scene-is;
            root_target = root-next e;
            blends = blends-next e;
            deepest = ap (λ k. max v.account.deepest (k + 1)) (sym (length_ids v.account.opened)) ∙ deep;
            filters = sym (filter-new f l v.tree.filters) ∙ ap (λ i. v.tree.filters ++ numbered f i []) (sym w.layers) ∙ filters-next e;
            surfaces = λ i.
                filter-append v.tree.layers (recorded_open props f (length v.account.opened + 1)) i
                ∙ ap₂ (λ k b. filter_at v.tree.layers i || (eqb i k && b)) (w.nested.long ∙ sym w.layers) (filter-opened f)
                ∙ surfaces-next e i;
          };
          shown = rw (numbers-push es e, w.layers) sh;
          threads = threads-open s n l t w.threads;
          unclosed = open-push [] es e ∙ ap₂ (λ x y. x ∷ y) w.layers w.unclosed;
          draws = omega (arith, draws-push es e, w.draws);
          layers = omega (arith, layers-push es e, w.layers);
          stands = each-push (StandsBefore n ds) es e w.stands tt;
          nested = nested-open box_of mode_of es v (layers_in es) props f w.layers w.nested;
        }

    pub keeps-close : Closes v.account.opened → Keeps scene (closed es (opened es)) (after_closing v) ds
    keeps-close k =
        let n = v.account.drawn in
        let l = v.account.layers in
        let t = v.tree.nodes in
        let x = k.layer.id in
        let s = ids k.outer in
        let e : Entry D = Leave x in
        let u : Recording = record { account = account_after_closing k.result v.account; tree = tree_after_closing x k.result v.tree } in
        let q : after_closing v ≡ u = ap (λ c. closed_by c v) k.gives ∙ ap (λ o. record { account = account_after_closing k.result v.account; tree = closed_tree k.result o v.tree }) k.is in
        let was : ids v.account.opened ≡ x ∷ s = ap ids k.is in
        let i : ids u.account.opened ≡ s = ids-take_in (Some k.result.in_parent) (outer v.account.opened) ∙ ap (λ o. ids (outer o)) k.is in
        let sh = shown-close (numbers es) t x s l (subst (λ z. Shown (numbers es) t z l) was w.shown) in
        let th = threads-close s n l x t (subst (λ z. Threads t z n l) was w.threads) in
        let here : closed es (opened es) ≡ es ++ (e ∷ []) = ap (closed es) (w.unclosed ∙ was) in
        let deep = deepest-next e in
        let keeps : Keeps scene (es ++ (e ∷ [])) u ds = record {
          is = sym q ∙ now-is e;
          figures = record {
            scene-is = w.figures.scene-is;
            root_target = sym (ap (λ x. v.account.root_target || x) (and-false (at_root v.account.opened)) ∙ or-false v.account.root_target) ∙ root-next e;
            blends = sym (or-false v.account.blends) ∙ blends-next e;
            deepest = omega arith;
            filters = sym (append-nil v.tree.filters) ∙ filters-next e;
            surfaces = λ i. filter-changed k.result x v.tree.layers i ∙ sym (or-false (filter_at v.tree.layers i)) ∙ surfaces-next e i;
          };
          shown = rw (numbers-push es e) (subst (λ z. Shown (numbers es ++ (listed.Leave x ∷ [])) t z l) (sym i) sh);
          threads = subst (λ z. Threads t z n l) (sym i) th;
          unclosed = open-push [] es e ∙ ap without (w.unclosed ∙ was) ∙ sym i;
          draws = omega (arith, draws-push es e, w.draws);
          layers = omega (arith, layers-push es e, w.layers);
          stands = each-push (StandsBefore n ds) es e w.stands tt;
          nested = subst (λ z. Nested box_of mode_of (es ++ (e ∷ [])) z) q (nested-close box_of mode_of es v k w.nested);
        } in
        subst (λ z. Keeps scene z (after_closing v) ds) (sym here) (subst (λ z. Keeps scene (es ++ (e ∷ [])) z ds) (sym q) keeps)

  -- a draw that is not refused has a place in the list
  place : (n m : ℕ) → cond {A = Option ℕ} (ltb n 1048576 && ltb n m) None (Some 3) ≡ None → n < m
  place n m e =
      ⊎_elim (λ (t : (ltb n 1048576 && ltb n m) ≡ true). ltb-true n m (and_parts (ltb n 1048576) (ltb n m) t).1)
      (λ (t : (ltb n 1048576 && ltb n m) ≡ false). let x : cond {A = Option ℕ} (ltb n 1048576 && ltb n m) None (Some 3) ≡ Some 3 = rw t refl in absurd (cc))
      (cases_Bool (ltb n 1048576 && ltb n m))

  accepted-call : (c : Call D) (b : Ledger D) (v : Recording) (ds : List D) → first_no (questions c (length ds) v) ≡ None → Keeps b.scene b.entries v ds
      → Keeps (noted b c).scene (noted b c).entries (after_call box_of mode_of c v) (written box_of mode_of c v ds)
  accepted-call (call.Reset x y) b v ds e w = keeps-none (scene_of x y) ds
  accepted-call (call.Draw d) b v ds e w = keeps-draw b.scene b.entries v ds w d (place v.account.drawn (length ds) e)
  accepted-call (call.Open props f) b v ds e w = keeps-open b.scene b.entries v ds w props f
  accepted-call call.Close b v ds e w = keeps-close b.scene b.entries v ds w (closes v.account e)

  -- any call
  pub keeps-made : (c : Call D) (a : Result Answer Refusal) (b : Ledger D) (v v' : Recording) (ds ds' : List D) → Made box_of mode_of c a v v' ds ds' → Keeps b.scene b.entries v ds
      → Keeps (after b c a).scene (after b c a).entries v' ds'
  keeps-made c (Ok a) b v v' ds ds' m w = rw (m.recorded, m.list) (accepted-call c b v ds m.answered.0 w)
  keeps-made c (Err e) b v v' ds ds' m w = rw (m.recorded, m.list) w

  none_open : (opened : List OpenLayer) → ids opened ≡ [] → opened ≡ []
  none_open [] e = refl
  none_open (o ∷ os) e = absurd (cc)

  walk-lists : (b : Ledger D) (v : Recording) (ds : List D) → opened b.entries ≡ [] → Keeps b.scene b.entries v ds → walked v ≡ numbers b.entries
  walk-lists b v ds none w = shown-all (numbers b.entries) v.tree.nodes v.account.layers (subst (λ z. Shown (numbers b.entries) v.tree.nodes z v.account.layers) (sym w.unclosed ∙ none) w.shown)

  all-stand : (b : Ledger D) (v : Recording) (ds : List D) → Keeps b.scene b.entries v ds → Each (Stands ds) b.entries
  all-stand b v ds w = each-weaker (StandsBefore v.account.drawn ds) (Stands ds) (stands_plain v.account.drawn ds) b.entries w.stands

  filter-below : (table : List RecordedLayer) (l : ℕ) → filter_at table l ≡ true → l < length table
  filter-below [] l e = absurd (cc)
  filter-below (x ∷ table) zero e = omega arith
  filter-below (x ∷ table) (suc l) e = let h = filter-below table l e in omega arith

  -- the tile lists of a recording whose layers and walk are a sheet's
  tiles-listed : (x : Sheet D) (v : Recording) (ds : List D) (t : Tile) → walked v ≡ numbers (entries x) → v.tree.layers ≡ records box_of 1 x → Ordered 0 x → Each (Stands ds) (entries x)
      → (s : Surface) → is_surface s v.tree.layers ≡ true → tile_listed s t (draw_shows box_of t ds) v ≡ tile_list box_of s t x
  tiles-listed x v ds t lists table o stand s is =
      let at_front : v.tree.layers ≡ [] ++ (records box_of 1 x ++ []) = table ∙ sym (append-nil (records box_of 1 x)) in
      let agree = agrees box_of t ds v.tree.layers 1 x (records-at box_of v.tree.layers 1 x [] [] at_front o) stand in
      go s is agree
    where
      go : (s : Surface) → is_surface s v.tree.layers ≡ true → Agrees box_of t (draw_shows box_of t ds) (layer_shows t v.tree.layers) (filter_at v.tree.layers) x → tile_listed s t (draw_shows box_of t ds) v ≡ tile_list box_of s t x
      go surfaces.Scene is a =
          ap (λ z. sift (draw_shows box_of t ds) (layer_shows t v.tree.layers) [] 0 z) lists
          ∙ sifted box_of t (draw_shows box_of t ds) (layer_shows t v.tree.layers) (filter_at v.tree.layers) x a
          ∙ sym (scene-kept box_of t x)
      go (surfaces.Layer l) is a =
          let long = ap length table ∙ length-records box_of 1 x in
          let below : l < 0 + size x = omega (arith, filter-below v.tree.layers l is) in
          let w = locate box_of t (draw_shows box_of t ds) (layer_shows t v.tree.layers) (filter_at v.tree.layers) l is x 0 o (omega arith) below a in
          let within : until l (past l (walked v)) ≡ numbers (entries w.inner) = ap (λ z. until l (past l z)) (lists ∙ sym (append-nil (numbers (entries x)))) ∙ w.lines [] in
          ap (λ z. sift (draw_shows box_of t ds) (layer_shows t v.tree.layers) [] 0 z) within
          ∙ sifted box_of t (draw_shows box_of t ds) (layer_shows t v.tree.layers) (filter_at v.tree.layers) w.inner w.agree
          ∙ sym (scene-kept box_of t w.inner)
          ∙ sym (w.lists [] refl)

  pub surface-is : (b : Ledger D) (v : Recording) (ds : List D) → Keeps b.scene b.entries v ds → (s : Surface) → is_surface s v.tree.layers ≡ surface_in s b.entries
  surface-is b v ds w surfaces.Scene = refl
  surface-is b v ds w (surfaces.Layer l) = w.figures.surfaces l

  -- what is promised of a run
  pub keeps-always : (b : Ledger D) (v : Recording) (ds : List D) → Keeps b.scene b.entries v ds → LedAlways box_of mode_of b v ds
  keeps-always b v ds w =
      let sheet = λ (none : opened b.entries ≡ []). nested-sheet box_of mode_of b.entries v (none_open v.account.opened (sym w.unclosed ∙ none)) w.nested in
      let whole : opened b.entries ≡ [] → entries (sheet_of b.entries) ≡ b.entries = λ none. sym (sheet none).whole in
      record {
        nests = sym w.nested.whole;
        recording = same-recording b v ds w;
        stands = all-stand b v ds w;
        placed = all_placed box_of v.tree.layers (draft_of b.entries).frames (sheet_of b.entries) [] (w.nested.layers ∙ sym (append-nil (records_of box_of (draft_of b.entries).frames (sheet_of b.entries)))) w.nested.counts w.nested.ordered w.nested.laid;
        walk = λ none. walk-lists b v ds none w;
        whole = whole;
        only = λ x e. sym (ap (λ z. z.sheet) (ap draft_of (sym e) ∙ draft-sheet x));
        tiles = λ none s t is.
            let stand = subst (λ z. Each (Stands ds) z) (sym (whole none)) (all-stand b v ds w) in
            let lists = walk-lists b v ds none w ∙ ap numbers (sym (whole none)) in
            tiles-listed (sheet_of b.entries) v ds t lists (sheet none).layers (sheet none).ordered stand s (surface-is b v ds w s ∙ is);
      }

  -- and what is promised by the rules
  pub keeps-led : (b : Ledger D) (v : Recording) (ds : List D) → Keeps b.scene b.entries v ds → Led box_of mode_of b v ds
  keeps-led b v ds w =
      let a = keeps-always b v ds w in
      record {
        recording = w.is;
        stands = a.stands;
        walk = a.walk;
        nests = λ none.
            let sheet = nested-sheet box_of mode_of b.entries v (none_open v.account.opened (sym w.unclosed ∙ none)) w.nested in
            record {
              sheet = sheet_of b.entries;
              whole = a.whole none;
              layers = sheet.layers;
              placed = sheet.laid;
              tiles = λ s t is. a.tiles none s t (sym (surface-is b v ds w s) ∙ is);
            };
      }

  -- one more answer
  answered-push : (places : ℕ) (b : Ledger D) (cs : List (Call D)) (answers : List (Result Answer Refusal)) (c : Call D) (a : Result Answer Refusal) → length cs ≡ length answers → AllAnswered box_of mode_of places b cs answers
      → Answered c places (recorded box_of mode_of (ledger_from b cs answers)) a → AllAnswered box_of mode_of places b (cs ++ (c ∷ [])) (answers ++ (a ∷ []))
  answered-push places b [] [] c a h all x = (x, tt)
  answered-push places b [] (y ∷ ys) c a h all x = absurd (omega arith)
  answered-push places b (z ∷ zs) [] c a h all x = absurd (omega arith)
  answered-push places b (z ∷ zs) (y ∷ ys) c a h all x = (all.0, answered-push places (after b z y) zs ys c a (omega arith) all.1 x)

  -- the draw list after one more call
  draw-list-push : (b : Ledger D) (cs : List (Call D)) (answers : List (Result Answer Refusal)) (c : Call D) (a : Result Answer Refusal) (ds : List D) → length cs ≡ length answers
      → draw_list box_of mode_of b (cs ++ (c ∷ [])) (answers ++ (a ∷ [])) ds
      ≡ cond (is_ok a) (written box_of mode_of c (recording_for box_of mode_of (ledger_from b cs answers)) (draw_list box_of mode_of b cs answers ds)) (draw_list box_of mode_of b cs answers ds)
  draw-list-push b [] [] c a ds h = refl
  draw-list-push b [] (y ∷ ys) c a ds h = absurd (omega arith)
  draw-list-push b (z ∷ zs) [] c a ds h = absurd (omega arith)
  draw-list-push b (z ∷ zs) (y ∷ ys) c a ds h = draw-list-push (after b z y) zs ys c a (cond (is_ok y) (written box_of mode_of z (recording_for box_of mode_of b) ds) ds) (omega arith)

  -- after i calls of a run that began with the draw list `old`
  pub record SoFar (old : List D) (calls : List (Call D)) (answers first : List (Result Answer Refusal)) (i : ℕ) (v : Recording) (ds : List D) : Type 0 where
    pub keeps : Keeps (ledger (take i calls) (take i answers)).scene (ledger (take i calls) (take i answers)).entries v ds
    pub answered : AllAnswered box_of mode_of (length old) empty (take i calls) (take i answers)
    pub later : drop i answers ≡ drop i first
    pub long : length ds ≡ length old
    pub list : ds ≡ draw_list box_of mode_of empty (take i calls) (take i answers) old

  pub reached-next : (old : List D) (calls : List (Call D)) (answers first : List (Result Answer Refusal)) (i : ℕ) (c : Call D) (a : Result Answer Refusal) (v v' : Recording) (ds ds' : List D)
      → i < length calls → i < length answers → c ≡ get_or calls i c → length ds' ≡ length ds → Made box_of mode_of c a v v' ds ds' → SoFar old calls answers first i v ds
      → SoFar old calls (set answers i a) first (i + 1) v' ds'
  reached-next old calls answers first i c a v v' ds ds' lt lt' is long m w =
      let t : take (i + 1) calls ≡ take i calls ++ (c ∷ []) = take_more calls i c lt ∙ ap (λ x. take i calls ++ (x ∷ [])) (sym is) in
      let u : take (i + 1) (set answers i a) ≡ take i answers ++ (a ∷ []) = take_more_set answers i a lt' in
      let same : length (take i calls) ≡ length (take i answers) = length-take-le i calls (omega arith) ∙ sym (length-take-le i answers (omega arith)) in
      let b = ledger (take i calls) (take i answers) in
      let p : ledger (take (i + 1) calls) (take (i + 1) (set answers i a)) ≡ after b c a = ap₂ (λ x y. ledger x y) t u ∙ ledger-push empty (take i calls) (take i answers) c a same in
      let k = keeps-made c a b v v' ds ds' m w.keeps in
      let told : Answered c (length old) (recorded box_of mode_of b) a = subst (λ r. Answered c (length old) r a) w.keeps.is (subst (λ n. Answered c n v a) w.long m.answered) in
      let all = answered-push (length old) empty (take i calls) (take i answers) c a same w.answered told in
      let past : i < i + 1 = omega arith in
      let one : drop (i + 1) answers ≡ drop (i + 1) first = sym (drop-drop 1 i answers) ∙ ap (drop 1) w.later ∙ drop-drop 1 i first in
      let pushed = draw-list-push empty (take i calls) (take i answers) c a old same in
      let wrote = λ (r : Recording) (zs : List D). cond (is_ok a) (written box_of mode_of c r zs) zs in
      record {
        keeps = subst (λ z. Keeps z.scene z.entries v' ds') (sym p) k;
        answered = subst (λ z. AllAnswered box_of mode_of (length old) empty z (take (i + 1) (set answers i a))) (sym t) (subst (λ z. AllAnswered box_of mode_of (length old) empty (take i calls ++ (c ∷ [])) z) (sym u) all);
        later = drop-set-lt (i + 1) answers i a past ∙ one;
        long = long ∙ w.long;
        list = m.list ∙ ap₂ wrote (same-recording b v ds w.keeps) w.list ∙ sym pushed ∙ sym (ap₂ (λ x y. draw_list box_of mode_of empty x y old) t u);
      }
