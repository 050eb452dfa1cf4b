-- The sieve over the full walk's entries keeps what the tile shows of the sheet.
use Rattle.std.proofs.Common.{◌≡◌, ℕ, zero, suc, ◌+◌, ◌<◌, Bool, true, cond, not, List, [], ◌∷◌, ◌++◌, length, get_or, Some, None, Option, sym, refl, ap, ◌∙◌, append_assoc, arith}
use Rattle.std.specs.List.{slice_get}
use Rattle.std.proofs.lemmas.List.{append-nil, map-append}
use Rattle.geometry.specs.declared.rect.RectU16.{RectU16}
use Rattle.geometry.specs.declared.tile.Tile.{Tile}
use Rattle.geometry.specs.Cover.{covered}
use Rattle.filter.specs.declared.data.FilterData.{FilterData}
use Rattle.filter.specs.declared.placement.FilterLayerPlacement.{FilterLayerPlacement}
use Rattle.filter.specs.Placement.{placed}
use Rattle.layers.specs.declared.layer.RecordedLayer.{RecordedLayer}
use Rattle.layers.specs.Closing.{closing_by, closed_placed, or_zero}
use Rattle.layers.specs.Opening.{clip_box}
use Rattle.layers.specs.Records.{open_kind, placed_kind}
use Rattle.walk.specs.declared.listed.Listed.{Listed}
use Rattle.walk.specs.declared.listed.Listed.TheVariants as listed
use Rattle.tiles.specs.declared.showing.Showing.{Showing}
use Rattle.tiles.specs.declared.showing.Showing.TheVariants as showings
use Rattle.tiles.specs.Tile.{sift, entering, deeper, box_shows, draw_shows, showing, showing_kind, layer_shows, filter_kind, filter_at}
use Rattle.ledger.specs.Laws.{Each, Stands}
use Rattle.ledger.specs.Ledger.{Opening, Entry, Leave, number, numbers}
use Rattle.ledger.specs.Sheet.{Sheet, end, draw, layer, entries, or_nothing, contents, layer_record}
use Rattle.ledger.specs.Tiles.{regular}
use Rattle.ledger.proofs.Places.{RecordsAt}
use Rattle.ledger.proofs.Tiles.{shows_as, kept_layer, kept}

-- the entries of a layer, with what comes after
pub layer-entries : {D : Type 0} (n : ℕ) (o : Opening) (inside rest : Sheet D) (ys : List Listed)
    → numbers (entries (layer n o inside rest)) ++ ys ≡ listed.Enter n ∷ (numbers (entries inside) ++ (listed.Leave n ∷ (numbers (entries rest) ++ ys)))
layer-entries n o inside rest ys =
    ap (λ z. listed.Enter n ∷ (z ++ ys)) (map-append number (entries inside) (Leave n ∷ entries rest))
    ∙ ap (λ z. listed.Enter n ∷ z) (append_assoc (numbers (entries inside)) (listed.Leave n ∷ numbers (entries rest)) ys)

module _ {D : Type 0} (box_of : D → Option RectU16) (t : Tile) (seen : ℕ → Bool) (shows : ℕ → Showing) (filters : ℕ → Bool) where
  -- draws and layers are seen by their numbers as the sheet has them
  abbrev pub Agrees : Sheet D → Type 0
  Agrees end = Unit {0}
  Agrees (draw n d rest) = (seen n ≡ box_shows t (box_of d)) × Agrees rest
  Agrees (layer n o inside rest) = ((shows n ≡ shows_as t o (contents box_of inside)) × (filters n ≡ not (regular o.filter))) × (Agrees inside × Agrees rest)

  sift-passed : (x : Sheet D) (out : List Listed) (k : ℕ) (ys : List Listed) → sift seen shows out (suc k) (numbers (entries x) ++ ys) ≡ sift seen shows out (suc k) ys
  sift-passed end out k ys = refl
  sift-passed (draw n d rest) out k ys = sift-passed rest out k ys
  sift-passed (layer n o inside rest) out k ys =
      ap (λ z. sift seen shows out (suc k) z) (layer-entries n o inside rest ys)
      ∙ sift-passed inside out (suc k) (listed.Leave n ∷ (numbers (entries rest) ++ ys))
      ∙ sift-passed rest out k ys

  -- what the entries of a sheet come to, with those after it
  abbrev Kept : Sheet D → Type 0
  Kept x = (out ys : List Listed) → sift seen shows out 0 (numbers (entries x) ++ ys) ≡ sift seen shows (out ++ kept box_of t x) 0 ys

  sift-draw : (b : Bool) (n : ℕ) (d : D) (rest : Sheet D) → seen n ≡ b → Kept rest → (out ys : List Listed)
      → sift seen shows out 0 (listed.Draw n ∷ (numbers (entries rest) ++ ys)) ≡ sift seen shows (out ++ (cond b (listed.Draw n ∷ []) [] ++ kept box_of t rest)) 0 ys
  sift-draw b n d rest e all out ys =
      ap (λ z. sift seen shows (out ++ cond z (listed.Draw n ∷ []) []) 0 (numbers (entries rest) ++ ys)) e
      ∙ all (out ++ cond b (listed.Draw n ∷ []) []) ys
      ∙ ap (λ z. sift seen shows z 0 ys) (append_assoc out (cond b (listed.Draw n ∷ []) []) (kept box_of t rest))

  enters : (s : Showing) (n : ℕ) (out zs : List Listed) → shows n ≡ s → sift seen shows out 0 (listed.Enter n ∷ zs) ≡ sift seen shows (out ++ entering s n) (deeper s) zs
  enters s n out zs e = ap (λ z. sift seen shows (out ++ entering z n) (deeper z) zs) e

  sift-layer : (s : Showing) (n : ℕ) (inside rest : Sheet D) → shows n ≡ s → Kept inside → Kept rest → (out ys : List Listed)
      → sift seen shows out 0 (listed.Enter n ∷ (numbers (entries inside) ++ (listed.Leave n ∷ (numbers (entries rest) ++ ys)))) ≡ sift seen shows (out ++ kept_layer s n (kept box_of t inside) (kept box_of t rest)) 0 ys
  sift-layer showings.Through n inside rest e first then out ys =
      enters showings.Through n out (numbers (entries inside) ++ (listed.Leave n ∷ (numbers (entries rest) ++ ys))) e
      ∙ first (out ++ (listed.Enter n ∷ [])) (listed.Leave n ∷ (numbers (entries rest) ++ ys))
      ∙ then (((out ++ (listed.Enter n ∷ [])) ++ kept box_of t inside) ++ (listed.Leave n ∷ [])) ys
      ∙ ap (λ z. sift seen shows z 0 ys) (simp append_assoc)
  sift-layer showings.Placed n inside rest e first then out ys =
      enters showings.Placed n out (numbers (entries inside) ++ (listed.Leave n ∷ (numbers (entries rest) ++ ys))) e
      ∙ sift-passed inside (out ++ (listed.Filter n ∷ [])) 0 (listed.Leave n ∷ (numbers (entries rest) ++ ys))
      ∙ then (out ++ (listed.Filter n ∷ [])) ys
      ∙ ap (λ z. sift seen shows z 0 ys) (append_assoc out (listed.Filter n ∷ []) (kept box_of t rest))
  sift-layer showings.Hidden n inside rest e first then out ys =
      enters showings.Hidden n out (numbers (entries inside) ++ (listed.Leave n ∷ (numbers (entries rest) ++ ys))) e
      ∙ ap (λ z. sift seen shows z 1 (numbers (entries inside) ++ (listed.Leave n ∷ (numbers (entries rest) ++ ys)))) (append-nil out)
      ∙ sift-passed inside out 0 (listed.Leave n ∷ (numbers (entries rest) ++ ys))
      ∙ then out ys

  sift-kept : (x : Sheet D) → Agrees x → Kept x
  sift-kept end a out ys = ap (λ z. sift seen shows z 0 ys) (sym (append-nil out))
  sift-kept (draw n d rest) a out ys = sift-draw (box_shows t (box_of d)) n d rest a.0 (sift-kept rest a.1) out ys
  sift-kept (layer n o inside rest) a out ys =
      ap (λ z. sift seen shows out 0 z) (layer-entries n o inside rest ys)
      ∙ sift-layer (shows_as t o (contents box_of inside)) n inside rest a.0.0 (sift-kept inside a.1.0) (sift-kept rest a.1.1) out ys

  pub sifted : (x : Sheet D) → Agrees x → sift seen shows [] 0 (numbers (entries x)) ≡ kept box_of t x
  sifted x a = ap (λ z. sift seen shows [] 0 z) (sym (append-nil (numbers (entries x)))) ∙ sift-kept x a [] []

-- a layer's record shows as its opening and contents say
shows-record : (t : Tile) (f : Option FilterData) (clip c : Option RectU16)
    → showing_kind t (or_nothing (closing_by f clip c)).bbox (placed_kind (or_nothing (closing_by f clip c)).placement (open_kind f))
    ≡ cond (covered t (or_nothing (closing_by f clip c)).in_parent) (cond (regular f) showings.Through showings.Placed) showings.Hidden
shows-record t None clip c = refl
shows-record t (Some f) clip c = go (placed (or_zero c) f)
  where
    go : (p : Option FilterLayerPlacement) → showing_kind t (or_nothing (closed_placed p)).bbox (placed_kind (or_nothing (closed_placed p)).placement (open_kind (Some f)))
        ≡ cond (covered t (or_nothing (closed_placed p)).in_parent) showings.Placed showings.Hidden
    go None = refl
    go (Some p) = refl

shows-at : (t : Tile) (table : List RecordedLayer) (n : ℕ) (x : RecordedLayer) → slice_get table n ≡ Some x → layer_shows t table n ≡ showing t x
shows-at t [] n x e = absurd (cc)
shows-at t (y ∷ table) zero x e = let same : y ≡ x = cc in ap (showing t) same
shows-at t (y ∷ table) (suc n) x e = shows-at t table n x e

filter-at : (table : List RecordedLayer) (n : ℕ) (x : RecordedLayer) → slice_get table n ≡ Some x → filter_at table n ≡ filter_kind x.kind
filter-at [] n x e = absurd (cc)
filter-at (y ∷ table) zero x e = let same : y ≡ x = cc in ap (λ z. filter_kind z.kind) same
filter-at (y ∷ table) (suc n) x e = filter-at table n x e

filter-record : (f : Option FilterData) (clip c : Option RectU16) → filter_kind (placed_kind (or_nothing (closing_by f clip c)).placement (open_kind f)) ≡ not (regular f)
filter-record None clip c = refl
filter-record (Some f) clip c = go (or_nothing (closing_by (Some f) clip c)).placement
  where
    go : (p : Option FilterLayerPlacement) → filter_kind (placed_kind p (open_kind (Some f))) ≡ true
    go None = refl
    go (Some p) = refl

module _ {D : Type 0} (box_of : D → Option RectU16) (t : Tile) where
  draw-at : (ds : List D) (n : ℕ) (d : D) → n < length ds → get_or ds n d ≡ d → draw_shows box_of t ds n ≡ box_shows t (box_of d)
  draw-at [] n d h e = absurd (omega arith)
  draw-at (y ∷ ds) zero d h e = ap (λ z. box_shows t (box_of z)) e
  draw-at (y ∷ ds) (suc n) d h e = draw-at ds n d (omega arith) e

  each-parts : (P : Entry D → Type 0) (xs ys : List (Entry D)) → Each P (xs ++ ys) → Each P xs × Each P ys
  each-parts P [] ys a = (tt, a)
  each-parts P (x ∷ xs) ys a = let r = each-parts P xs ys a.1 in ((a.0, r.0), r.1)

  -- the layer table has each record at its number, and every draw stands at its place
  pub agrees : (ds : List D) (table : List RecordedLayer) (depth : ℕ) (x : Sheet D) → RecordsAt box_of table depth x → Each (Stands ds) (entries x) → Agrees box_of t (draw_shows box_of t ds) (layer_shows t table) (filter_at table) x
  agrees ds table depth end r s = tt
  agrees ds table depth (draw n d rest) r s = (draw-at ds n d s.0.0 (s.0.1 d), agrees ds table depth rest r s.1)
  agrees ds table depth (layer n o inside rest) r s =
      let x = layer_record box_of depth o inside in
      let parts = each-parts (Stands ds) (entries inside) (Leave n ∷ entries rest) s.1 in (
        (
          shows-at t table n x r.0 ∙ shows-record t o.filter (clip_box o.props.clip_path) (contents box_of inside),
          filter-at table n x r.0 ∙ filter-record o.filter (clip_box o.props.clip_path) (contents box_of inside),
        ),
        (agrees ds table (depth + 1) inside r.1.0 parts.0, agrees ds table depth rest r.1.1 parts.1.1),
      )
