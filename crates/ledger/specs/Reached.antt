-- Calls made one by one: the ledger that they lead to, and what a walk then has to answer, said of the ledger.
use Rattle.std.specs.Prelude.{◌≡◌, ℕ, Bool, true, if◌then◌else◌, List, [], ◌∷◌, ◌++◌, length, drop, is_none, is_some, IfSome, vec_items, vec_len, Option, Result, nat_le, ⊤}
use Rattle.refusal.specs.Refusals.{Question, first_no, Answers}
use Rattle.refusal.specs.declared.Refusal.{Refusal}
use Rattle.geometry.specs.declared.rect.RectU16.{RectU16}
use Rattle.geometry.specs.declared.tile.Tile.{Tile}
use Rattle.geometry.specs.Size.{size}
use Rattle.draws.specs.declared.blend.BlendMode.{BlendMode}
use Rattle.draws.specs.declared.strip.Strip.{Strip}
use Rattle.record.specs.Recording.{Recording, empty_recording}
use Rattle.walk.specs.declared.listed.Listed.{Listed}
use Rattle.tiles.specs.declared.surface.Surface.{Surface}
use Rattle.tiles.specs.declared.surface.Surface.TheVariants as surfaces
use Rattle.tiles.specs.Tile.{draw_shows, tile_listed, tile_fits, draw_listed, any_draw}
use Rattle.ledger.specs.declared.call.Answer.{Answer}
use Rattle.ledger.specs.declared.call.Call.{Call}
use Rattle.ledger.specs.declared.design.Design.{Design}
use Rattle.ledger.specs.Ledger.{Ledger, empty, noted, after, draws_in, opened, numbers}
use Rattle.ledger.specs.Made.{Made}
use Rattle.ledger.specs.Runs.{questions}
use Rattle.ledger.specs.Recorded.{none}
use Rattle.ledger.specs.Draft.{sheet_of}
use Rattle.ledger.specs.Tiles.{surface_in, tile_list}

module _ {D : Type 0} (box_of : D → Option RectU16) (mode_of : D → Option BlendMode) where
  -- Some list of calls on a new recorder, with this ledger as they were answered, led to the recording and the draw list.
  pub data Reaches : Ledger D → Recording → List D → Type 0 where
    begun : (ds : List D) → Reaches empty (empty_recording (size 0 0)) ds
    called : (c : Call D) (a : Result Answer Refusal) (b : Ledger D) (v v' : Recording) (ds ds' : List D)
        → Made box_of mode_of c a v v' ds ds' → Reaches b v ds → Reaches (after b c a) v' ds'

module _ {D : Type 0} (box_of : D → List Strip → Option RectU16) where
  -- the box of a draw, with the design's strips
  abbrev pub box_in : Design D → D → Option RectU16
  box_in x d = box_of d x.strips.now

  -- whether the tile shows the draw of this number in the design's draw list
  abbrev pub draw_shows_in : Design D → Tile → ℕ → Bool
  draw_shows_in x t = draw_shows (box_in x) t (vec_items x.draws)

  -- the list of a tile on a surface of the design
  abbrev pub tile_listed_in : Design D → Surface → Tile → List Listed
  tile_listed_in x s t = tile_listed s t (draw_shows_in x t) x.recorder

  module _ (mode_of : D → Option BlendMode) where
    -- some list of calls with this ledger led to the design
    abbrev pub Reached : Ledger D → Design D → Type 0
    Reached b x = Reaches (box_in x) mode_of b x.recorder (vec_items x.draws)

    -- P holds of every ledger that led to the design
    abbrev pub OfLedgers : Design D → (Ledger D → Type 0) → Type 0
    OfLedgers x P = (b : Ledger D) → Reached b x → P b

    -- A call led on from the design x to x'. It was accepted exactly where each of its questions is answered with yes; the strips stay;
    -- and every ledger that led to x leads to x', with the call noted where it was accepted.
    pub record LeadsOn (c : Call D) (accepted : Bool) (x x' : Design D) : Type 0 where
      pub asked : accepted ≡ is_none (first_no (questions c (vec_len x.draws) x.recorder))
      pub strips : x'.strips.now ≡ x.strips.now
      pub ledgers : OfLedgers x (λ b. Reached (if accepted then noted b c else b) x')

-- a full walk asks whether no layer is open, and whether the list has a place for every entry; it lists the entries
abbrev pub ListsAll : {D : Type 0} → Ledger D → Result ℕ Refusal → List Listed → List Listed → Type 0
ListsAll b r out out' =
    Answers ((none (opened b.entries), 10) ∷ (nat_le (length b.entries) (length out), 11) ∷ []) r
    (λ n. (n ≡ length b.entries) × (out' ≡ numbers b.entries ++ drop n out))
    (out' ≡ out)

-- no layer is open, the tile is in range, and the draw list has every draw
abbrev pub hit_asks : {D : Type 0} → Tile → Ledger D → ℕ → List Question
hit_asks t b places = (none (opened b.entries), 10) ∷ (tile_fits t, 13) ∷ (nat_le (draws_in b.entries) places, 14) ∷ []

-- in a tile walk also whether the surface is one, and whether the list has a place for every entry, of which there are so many
abbrev pub tile_asks : {D : Type 0} → Surface → Tile → Ledger D → ℕ → ℕ → ℕ → List Question
tile_asks s t b places count room =
    (none (opened b.entries), 10) ∷ (surface_in s b.entries, 12) ∷ (tile_fits t, 13) ∷ (nat_le (draws_in b.entries) places, 14) ∷ (nat_le count room, 11) ∷ []

module _ {D : Type 0} (box_of : D → Option RectU16) where
  -- a tile walk lists what the ledger's sheet gives for the tile
  abbrev pub ListsTile : Surface → Tile → Ledger D → ℕ → Result ℕ Refusal → List Listed → List Listed → Type 0
  ListsTile s t b places r out out' =
      let list = tile_list box_of s t (sheet_of b.entries) in
      Answers (tile_asks s t b places (length list) (length out)) r (λ n. (n ≡ length list) × (out' ≡ list ++ drop n out)) (out' ≡ out)

  -- what a hit answers is a draw of the scene's list for the tile
  abbrev pub HitsListed : Tile → Ledger D → ℕ → Result (Option ℕ) Refusal → Type 0
  HitsListed t b places r =
      Answers (hit_asks t b places) r (λ h. IfSome h (λ n. draw_listed n (tile_list box_of surfaces.Scene t (sheet_of b.entries)) ≡ true)) (⊤)

  -- and it answers none exactly when that list has no draw
  abbrev pub HitsAny : Tile → Ledger D → ℕ → Result (Option ℕ) Refusal → Type 0
  HitsAny t b places r =
      Answers (hit_asks t b places) r (λ h. is_some h ≡ any_draw (tile_list box_of surfaces.Scene t (sheet_of b.entries))) (⊤)
