-- The laws over whole runs.
use Rattle.std.specs.Prelude.{◌≡◌, ◌<◌, true, List, [], ◌∷◌, length, Option, slice_index_or}
use Rattle.geometry.specs.declared.rect.RectU16.{RectU16}
use Rattle.draws.specs.declared.blend.BlendMode.{BlendMode}
use Rattle.record.specs.Recording.{Recording}
use Rattle.walk.specs.FullWalk.{listed}
use Rattle.ledger.specs.Ledger.{Entry, Draw, Enter, Leave, Ledger, opened, numbers}
use Rattle.geometry.specs.declared.tile.Tile.{Tile}
use Rattle.tiles.specs.declared.surface.Surface.{Surface}
use Rattle.tiles.specs.Tile.{draw_shows, is_surface, tile_listed}
use Rattle.ledger.specs.Sheet.{Sheet, entries, records, Placed}
use Rattle.ledger.specs.Draft.{draft_of, sheet_of, entries_of, AllPlaced}
use Rattle.ledger.specs.Recorded.{recording_for}
use Rattle.ledger.specs.Runs.{recorded}
use Rattle.ledger.specs.Tiles.{surface_in, tile_list}

-- a draw stands at its place in the draw list
abbrev pub Stands : {D : Type 0} → List D → Entry D → Type 0
Stands ds (Draw n d) = (n < length ds) × ((x : _) → slice_index_or ds n x ≡ d)
Stands ds (Enter n o) = Unit {0}
Stands ds (Leave n) = Unit {0}

-- P holds of each entry
abbrev pub Each : {D : Type 0} → (Entry D → Type 0) → List (Entry D) → Type 0
Each P [] = Unit {0}
Each P (e ∷ es) = P e × Each P es

-- The entries es, with no layer open, by their nesting.
pub record Nesting {D : Type 0} (box_of : D → Option RectU16) (es : List (Entry D)) (r : Recording) (ds : List D) : Type 0 where
  -- they are those of a sheet
  pub sheet : Sheet D
  pub whole : entries sheet ≡ es
  -- every layer's box and placement are those that the closing rules give by that nesting
  pub layers : r.tree.layers ≡ records box_of 1 sheet
  -- every filter layer with contents lies where it should
  pub placed : Placed box_of sheet
  -- the list of each tile on the scene, and on every filter layer's surface, is the one that the nesting gives, by clips
  pub tiles : (s : Surface) (t : Tile) → is_surface s r.tree.layers ≡ true → tile_listed s t (draw_shows box_of t ds) r ≡ tile_list box_of s t sheet

-- The ledger b led to the recording r and the draw list ds.
pub record Led {D : Type 0} (box_of : D → Option RectU16) (mode_of : D → Option BlendMode) (b : Ledger D) (r : Recording) (ds : List D) : Type 0 where
  -- at any time the recording is the one that the rules give for the ledger
  pub recording : r ≡ recorded box_of mode_of b
  -- each draw of the ledger stands at its place in the draw list
  pub stands : Each (Stands ds) b.entries
  -- with no layer open, a full walk lists exactly the ledger's entries, in order
  pub walk : opened b.entries ≡ [] → listed r ≡ numbers b.entries
  -- and layers, destinations and tile lists are those that the ledger's nesting gives
  pub nests : opened b.entries ≡ [] → Nesting box_of b.entries r ds

-- The same by the ledger's own nesting and without the rules of the calls, with more that holds while layers are open.
pub record LedAlways {D : Type 0} (box_of : D → Option RectU16) (mode_of : D → Option BlendMode) (b : Ledger D) (r : Recording) (ds : List D) : Type 0 where
  -- at any time the nesting has the ledger's entries, in order,
  pub nests : entries_of (draft_of b.entries) ≡ b.entries
  -- the recording is the ledger's,
  pub recording : r ≡ recording_for box_of mode_of b
  -- each draw stands at its place in the draw list,
  pub stands : Each (Stands ds) b.entries
  -- and every filter layer that is closed, with contents, lies where it should
  pub placed : AllPlaced box_of r.tree.layers (draft_of b.entries).frames (sheet_of b.entries)
  -- with no layer open, a full walk lists exactly the ledger's entries, in order,
  pub walk : opened b.entries ≡ [] → listed r ≡ numbers b.entries
  -- the nesting is that of a sheet, and of no other,
  pub whole : opened b.entries ≡ [] → entries (sheet_of b.entries) ≡ b.entries
  pub only : (x : Sheet D) → entries x ≡ b.entries → x ≡ sheet_of b.entries
  -- and the list of each tile, on the scene and on every filter layer's surface, is the one that the sheet gives, by clips
  pub tiles : opened b.entries ≡ [] → (s : Surface) (t : Tile) → surface_in s b.entries ≡ true
      → tile_listed s t (draw_shows box_of t ds) r ≡ tile_list box_of s t (sheet_of b.entries)
