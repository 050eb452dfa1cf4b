-- What the list of a tile must have, said of the ledger's nesting: by clips for draws and filter layers, by boxes for Enter and Leave.
use Rattle.std.specs.Prelude.{ℕ, Bool, true, false, cond, not, ◌&&◌, ◌||◌, List, [], ◌∷◌, ◌++◌, Some, None, Option, ◌==◌}
use Rattle.geometry.specs.declared.rect.RectU16.{RectU16}
use Rattle.geometry.specs.declared.tile.Tile.{Tile}
use Rattle.geometry.specs.Cover.{covered}
use Rattle.filter.specs.declared.data.FilterData.{FilterData}
use Rattle.layers.specs.Opening.{clip_box}
use Rattle.walk.specs.declared.listed.Listed.{Listed}
use Rattle.walk.specs.declared.listed.Listed.TheVariants as listed
use Rattle.tiles.specs.declared.surface.Surface.{Surface}
use Rattle.tiles.specs.declared.surface.Surface.TheVariants as surfaces
use Rattle.tiles.specs.Tile.{box_shows}
use Rattle.ledger.specs.Ledger.{Opening, Entry, Draw, Enter, Leave}
use Rattle.ledger.specs.Sheet.{Sheet, end, draw, layer, closed_as, contents}

-- a layer without a filter
abbrev pub regular : Option FilterData → Bool
regular None = true
regular (Some f) = false

-- whether the entry opens layer l, with a filter
abbrev pub opens_filter : {D : Type 0} → ℕ → Entry D → Bool
opens_filter l (Draw n d) = false
opens_filter l (Enter n o) = l == n && not (regular o.filter)
opens_filter l (Leave n) = false

-- whether layer l is a filter layer
abbrev pub filter_in : {D : Type 0} → ℕ → List (Entry D) → Bool
filter_in l [] = false
filter_in l (e ∷ es) = opens_filter l e || filter_in l es

-- surfaces are the scene and the filter layers
abbrev pub surface_in : {D : Type 0} → Surface → List (Entry D) → Bool
surface_in surfaces.Scene es = true
surface_in (surfaces.Layer l) es = filter_in l es

-- a layer that stands around an entry, with the contents box that it has once it is closed
pub record Around : Type 0 where
  pub number : ℕ
  pub opening : Opening
  pub inner : Option RectU16

-- p holds of every element
abbrev pub all : {A : Type 0} → (A → Bool) → List A → Bool
all p [] = true
all p (x ∷ xs) = p x && all p xs

-- one more layer between
abbrev pub further : Around → Option (List Around) → Option (List Around)
further l None = None
further l (Some ls) = Some (l ∷ ls)

-- the regular layers between a surface and what stands inside `around`; None where it is not the surface's own
abbrev pub between : Surface → List Around → Option (List Around)
between surfaces.Scene [] = Some []
between (surfaces.Layer s) [] = None
between surfaces.Scene (l ∷ around) = cond (regular l.opening.filter) (further l (between surfaces.Scene around)) None
between (surfaces.Layer s) (l ∷ around) =
    cond (regular l.opening.filter) (further l (between (surfaces.Layer s) around)) (cond (s == l.number) (Some []) None)

-- an absent clip hides nothing
abbrev pub unhidden : Tile → Option RectU16 → Bool
unhidden t None = true
unhidden t (Some k) = covered t k

-- the layer's clip does not hide the tile
abbrev pub unclipped : Tile → Around → Bool
unclipped t l = unhidden t (clip_box l.opening.props.clip_path)

-- what the layer hands on covers the tile: a regular layer's box, a filter layer's destination
abbrev pub boxed : Tile → Around → Bool
boxed t l = covered t (closed_as l.opening l.inner).in_parent

-- the entry, where it is shown
abbrev pub shown : Bool → Listed → List Listed
shown b e = cond b (e ∷ []) []

-- p of the layers between; false where it is not the surface's own
abbrev pub if_own : Option (List Around) → (List Around → Bool) → Bool
if_own None p = false
if_own (Some ls) p = p ls

-- an opening or a closing: a filter layer stands as one entry in its Enter's place
abbrev pub bracket : Surface → Tile → List Around → Listed → List Listed → List Listed
bracket s t [] e f = []
bracket s t (l ∷ around) e f =
    cond (regular l.opening.filter) (shown (if_own (between s (l ∷ around)) (all (boxed t))) e) (cond (if_own (between s around) (all (unclipped t)) && boxed t l) f [])

module _ {D : Type 0} (box_of : D → Option RectU16) where
  -- what a tile's list has of an entry, by the layers around it
  abbrev pub listing : Surface → Tile → Entry D → List Around → List Listed
  listing s t (Draw n d) around = shown (if_own (between s around) (all (unclipped t)) && box_shows t (box_of d)) (listed.Draw n)
  listing s t (Enter n o) around = bracket s t around (listed.Enter n) (listed.Filter n ∷ [])
  listing s t (Leave n) around = bracket s t around (listed.Leave n) []

  -- the listings of a sheet's entries in order, each with the layers around it, innermost first; a layer's own Enter and Leave have it first
  abbrev pub listings : Surface → Tile → Sheet D → List Around → List Listed
  listings s t end around = []
  listings s t (draw n d rest) around = listing s t (Draw n d) around ++ listings s t rest around
  listings s t (layer n o inside rest) around =
      let here : List Around = record { number = n; opening = o; inner = contents box_of inside } ∷ around in
      listing s t (Enter n o) here ++ (listings s t inside here ++ (listing s t (Leave n) here ++ listings s t rest around))

  -- the list of a tile on a surface
  abbrev pub tile_list : Surface → Tile → Sheet D → List Listed
  tile_list s t x = listings s t x []
