-- What a tile shows of a recording: the entries of the full walk, without what does not reach the tile.
use Rattle.std.specs.Prelude.{◌≡◌, ℕ, zero, suc, Bool, true, false, cond, ◌&&◌, ◌||◌, List, [], ◌∷◌, ◌++◌, length, drop, Some, None, Option, ◌==◌, nat_le}
use Rattle.refusal.specs.Refusals.{Question}
use Rattle.geometry.specs.declared.rect.RectU16.{RectU16}
use Rattle.geometry.specs.declared.tile.Tile.{Tile}
use Rattle.geometry.specs.Cover.{covered}
use Rattle.filter.specs.Placement.{dest_of}
use Rattle.layers.specs.declared.layer.RecordedLayer.{RecordedLayer}
use Rattle.layers.specs.declared.layer.RecordedLayerKind.{RecordedLayerKind}
use Rattle.layers.specs.declared.layer.RecordedLayerKind.TheVariants as kind
use Rattle.record.specs.Account.{at_root}
use Rattle.record.specs.Recording.{Recording}
use Rattle.walk.specs.declared.listed.Listed.{Listed}
use Rattle.walk.specs.declared.listed.Listed.TheVariants.{Draw, Enter, Leave, Filter}
use Rattle.tiles.specs.declared.showing.Showing.{Showing}
use Rattle.tiles.specs.declared.showing.Showing.TheVariants.{Through, Placed, Hidden}
use Rattle.tiles.specs.declared.surface.Surface.{Surface}
use Rattle.tiles.specs.declared.surface.Surface.TheVariants.{Scene, Layer}
use Rattle.walk.specs.FullWalk.{listed}

-- by the layer's kind: a regular layer has a box, and a filter layer a destination
abbrev pub showing_kind : Tile → RectU16 → RecordedLayerKind → Showing
showing_kind t b kind.Regular = cond (covered t b) Through Hidden
showing_kind t b (kind.Filter f p) = cond (covered t (dest_of p)) Placed Hidden

-- what the tile shows of a layer
abbrev pub showing : Tile → RecordedLayer → Showing
showing t x = showing_kind t x.bbox x.kind

-- the same by the layer's number; nothing of a number that is not recorded
abbrev pub layer_shows : Tile → List RecordedLayer → ℕ → Showing
layer_shows t [] l = Hidden
layer_shows t (x ∷ layers) zero = showing t x
layer_shows t (x ∷ layers) (suc l) = layer_shows t layers l

-- whether a box is there and covers the tile
abbrev pub box_shows : Tile → Option RectU16 → Bool
box_shows t None = false
box_shows t (Some b) = covered t b

-- whether draw n is there and its box covers the tile
abbrev pub draw_shows : {D : Type 0} → (D → Option RectU16) → Tile → List D → ℕ → Bool
draw_shows box t [] n = false
draw_shows box t (d ∷ ds) zero = box_shows t (box d)
draw_shows box t (d ∷ ds) (suc n) = draw_shows box t ds n

-- a draw's own entry, where it is seen
abbrev pub drawing : Bool → ℕ → List Listed
drawing b n = cond b (Draw n ∷ []) []

-- the entries with which layer l begins
abbrev pub entering : Showing → ℕ → List Listed
entering Through l = Enter l ∷ []
entering Placed l = Filter l ∷ []
entering Hidden l = []

-- how many layers deeper what is inside is hidden
abbrev pub deeper : Showing → ℕ
deeper Through = 0
deeper Placed = 1
deeper Hidden = 1

-- the entries `out`, then those of the rest that the tile shows, k hidden layers deep
abbrev pub sift : (ℕ → Bool) → (ℕ → Showing) → List Listed → ℕ → List Listed → List Listed
sift seen shows out k [] = out
sift seen shows out zero (Draw n ∷ es) = sift seen shows (out ++ drawing (seen n) n) zero es
sift seen shows out zero (Enter l ∷ es) = sift seen shows (out ++ entering (shows l) l) (deeper (shows l)) es
sift seen shows out zero (Leave l ∷ es) = sift seen shows (out ++ (Leave l ∷ [])) zero es
sift seen shows out zero (Filter l ∷ es) = sift seen shows out zero es
sift seen shows out (suc k) (Draw n ∷ es) = sift seen shows out (suc k) es
sift seen shows out (suc k) (Enter l ∷ es) = sift seen shows out (suc (suc k)) es
sift seen shows out (suc k) (Leave l ∷ es) = sift seen shows out k es
sift seen shows out (suc k) (Filter l ∷ es) = sift seen shows out (suc k) es

-- what follows the first Enter of layer l
abbrev pub after : ℕ → List Listed → List Listed
after l [] = []
after l (Draw n ∷ es) = after l es
after l (Enter m ∷ es) = cond (m == l) es (after l es)
after l (Leave m ∷ es) = after l es
after l (Filter m ∷ es) = after l es

-- what stands before the first Leave of layer l
abbrev pub until : ℕ → List Listed → List Listed
until l [] = []
until l (Draw n ∷ es) = Draw n ∷ until l es
until l (Enter m ∷ es) = Enter m ∷ until l es
until l (Leave m ∷ es) = cond (m == l) [] (Leave m ∷ until l es)
until l (Filter m ∷ es) = Filter m ∷ until l es

-- the entries that lie on a surface or in a layer on it
abbrev pub inside : Surface → List Listed → List Listed
inside Scene es = es
inside (Layer l) es = until l (after l es)

-- what the tile shows of a surface, by the draws that are seen
abbrev pub tile_listed : Surface → Tile → (ℕ → Bool) → Recording → List Listed
tile_listed s t seen r = sift seen (layer_shows t r.tree.layers) [] 0 (inside s (listed r))

-- whether this is the kind of a filter layer
abbrev pub filter_kind : RecordedLayerKind → Bool
filter_kind kind.Regular = false
filter_kind (kind.Filter f p) = true

-- whether this is the number of a recorded filter layer
abbrev pub filter_at : List RecordedLayer → ℕ → Bool
filter_at [] l = false
filter_at (x ∷ layers) zero = filter_kind x.kind
filter_at (x ∷ layers) (suc l) = filter_at layers l

-- a surface is the scene or a recorded filter layer
abbrev pub is_surface : Surface → List RecordedLayer → Bool
is_surface Scene layers = true
is_surface (Layer l) layers = filter_at layers l

-- a tile's column and row are at most 16,382
abbrev pub tile_fits : Tile → Bool
tile_fits t = nat_le t.x 16382 && nat_le t.y 16382

-- no layer is open, the surface is recorded, the tile is in range, and every draw is in the draw list
abbrev pub surface_questions : Surface → Tile → Recording → ℕ → List Question
surface_questions s t r drawn = (at_root r.account.opened, 10) ∷ (is_surface s r.tree.layers, 12) ∷ (tile_fits t, 13) ∷ (nat_le r.account.drawn drawn, 14) ∷ []

-- the five questions in order: the last is whether the output list has a place for every entry
abbrev pub tile_questions : Surface → Tile → (ℕ → Bool) → Recording → ℕ → ℕ → List Question
tile_questions s t seen r drawn places = surface_questions s t r drawn ++ ((nat_le (length (tile_listed s t seen r)) places, 11) ∷ [])

-- the tile's list was written from the first place on, n entries, and later places were left
pub record TileWalk (s : Surface) (t : Tile) (seen : ℕ → Bool) (r : Recording) (n : ℕ) (out out' : List Listed) : Type 0 where
  pub count : n ≡ length (tile_listed s t seen r)
  pub written : out' ≡ tile_listed s t seen r ++ drop n out

-- a hit asks for no surface and no places
abbrev pub hit_questions : Tile → Recording → ℕ → List Question
hit_questions t r drawn = (at_root r.account.opened, 10) ∷ (tile_fits t, 13) ∷ (nat_le r.account.drawn drawn, 14) ∷ []

-- whether draw n is listed
abbrev pub draw_listed : ℕ → List Listed → Bool
draw_listed n [] = false
draw_listed n (Draw m ∷ es) = m == n || draw_listed n es
draw_listed n (Enter l ∷ es) = draw_listed n es
draw_listed n (Leave l ∷ es) = draw_listed n es
draw_listed n (Filter l ∷ es) = draw_listed n es

-- whether any draw is listed
abbrev pub any_draw : List Listed → Bool
any_draw [] = false
any_draw (Draw n ∷ es) = true
any_draw (Enter l ∷ es) = any_draw es
any_draw (Leave l ∷ es) = any_draw es
any_draw (Filter l ∷ es) = any_draw es
