-- What a view shows.
use Rattle.std.specs.Prelude.{ℕ, Bool, List, Option}
use Rattle.geometry.specs.declared.rect.RectU16.{RectU16}
use Rattle.draws.specs.declared.strip.Strip.{Strip}
use Rattle.walk.specs.declared.listed.Listed.{Listed}
use Rattle.tiles.specs.declared.showing.Showing.{Showing}
use Rattle.tiles.specs.declared.surface.Surface.{Surface}
use Rattle.tiles.specs.declared.view.View.{View}
use Rattle.tiles.specs.Tile.{draw_shows, layer_shows, tile_listed}

-- what it shows of layer l
abbrev pub shows : {D : Type 0} → View D → ℕ → Showing
shows v l = layer_shows v.tile v.recorder.now.tree.layers l

module _ {D : Type 0} (box : D → List Strip → Option RectU16) (v : View D) where
  -- whether it shows draw n
  abbrev pub seen : ℕ → Bool
  seen n = draw_shows (λ d. box d v.strips.now) v.tile v.draws.now n

  -- what it lists of a surface
  abbrev pub shown : Surface → List Listed
  shown s = tile_listed s v.tile seen v.recorder.now
