-- Calls by their arguments, and what the rules make of a list of them.
use Rattle.std.specs.Prelude.{ℕ, List, [], ◌∷◌, map, length, Some, None, Option}
use Rattle.refusal.specs.Refusals.{first_no}
use Rattle.geometry.specs.declared.rect.RectU16.{RectU16}
use Rattle.geometry.specs.declared.size.SizeU16.{SizeU16}
use Rattle.geometry.specs.Size.{size}
use Rattle.geometry.specs.Snap.{snapped}
use Rattle.filter.specs.declared.data.FilterData.{FilterData}
use Rattle.filter.specs.declared.placement.FilterLayerPlacement.{FilterLayerPlacement}
use Rattle.layers.specs.declared.layer.RecordedLayerKind.{RecordedLayerKind}
use Rattle.layers.specs.declared.layer.RecordedLayerKind.TheVariants.{Regular, Filter}
use Rattle.layers.specs.declared.props.LayerProps.{LayerProps}
use Rattle.record.specs.Account.{close_questions}
use Rattle.record.specs.Recording.{Recording, empty_recording, reset_questions, after_reset, draw_questions, after_draw, open_questions, after_opening, after_closing}
use Rattle.walk.specs.declared.listed.Listed.{Listed}
use Rattle.geometry.specs.declared.tile.Tile.{Tile}
use Rattle.tiles.specs.declared.surface.Surface.TheVariants.{Scene}
use Rattle.walk.specs.FullWalk.{listed}
use Rattle.tiles.specs.Tile.{draw_shows, tile_listed}

-- a fill is a draw of a rectangle without a blend mode
pub data Step : Type 0 where
  Reset : ℕ → ℕ → Step
  Fill : RectU16 → Step
  Open : LayerProps → Option FilterData → Step
  Close : Step

-- the number of the refusal, if any; the draw list has a hundred places
abbrev pub refused_with : Step → Recording → Option ℕ
refused_with (Reset w h) r = first_no (reset_questions w h)
refused_with (Fill b) r = first_no (draw_questions 100 r)
refused_with (Open props f) r = first_no (open_questions props f r)
refused_with Close r = first_no (close_questions r.account)

abbrev pub accepted : Step → Recording → Recording
accepted (Reset w h) r = after_reset w h
accepted (Fill b) r = after_draw (snapped b) None r
accepted (Open props f) r = after_opening props f r
accepted Close r = after_closing r

abbrev pub unless_refused : Option ℕ → Recording → Recording → Recording
unless_refused None before after = after
unless_refused (Some n) before after = before

abbrev pub step : Step → Recording → Recording
step s r = unless_refused (refused_with s r) r (accepted s r)

abbrev pub run_from : Recording → List Step → Recording
run_from r [] = r
run_from r (s ∷ steps) = run_from (step s r) steps

-- each step's refusal, if any
abbrev pub answers_from : Recording → List Step → List (Option ℕ)
answers_from r [] = []
answers_from r (s ∷ steps) = refused_with s r ∷ answers_from (step s r) steps

-- a new recorder
abbrev pub new : Recording
new = empty_recording (size 0 0)

abbrev pub placement_of : RecordedLayerKind → Option FilterLayerPlacement
placement_of Regular = None
placement_of (Filter f p) = Some p

-- what is looked at in the end
pub record Seen : Type 0 where
  pub scene : SizeU16
  -- the full walk
  pub entries : List Listed
  pub nodes : ℕ
  -- the layers' boxes and placements, by their numbers
  pub boxes : List RectU16
  pub placements : List (Option FilterLayerPlacement)
  -- the contents boxes of the layers still open, innermost first
  pub contents : List (Option RectU16)

abbrev pub seen : Recording → Seen
seen r = record {
  scene = r.account.scene;
  entries = listed r;
  nodes = length r.tree.nodes;
  boxes = map (λ x. x.bbox) r.tree.layers;
  placements = map (λ x. placement_of x.kind) r.tree.layers;
  contents = map (λ o. o.contents) r.account.opened;
}

-- the fills among the steps, all of them accepted and none before a reset, as the draw list
abbrev pub fills : List Step → List RectU16
fills [] = []
fills (Reset w h ∷ steps) = fills steps
fills (Fill b ∷ steps) = b ∷ fills steps
fills (Open props f ∷ steps) = fills steps
fills (Close ∷ steps) = fills steps

-- the list of a tile on the scene
abbrev pub tile_seen : List Step → Tile → List Listed
tile_seen steps t = tile_listed Scene t (draw_shows snapped t (fills steps)) (run_from new steps)
