-- The known recordings in one table, and what it means that the rules give each.
use Rattle.std.specs.Prelude.{◌≡◌, ℕ, false, List, [], ◌∷◌, map, pos, Some, None, Option}
use Rattle.std.specs.Float.{fin}
use Rattle.geometry.specs.declared.padding.PaddingU16.{PaddingU16}
use Rattle.geometry.specs.declared.rect.RectU16.{RectU16}
use Rattle.geometry.specs.declared.tile.Tile.{Tile}
use Rattle.geometry.specs.Rect.{rect, zero}
use Rattle.geometry.specs.Size.{size}
use Rattle.filter.specs.declared.data.FilterData.{FilterData}
use Rattle.filter.specs.declared.placement.FilterLayerPlacement.{FilterLayerPlacement}
use Rattle.filter.specs.Placement.{unplaced}
use Rattle.layers.specs.declared.props.LayerProps.{LayerProps}
use Rattle.layers.specs.declared.props.LayerClip.{LayerClip}
use Rattle.walk.specs.declared.listed.Listed.{Listed}
use Rattle.walk.specs.declared.listed.Listed.TheVariants.{Draw, Enter, Leave}
use Rattle.recordings.specs.Steps.{Step, Reset, Fill, Open, Close, Seen, seen, new, run_from, answers_from, tile_seen}

pub record Known : Type 0 where
  pub steps : List Step
  -- the refusals' numbers
  pub answers : List (Option ℕ)
  -- tiles of the scene, each with its list
  pub tiles : List (Tile × List Listed)
  pub end : Seen

abbrev pub Reproduced : Known → Type 0
Reproduced k =
    (answers_from new k.steps ≡ k.answers)
    × (map (λ c. (c.0, tile_seen k.steps c.0)) k.tiles ≡ k.tiles)
    × (seen (run_from new k.steps) ≡ k.end)

abbrev pub tile : ℕ → ℕ → Tile
tile c r = record { x = c; y = r }

-- default blend mode, opacity 1, no mask
abbrev pub plain : Option LayerClip → LayerProps
plain clip = record { blend_mode = record { mix = 0; compose = 3 }; opacity = fin false 1 (pos 0); mask = None; clip_path = clip }

abbrev pub clip_to : RectU16 → Option LayerClip
clip_to b = Some (record { strip_range = record { start = 0; end = 0 }; thread_idx = 0; bbox = b })

abbrev pub padding : ℕ → ℕ → ℕ → ℕ → PaddingU16
padding l t r b = record { left = l; top = t; right = r; bottom = b }

-- filter 7 with padding p, its source moved by (20, 4)
abbrev pub shadow : PaddingU16 → Option FilterData
shadow p = Some (record { filter = 7; filter_padding = p; source_padding = padding 20 4 0 0 })

abbrev pub placement : RectU16 → RectU16 → ℕ → ℕ → Option FilterLayerPlacement
placement p d x y = Some (record { pixmap_bbox = p; dest_bbox = d; src_x = x; src_y = y })

abbrev pub known : List Known
known =
    -- a scene is raised to whole tiles
    record {
      steps = Reset 1001 6 ∷ [];
      answers = None ∷ [];
      tiles = [];
      end = record { scene = size 1004 8; entries = []; nodes = 0; boxes = []; placements = []; contents = [] };
    } ∷
    -- 65,533 is no scene's width
    record {
      steps = Reset 65533 1 ∷ [];
      answers = Some 2 ∷ [];
      tiles = [];
      end = record { scene = size 0 0; entries = []; nodes = 0; boxes = []; placements = []; contents = [] };
    } ∷
    -- draw, open, draw, close, draw: three nodes
    record {
      steps = Fill (rect 0 0 4 4) ∷ Open (plain None) None ∷ Fill (rect 8 8 12 12) ∷ Close ∷ Fill (rect 4 4 8 8) ∷ [];
      answers = None ∷ None ∷ None ∷ None ∷ None ∷ [];
      tiles = [];
      end = record {
        scene = size 0 0;
        entries = Draw 0 ∷ Enter 0 ∷ Draw 1 ∷ Leave 0 ∷ Draw 2 ∷ [];
        nodes = 3;
        boxes = rect 8 8 12 12 ∷ [];
        placements = None ∷ [];
        contents = [];
      };
    } ∷
    -- nothing in a clipped layer: its box is the clip's low corner
    record {
      steps = Open (plain (clip_to (rect 4 4 12 12))) None ∷ Close ∷ [];
      answers = None ∷ None ∷ [];
      tiles = [];
      end = record { scene = size 0 0; entries = Enter 0 ∷ Leave 0 ∷ []; nodes = 1; boxes = rect 4 4 4 4 ∷ []; placements = None ∷ []; contents = [] };
    } ∷
    -- a filter layer whose pixmap begins before the shift: 16 columns are cut off
    record {
      steps = Open (plain None) None ∷ Open (plain None) (shadow (padding 4 4 4 4)) ∷ Fill (rect 8 8 40 16) ∷ Close ∷ [];
      answers = None ∷ None ∷ None ∷ None ∷ [];
      tiles = [];
      end = record {
        scene = size 0 0;
        entries = Enter 0 ∷ Enter 1 ∷ Draw 0 ∷ Leave 1 ∷ Leave 0 ∷ [];
        nodes = 3;
        boxes = zero ∷ rect 4 4 44 20 ∷ [];
        placements = None ∷ placement (rect 4 4 44 20) (rect 0 0 24 16) 16 0 ∷ [];
        contents = Some (rect 0 0 24 16) ∷ [];
      };
    } ∷
    -- a filter layer that lies wholly before the shift hands nothing to its parent
    record {
      steps = Open (plain None) None ∷ Open (plain None) (shadow (padding 4 4 4 4)) ∷ Fill (rect 8 8 16 16) ∷ Close ∷ [];
      answers = None ∷ None ∷ None ∷ None ∷ [];
      tiles = [];
      end = record {
        scene = size 0 0;
        entries = Enter 0 ∷ Enter 1 ∷ Draw 0 ∷ Leave 1 ∷ Leave 0 ∷ [];
        nodes = 3;
        boxes = zero ∷ rect 4 4 20 20 ∷ [];
        placements = None ∷ placement (rect 4 4 20 20) (rect 0 0 0 16) 16 0 ∷ [];
        contents = None ∷ [];
      };
    } ∷
    -- with 4 more columns the contents end at 65,532
    record {
      steps = Open (plain None) (shadow (padding 0 0 4 0)) ∷ Fill (rect 65520 0 65528 4) ∷ Close ∷ [];
      answers = None ∷ None ∷ None ∷ [];
      tiles = [];
      end = record {
        scene = size 0 0;
        entries = Enter 0 ∷ Draw 0 ∷ Leave 0 ∷ [];
        nodes = 2;
        boxes = rect 65520 0 65532 4 ∷ [];
        placements = placement (rect 65520 0 65532 4) (rect 65500 0 65512 0) 0 4 ∷ [];
        contents = [];
      };
    } ∷
    -- with 5 they do not, and the layer stays open
    record {
      steps = Open (plain None) (shadow (padding 0 0 5 0)) ∷ Fill (rect 65520 0 65528 4) ∷ Close ∷ [];
      answers = None ∷ None ∷ Some 9 ∷ [];
      tiles = [];
      end = record {
        scene = size 0 0;
        entries = Enter 0 ∷ Draw 0 ∷ Leave 0 ∷ [];
        nodes = 2;
        boxes = zero ∷ [];
        placements = Some unplaced ∷ [];
        contents = Some (rect 65520 0 65528 4) ∷ [];
      };
    } ∷
    -- a clip round a draw hides the tiles that it does not cover
    record {
      steps = Open (plain (clip_to (rect 0 0 8 8))) None ∷ Fill (rect 0 0 16 16) ∷ Close ∷ [];
      answers = None ∷ None ∷ None ∷ [];
      tiles = (tile 1 1, Enter 0 ∷ Draw 0 ∷ Leave 0 ∷ []) ∷ (tile 2 1, []) ∷ [];
      end = record {
        scene = size 0 0;
        entries = Enter 0 ∷ Draw 0 ∷ Leave 0 ∷ [];
        nodes = 2;
        boxes = rect 0 0 8 8 ∷ [];
        placements = None ∷ [];
        contents = [];
      };
    } ∷
    []
