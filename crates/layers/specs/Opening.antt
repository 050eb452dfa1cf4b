-- What an opening asks.
use Rattle.std.specs.Prelude.{ℕ, ◌%◌, Bool, true, false, ◌&&◌, List, [], ◌∷◌, pos, Some, None, Option, ◌==◌, Float}
use Rattle.std.specs.Float.{fin}
use Rattle.std.specs.Float.Ieee.{le}
use Rattle.geometry.specs.declared.rect.RectU16.{RectU16}
use Rattle.filter.specs.declared.data.FilterData.{FilterData}
use Rattle.filter.specs.Placement.{shift_x, shift_y}
use Rattle.layers.specs.declared.props.LayerClip.{LayerClip}
use Rattle.layers.specs.declared.props.LayerProps.{LayerProps}
use Rattle.refusal.specs.Refusals.{Question}

-- at least 0 and at most 1, as floats compare: what is not a number is neither
abbrev pub opacity_fits : Float → Bool
opacity_fits x = le (fin false 0 (pos 0)) x && le x (fin false 1 (pos 0))

-- a multiple of 4
abbrev pub on_tile : ℕ → Bool
on_tile n = n % 4 == 0

-- all four edges of a given clip box are multiples of 4
abbrev pub clip_on_tiles : Option LayerClip → Bool
clip_on_tiles None = true
clip_on_tiles (Some c) = on_tile c.bbox.x0 && on_tile c.bbox.y0 && on_tile c.bbox.x1 && on_tile c.bbox.y1

-- left and top of a given filter's source padding are multiples of 4
abbrev pub shift_on_tiles : Option FilterData → Bool
shift_on_tiles None = true
shift_on_tiles (Some f) = on_tile (shift_x f) && on_tile (shift_y f)

-- a clip's box
abbrev pub clip_box : Option LayerClip → Option RectU16
clip_box None = None
clip_box (Some c) = Some c.bbox

-- what an opening asks of its arguments
abbrev pub argument_questions : LayerProps → Option FilterData → List Question
argument_questions props f = (opacity_fits props.opacity, 5) ∷ (clip_on_tiles props.clip_path, 6) ∷ (shift_on_tiles f, 7) ∷ []
