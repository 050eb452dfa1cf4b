-- What the words of an opening are read as.
use Rattle.std.specs.Prelude.{ℕ, false, [], ◌∷◌, pos, Some, None, codes, Option}
use Rattle.std.specs.Float.{Float, binary32, fin}
use Rattle.std.specs.Float.Parse.{parse_float}
use Rattle.std.specs.Option.{option_map, unwrap_or}
use Rattle.filter.specs.declared.data.FilterData.{FilterData}
use Rattle.layers.specs.declared.props.LayerClip.{LayerClip}
use Rattle.layers.specs.declared.props.LayerProps.{LayerProps}
use Rattle.layers.specs.declared.props.StripRange.{StripRange}
use Rattle.text.specs.Readers.{Line, Read, and_then, byte_of, count_of, both, range_of, following, optional, behind}
use Rattle.parts.specs.Shapes.{rect_of, mode_of, padding_of}

abbrev pub float_of : Line → Read Float
float_of [] = None
float_of (word ∷ words) = option_map (λ float. (float, words)) (parse_float binary32 word)

-- full opacity where none is written
abbrev pub opacity_of : Line → Read Float
opacity_of words =
    and_then (optional (codes "opacity") float_of words) (λ opacity words. Some (unwrap_or opacity (fin false 1 (pos 0)), words))

abbrev pub mask_of : Line → Read (Option ℕ)
mask_of words = optional (codes "mask") count_of words

abbrev pub range_and_thread : Line → Read (StripRange × ℕ)
range_and_thread words =
    and_then (both range_of byte_of words) (λ p words. Some ((record { start = p.0.0; end = p.0.1 }, p.1), words))

abbrev pub path_of : Line → Read (StripRange × ℕ)
path_of words =
    and_then (optional (codes "path") range_and_thread words) (λ path words. Some (unwrap_or path (record { start = 0; end = 0 }, 0), words))

abbrev pub box_and_path : Line → Read LayerClip
box_and_path words =
    and_then (both rect_of path_of words) (λ c words. Some (record { strip_range = c.1.0; thread_idx = c.1.1; bbox = c.0 }, words))

abbrev pub clip_of : Line → Read (Option LayerClip)
clip_of words = optional (codes "clip") box_and_path words

abbrev pub props_of : Line → Read LayerProps
props_of words =
    and_then (mode_of words) (λ mode words. and_then (opacity_of words) (λ opacity words. and_then (mask_of words) (λ mask words. and_then (clip_of words) (λ clip words. Some (record { blend_mode = unwrap_or mode (record { mix = 0; compose = 3 }); opacity = opacity; mask = mask; clip_path = clip }, words)))))

abbrev pub filter_and_paddings : Line → Read FilterData
filter_and_paddings words =
    and_then (count_of words) (λ filter words. and_then (behind (following (codes "pad") words) padding_of) (λ pad words. and_then (behind (following (codes "source") words) padding_of) (λ source words. Some (record { filter = filter; filter_padding = pad; source_padding = source }, words))))

abbrev pub filter_of : Line → Read (Option FilterData)
filter_of words = optional (codes "filter") filter_and_paddings words

abbrev pub Opening : Type 0
Opening = LayerProps × Option FilterData

abbrev pub open_of : Line → Read Opening
open_of words = both props_of filter_of words
