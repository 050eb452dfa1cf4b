-- What words are read as: strips, rectangles, tiles, blend modes and paddings.
use Rattle.std.specs.Prelude.{Some, codes, Option}
use Rattle.geometry.specs.declared.padding.PaddingU16.{PaddingU16}
use Rattle.geometry.specs.declared.rect.RectU16.{RectU16}
use Rattle.geometry.specs.declared.tile.Tile.{Tile}
use Rattle.draws.specs.declared.blend.BlendMode.{BlendMode}
use Rattle.draws.specs.declared.strip.Strip.{Strip}
use Rattle.text.specs.Readers.{Line, Read, and_then, byte_of, edge_of, both, pair_of, edges_of, optional}

abbrev pub strip_of : Line → Read Strip
strip_of words =
    and_then (both pair_of edge_of words) (λ s words. Some (record { x = s.0.0; y = s.0.1; width = s.1 }, words))

abbrev pub rect_of : Line → Read RectU16
rect_of words =
    and_then (edges_of words) (λ e words. Some (record { x0 = e.0.0; y0 = e.0.1; x1 = e.1.0; y1 = e.1.1 }, words))

-- a column and a row
abbrev pub tile_of : Line → Read Tile
tile_of words = and_then (pair_of words) (λ at words. Some (record { x = at.0; y = at.1 }, words))

abbrev pub padding_of : Line → Read PaddingU16
padding_of words =
    and_then (edges_of words) (λ e words. Some (record { left = e.0.0; top = e.0.1; right = e.1.0; bottom = e.1.1 }, words))

abbrev pub mix_and_compose : Line → Read BlendMode
mix_and_compose words =
    and_then (both byte_of byte_of words) (λ m words. Some (record { mix = m.0; compose = m.1 }, words))

abbrev pub mode_of : Line → Read (Option BlendMode)
mode_of words = optional (codes "mode") mix_and_compose words
