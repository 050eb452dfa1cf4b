-- Where a filter layer lies, by its contents box and its paddings.
use Rattle.std.specs.Prelude.{◌≡◌, ℕ, ◌+◌, ◌-◌, ◌%◌, cond, Some, None, Option}
use Rattle.geometry.specs.declared.rect.RectU16.{RectU16}
use Rattle.geometry.specs.Rect.{Holds, Iff, Least, zero, empty, expanded, relative}
use Rattle.geometry.specs.Snap.{Around, Fits16, WholeTile, snapped}
use Rattle.filter.specs.declared.data.FilterData.{FilterData}
use Rattle.filter.specs.declared.placement.FilterLayerPlacement.{FilterLayerPlacement}

-- how far the contents are moved while they are drawn
abbrev pub shift_x : FilterData → ℕ
shift_x f = f.source_padding.left

abbrev pub shift_y : FilterData → ℕ
shift_y f = f.source_padding.top

-- the contents with what the filter adds around them
abbrev pub padded : RectU16 → FilterData → RectU16
padded contents f = expanded contents f.filter_padding

-- the pixels that are drawn for the layer, and where they go in the layer around it
abbrev pub pixmap_of : FilterLayerPlacement → RectU16
pixmap_of p = p.pixmap_bbox

abbrev pub dest_of : FilterLayerPlacement → RectU16
dest_of p = p.dest_bbox

-- the placement without contents
abbrev pub unplaced : FilterLayerPlacement
unplaced = record { pixmap_bbox = zero; dest_bbox = zero; src_x = 0; src_y = 0 }

-- the placement with the pixmap box r: the destination is r seen from the shift
abbrev pub placed_at : FilterData → RectU16 → FilterLayerPlacement
placed_at f r = record {
  pixmap_bbox = r;
  dest_bbox = relative r (shift_x f) (shift_y f);
  src_x = shift_x f - r.x0;
  src_y = shift_y f - r.y0;
}

-- the placement with this pixmap box, where there is one
abbrev pub placed_in : FilterData → Option RectU16 → Option FilterLayerPlacement
placed_in f None = None
placed_in f (Some r) = Some (placed_at f r)

-- the placement by contents and filter
abbrev pub placed : RectU16 → FilterData → Option FilterLayerPlacement
placed contents f = cond (empty contents) (Some unplaced) (placed_in f (snapped (padded contents f)))

-- The pixmap box is the smallest rectangle of whole tiles around the padded contents,
-- and a point lies in the destination exactly when, moved by the shift, it lies in the pixmap box.
pub record Lies (contents : RectU16) (f : FilterData) (p : FilterLayerPlacement) : Type 0 where
  pub pixmap : Least (Around (padded contents f)) (pixmap_of p)
  pub points : (x y : ℕ) → Iff (Holds (dest_of p) x y) (Holds (pixmap_of p) (x + shift_x f) (y + shift_y f))

-- no rectangle of whole tiles with 16-bit edges holds the padded contents
abbrev pub Nowhere : RectU16 → FilterData → Type 0
Nowhere contents f = (r : RectU16) → Fits16 r → Around (padded contents f) r → ⊥

-- the contents are moved by whole tiles
abbrev pub ShiftOnTiles : FilterData → Type 0
ShiftOnTiles f = (shift_x f % 4 ≡ 0) × (shift_y f % 4 ≡ 0)

-- the boxes are of whole tiles, and the origin is a tile's first pixel
abbrev pub OnTiles : FilterLayerPlacement → Type 0
OnTiles p = WholeTile (pixmap_of p) × WholeTile (dest_of p) × (p.src_x % 4 ≡ 0) × (p.src_y % 4 ≡ 0)
