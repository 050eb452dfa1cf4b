-- What is put into an open layer, and what its closing gives.
use Rattle.std.specs.Prelude.{◌+◌, Bool, true, cond, ◌&&◌, ◌||◌, List, [], ◌∷◌, Some, None, Option, nat_le}
use Rattle.geometry.specs.declared.rect.RectU16.{RectU16}
use Rattle.geometry.specs.Rect.{zero, empty, joined, intersection}
use Rattle.filter.specs.declared.data.FilterData.{FilterData}
use Rattle.filter.specs.declared.placement.FilterLayerPlacement.{FilterLayerPlacement}
use Rattle.filter.specs.Placement.{placed, pixmap_of, dest_of}
use Rattle.layers.specs.declared.layer.OpenLayer.{OpenLayer}
use Rattle.layers.specs.declared.layer.ClosedLayer.{ClosedLayer}
use Rattle.layers.specs.declared.layer.PoppedLayer.{PoppedLayer}
use Rattle.layers.specs.declared.layer.PoppedLayer.TheVariants as popped

-- one more box put into the contents: an absent or an empty one adds nothing
abbrev pub put : Option RectU16 → Option RectU16 → Option RectU16
put None c = c
put (Some b) None = cond (empty b) None (Some b)
put (Some b) (Some c) = cond (empty b) (Some c) (Some (joined c b))

-- the innermost of the open layers takes in a box
abbrev pub take_in : Option RectU16 → List OpenLayer → List OpenLayer
take_in b [] = []
take_in b (o ∷ outer) = record { id = o.id; clip = o.clip; filter = o.filter; contents = put b o.contents } ∷ outer

-- a box cut by a clip, where there is one
abbrev pub clipped : RectU16 → Option RectU16 → RectU16
clipped b None = b
clipped b (Some k) = intersection b k

-- contents that are absent count as zero
abbrev pub or_zero : Option RectU16 → RectU16
or_zero None = zero
or_zero (Some b) = b

-- a regular layer's box is its contents, or zero, cut by its clip, and goes to its parent
abbrev pub closed_regular : RectU16 → ClosedLayer
closed_regular b = record { bbox = b; in_parent = b; placement = None }

-- a filter layer's box is its pixmap's, and its destination goes to its parent; its clip is not applied
abbrev pub closed_filter : FilterLayerPlacement → ClosedLayer
closed_filter p = record { bbox = pixmap_of p; in_parent = dest_of p; placement = Some p }

-- the same by a placement that may be absent
abbrev pub closed_placed : Option FilterLayerPlacement → Option ClosedLayer
closed_placed None = None
closed_placed (Some p) = Some (closed_filter p)

-- what a closing gives, by the filter, the clip and the contents
abbrev pub closing_by : Option FilterData → Option RectU16 → Option RectU16 → Option ClosedLayer
closing_by None clip contents = Some (closed_regular (clipped (or_zero contents) clip))
closing_by (Some f) clip contents = closed_placed (placed (or_zero contents) f)

-- what the closing of a layer gives; absent where its placement is
abbrev pub closing : OpenLayer → Option ClosedLayer
closing o = closing_by o.filter o.clip o.contents

-- the contents, if there are any, end with the filter's padding at 65,532 at the most
abbrev pub pads_within : Option FilterData → Option RectU16 → Bool
pads_within None contents = true
pads_within (Some f) None = true
pads_within (Some f) (Some c) = empty c || (nat_le (c.x1 + f.filter_padding.right) 65532 && nat_le (c.y1 + f.filter_padding.bottom) 65532)

-- a layer with a filter is a filter layer
abbrev pub kind_of : Option FilterData → PoppedLayer
kind_of None = popped.Regular
kind_of (Some f) = popped.Filter

-- by the placement that its closing gave
abbrev pub kind_placed : Option FilterLayerPlacement → PoppedLayer
kind_placed None = popped.Regular
kind_placed (Some p) = popped.Filter

-- a filter layer has a placement, and a regular one has none
abbrev pub kind_closed : ClosedLayer → PoppedLayer
kind_closed k = kind_placed k.placement
