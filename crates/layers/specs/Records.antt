-- A layer's record.
use Rattle.std.specs.Prelude.{ℕ, Some, None, Option}
use Rattle.geometry.specs.Rect.{zero as nowhere}
use Rattle.filter.specs.declared.data.FilterData.{FilterData}
use Rattle.filter.specs.declared.placement.FilterLayerPlacement.{FilterLayerPlacement}
use Rattle.filter.specs.Placement.{unplaced}
use Rattle.layers.specs.declared.layer.ClosedLayer.{ClosedLayer}
use Rattle.layers.specs.declared.layer.RecordedLayer.{RecordedLayer}
use Rattle.layers.specs.declared.layer.RecordedLayerKind.{RecordedLayerKind}
use Rattle.layers.specs.declared.layer.RecordedLayerKind.TheVariants.{Regular, Filter}
use Rattle.layers.specs.declared.props.LayerProps.{LayerProps}

-- a filter layer has its data, and a placement that is zero so far
abbrev pub open_kind : Option FilterData → RecordedLayerKind
open_kind None = Regular
open_kind (Some f) = Filter f unplaced

-- a layer as its opening records it: box and placement are zero until it is closed
abbrev pub recorded_open : LayerProps → Option FilterData → ℕ → RecordedLayer
recorded_open props f depth = record { props = props; kind = open_kind f; depth = depth; bbox = nowhere }

-- a filter layer's kind with the placement of its closing
abbrev pub placed_kind : Option FilterLayerPlacement → RecordedLayerKind → RecordedLayerKind
placed_kind None kind = kind
placed_kind (Some p) Regular = Regular
placed_kind (Some p) (Filter f q) = Filter f p

-- a record with what the closing of its layer gave
abbrev pub recorded_closed : ClosedLayer → RecordedLayer → RecordedLayer
recorded_closed k x = record { props = x.props; kind = placed_kind k.placement x.kind; depth = x.depth; bbox = k.bbox }
