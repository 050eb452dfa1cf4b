-- The entries of a ledger with their nesting, and the closing rules on it.
use Rattle.std.specs.Prelude.{◌≡◌, ℕ, ◌+◌, false, List, [], ◌∷◌, ◌++◌, Some, None, Option}
use Rattle.std.specs.List.{slice_get}
use Rattle.geometry.specs.declared.rect.RectU16.{RectU16}
use Rattle.geometry.specs.Rect.{zero, empty}
use Rattle.filter.specs.declared.data.FilterData.{FilterData}
use Rattle.filter.specs.declared.placement.FilterLayerPlacement.{FilterLayerPlacement}
use Rattle.filter.specs.Placement.{Lies, unplaced}
use Rattle.layers.specs.declared.layer.ClosedLayer.{ClosedLayer}
use Rattle.layers.specs.declared.layer.RecordedLayer.{RecordedLayer}
use Rattle.layers.specs.declared.layer.RecordedLayerKind.{RecordedLayerKind}
use Rattle.layers.specs.declared.layer.RecordedLayerKind.TheVariants.{Regular, Filter}
use Rattle.layers.specs.Closing.{put, closing_by, closed_regular}
use Rattle.layers.specs.Opening.{clip_box}
use Rattle.layers.specs.Records.{recorded_open, recorded_closed}
use Rattle.ledger.specs.Ledger.{Opening, Entry, Draw, Enter, Leave}

-- what stands inside a layer is a sheet of its own
pub data Sheet (D : Type 0) : Type 0 where
  end : Sheet D
  draw : ℕ → D → Sheet D → Sheet D
  layer : ℕ → Opening → Sheet D → Sheet D → Sheet D

-- the entries in order
abbrev pub entries : {D : Type 0} → Sheet D → List (Entry D)
entries end = []
entries (draw n d rest) = Draw n d ∷ entries rest
entries (layer n o inside rest) = Enter n o ∷ (entries inside ++ (Leave n ∷ entries rest))

-- one sheet after another
unfoldable pub joined : {D : Type 0} → Sheet D → Sheet D → Sheet D
joined end x = x
joined (draw n d rest) x = draw n d (joined rest x)
joined (layer n o inside rest) x = layer n o inside (joined rest x)

-- a closing that is absent, as no accepted one is, counts as that of an empty regular layer
abbrev pub or_nothing : Option ClosedLayer → ClosedLayer
or_nothing None = closed_regular zero
or_nothing (Some k) = k

-- what the closing of a layer with these contents gives
abbrev pub closed_as : Opening → Option RectU16 → ClosedLayer
closed_as o c = or_nothing (closing_by o.filter (clip_box o.props.clip_path) c)

-- an absent placement counts as the one without contents
abbrev pub placement_or : Option FilterLayerPlacement → FilterLayerPlacement
placement_or None = unplaced
placement_or (Some p) = p

-- what a closing gives lies as it should, where there is a filter, and contents that are not empty
abbrev pub LiesBy : Option FilterData → Option RectU16 → ClosedLayer → Type 0
LiesBy None c k = Unit {0}
LiesBy (Some f) None k = Unit {0}
LiesBy (Some f) (Some c) k = empty c ≡ false → Lies c f (placement_or k.placement)

-- a filter layer with these data, whose placement lies as it should around the contents c
abbrev pub LiesKind : RectU16 → FilterData → RecordedLayerKind → Type 0
LiesKind c f Regular = ⊥
LiesKind c f (Filter g p) = (g ≡ f) × Lies c f p

-- the same of a record that may be absent
abbrev pub LiesRecord : RectU16 → FilterData → Option RecordedLayer → Type 0
LiesRecord c f None = ⊥
LiesRecord c f (Some x) = LiesKind c f x.kind

-- the same where there is a filter, and contents that are not empty
abbrev pub LiesByRecord : Option FilterData → Option RectU16 → Option RecordedLayer → Type 0
LiesByRecord None c x = Unit {0}
LiesByRecord (Some f) None x = Unit {0}
LiesByRecord (Some f) (Some c) x = empty c ≡ false → LiesRecord c f x

module _ {D : Type 0} (box_of : D → Option RectU16) where
  -- the boxes put into contents c, one after another: a draw's own, and what a layer hands on once it is closed
  abbrev pub contents_from : Option RectU16 → Sheet D → Option RectU16
  contents_from c end = c
  contents_from c (draw n d rest) = contents_from (put (box_of d) c) rest
  contents_from c (layer n o inside rest) = contents_from (put (Some (closed_as o (contents_from None inside)).in_parent) c) rest

  -- the contents box of a layer with this inside
  abbrev pub contents : Sheet D → Option RectU16
  contents x = contents_from None x

  -- a closed layer's record, at its depth: box and placement by the closing rules
  abbrev pub layer_record : ℕ → Opening → Sheet D → RecordedLayer
  layer_record depth o inside = recorded_closed (closed_as o (contents inside)) (recorded_open o.props o.filter depth)

  -- the records of a sheet's layers in the order of their opening, the outermost at this depth
  abbrev pub records : ℕ → Sheet D → List RecordedLayer
  records depth end = []
  records depth (draw n d rest) = records depth rest
  records depth (layer n o inside rest) = layer_record depth o inside ∷ (records (depth + 1) inside ++ records depth rest)

  -- what the layers gave that were closed, in the order of their closing
  abbrev pub closings : Sheet D → List ClosedLayer
  closings end = []
  closings (draw n d rest) = closings rest
  closings (layer n o inside rest) = closings inside ++ (closed_as o (contents inside) ∷ closings rest)

  -- Of every filter layer with contents that are not empty: a point lies in its destination exactly when, moved by the shift,
  -- it lies in the smallest rectangle of whole tiles around the padded contents.
  abbrev pub Placed : Sheet D → Type 0
  Placed end = Unit {0}
  Placed (draw n d rest) = Placed rest
  Placed (layer n o inside rest) = LiesBy o.filter (contents inside) (closed_as o (contents inside)) × (Placed inside × Placed rest)

  -- the same by each layer's record in the table, which is that of a filter layer with the filter it was opened with
  abbrev pub PlacedByRecord : List RecordedLayer → Sheet D → Type 0
  PlacedByRecord table end = Unit {0}
  PlacedByRecord table (draw n d rest) = PlacedByRecord table rest
  PlacedByRecord table (layer n o inside rest) =
      LiesByRecord o.filter (contents inside) (slice_get table n) × (PlacedByRecord table inside × PlacedByRecord table rest)
