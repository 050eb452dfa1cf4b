-- What a recorder holds of a ledger, at any time.
use Rattle.std.specs.Prelude.{ℕ, ◌+◌, max, Bool, true, false, ◌&&◌, ◌||◌, List, [], ◌∷◌, ◌++◌, length, Some, None, Option}
use Rattle.geometry.specs.declared.rect.RectU16.{RectU16}
use Rattle.geometry.specs.declared.size.SizeU16.{SizeU16}
use Rattle.draws.specs.declared.blend.BlendMode.{BlendMode}
use Rattle.filter.specs.declared.data.FilterData.{FilterData}
use Rattle.layers.specs.declared.layer.ClosedLayer.{ClosedLayer}
use Rattle.layers.specs.declared.layer.OpenLayer.{OpenLayer}
use Rattle.layers.specs.declared.layer.RecordedLayer.{RecordedLayer}
use Rattle.record.specs.Account.{AccountView, blending, size_of, grown, grown_filter}
use Rattle.layers.specs.Opening.{clip_box}
use Rattle.record.specs.Recording.{Recording}
use Rattle.layers.specs.Records.{recorded_open}
use Rattle.record.specs.Tree.{TreeView}
use Rattle.ledger.specs.Ledger.{Opening, Entry, Draw, Enter, Leave, Ledger, draws_in, layers_in, open_step}
use Rattle.ledger.specs.Sheet.{Sheet, contents, records, closings}
use Rattle.ledger.specs.Draft.{Frame, frame, draft_of}
use Rattle.ledger.specs.Nodes.{nodes_of}

-- no layer is open
abbrev pub none : List ℕ → Bool
none [] = true
none (l ∷ s) = false

-- a filter layer's number, before those of later ones
abbrev pub numbered : Option FilterData → ℕ → List ℕ → List ℕ
numbered None n ns = ns
numbered (Some f) n ns = n ∷ ns

-- the mode of an opening; other entries have none
abbrev pub opening_mode : {D : Type 0} → Entry D → Option BlendMode
opening_mode (Draw n d) = None
opening_mode (Enter n o) = Some o.props.blend_mode
opening_mode (Leave n) = None

-- the depth of an opening, with the layers s open before it
abbrev pub depth_at : {D : Type 0} → List ℕ → Entry D → ℕ
depth_at s (Draw n d) = 0
depth_at s (Enter n o) = length s + 1
depth_at s (Leave n) = 0

module _ {D : Type 0} where
  -- some layer was opened with a mode that is not the default one
  abbrev pub layer_blends : List (Entry D) → Bool
  layer_blends [] = false
  layer_blends (e ∷ es) = blending (opening_mode e) || layer_blends es

  -- the depth of the deepest layer, with the layers s open before
  abbrev pub deepest_from : List ℕ → List (Entry D) → ℕ
  deepest_from s [] = 0
  deepest_from s (e ∷ es) = max (depth_at s e) (deepest_from (open_step s e) es)

  -- the numbers of the filter layers, in the order of their opening
  abbrev pub filter_numbers : List (Entry D) → List ℕ
  filter_numbers [] = []
  filter_numbers (Draw n d ∷ es) = filter_numbers es
  filter_numbers (Enter n o ∷ es) = numbered o.filter n (filter_numbers es)
  filter_numbers (Leave n ∷ es) = filter_numbers es

-- the largest width and the largest height of the layers closed, with those so far
abbrev pub largest_from : Option SizeU16 → List ClosedLayer → Option SizeU16
largest_from m [] = m
largest_from m (k ∷ ks) = largest_from (grown (size_of k.bbox) m) ks

-- the same of the filter layers alone, which have a placement
abbrev pub largest_filter_from : Option SizeU16 → List ClosedLayer → Option SizeU16
largest_filter_from m [] = m
largest_filter_from m (k ∷ ks) = largest_filter_from (grown_filter k.placement (size_of k.bbox) m) ks

-- an open layer with these contents
abbrev pub open_with : ℕ → Opening → Option RectU16 → OpenLayer
open_with n o c = record { id = n; clip = clip_box o.props.clip_path; filter = o.filter; contents = c }

module _ {D : Type 0} (box_of : D → Option RectU16) where
  -- the open layers, innermost first, each with the contents that it has so far
  abbrev pub open_layers_of : List (Frame D) → Sheet D → List OpenLayer
  open_layers_of [] x = []
  open_layers_of (frame before n o ∷ fs) x = open_with n o (contents box_of x) ∷ open_layers_of fs before

  -- the layers' records in the order of their opening: an open layer's box and placement are zero
  abbrev pub records_of : List (Frame D) → Sheet D → List RecordedLayer
  records_of [] x = records box_of 1 x
  records_of (frame before n o ∷ fs) x = records_of fs before ++ (recorded_open o.props o.filter (length fs + 1) ∷ records box_of (length fs + 1 + 1) x)

  -- what the closed layers gave, in the order of their closing
  abbrev pub closings_of : List (Frame D) → Sheet D → List ClosedLayer
  closings_of [] x = closings box_of x
  closings_of (frame before n o ∷ fs) x = closings_of fs before ++ closings box_of x

module _ {D : Type 0} (mode_of : D → Option BlendMode) where
  -- the mode of a draw or of an opening
  abbrev pub mode_in : Entry D → Option BlendMode
  mode_in (Draw n d) = mode_of d
  mode_in (Enter n o) = Some o.props.blend_mode
  mode_in (Leave n) = None

  -- a draw or a layer with a mode that is not the default one came while no layer was open, with the layers s open before
  abbrev pub root_blends : List ℕ → List (Entry D) → Bool
  root_blends s [] = false
  root_blends s (e ∷ es) = (none s && blending (mode_in e)) || root_blends (open_step s e) es

module _ {D : Type 0} (box_of : D → Option RectU16) (mode_of : D → Option BlendMode) where
  -- the account of a ledger
  abbrev pub account_for : Ledger D → AccountView
  account_for b =
      let w = draft_of b.entries in
      record {
        scene = b.scene;
        opened = open_layers_of box_of w.frames w.sheet;
        drawn = draws_in b.entries;
        layers = layers_in b.entries;
        root_target = root_blends mode_of [] b.entries;
        blends = layer_blends b.entries;
        deepest = deepest_from [] b.entries;
        largest = largest_from None (closings_of box_of w.frames w.sheet);
        largest_filter = largest_filter_from None (closings_of box_of w.frames w.sheet);
      }

  -- the tree of a ledger
  abbrev pub tree_for : Ledger D → TreeView
  tree_for b =
      let w = draft_of b.entries in
      record {
        nodes = nodes_of w.frames w.sheet;
        layers = records_of box_of w.frames w.sheet;
        filters = filter_numbers b.entries;
      }

  -- the recording of a ledger, field by field
  abbrev pub recording_for : Ledger D → Recording
  recording_for b = record { account = account_for b; tree = tree_for b }
