-- The tree of a recording, as plain lists, and what each call makes of it.
use Rattle.std.specs.Prelude.{ℕ, zero, suc, List, [], ◌∷◌, ◌++◌, Some, None, Option}
use Rattle.filter.specs.declared.data.FilterData.{FilterData}
use Rattle.layers.specs.declared.layer.ClosedLayer.{ClosedLayer}
use Rattle.layers.specs.declared.layer.RecordedLayer.{RecordedLayer}
use Rattle.layers.specs.declared.node.Node.{Node}
use Rattle.layers.specs.Records.{recorded_closed}
use Rattle.record.specs.Table.{with_draw, with_layer}

-- what a tree holds
pub record TreeView : Type 0 where
  -- the nodes, the latest first
  pub nodes : List Node
  -- the layers by their numbers
  pub layers : List RecordedLayer
  -- the filter layers' numbers, the first opened first
  pub filters : List ℕ

-- nothing recorded
abbrev pub empty_tree : TreeView
empty_tree = record { nodes = []; layers = []; filters = [] }

-- the tree with other nodes
abbrev pub with_nodes : List Node → TreeView → TreeView
with_nodes nodes t = record { nodes = nodes; layers = t.layers; filters = t.filters }

-- draw n in the active layer o
abbrev pub tree_after_draw : ℕ → Option ℕ → TreeView → TreeView
tree_after_draw n o t = with_nodes (with_draw n o t.nodes) t

-- the numbers of the filter layers with that of layer l, where it has a filter
abbrev pub with_filter : Option FilterData → ℕ → List ℕ → List ℕ
with_filter None l filters = filters
with_filter (Some f) l filters = filters ++ (l ∷ [])

-- the tree with one more layer, which is no node's yet
abbrev pub with_record : ℕ → RecordedLayer → Option FilterData → TreeView → TreeView
with_record l layer f t = record { nodes = t.nodes; layers = t.layers ++ (layer ∷ []); filters = with_filter f l t.filters }

-- layer l opened after n draws, in the active layer o
abbrev pub tree_after_opening : ℕ → ℕ → RecordedLayer → Option FilterData → Option ℕ → TreeView → TreeView
tree_after_opening l n layer f o t = with_nodes (with_layer l n o t.nodes) (with_record l layer f t)

-- a list with its element at a place changed, and no other
abbrev pub change_at : {X : Type 0} → (X → X) → ℕ → List X → List X
change_at f n [] = []
change_at f zero (x ∷ xs) = f x ∷ xs
change_at f (suc n) (x ∷ xs) = x ∷ change_at f n xs

-- layer l closed, which gave k
abbrev pub tree_after_closing : ℕ → ClosedLayer → TreeView → TreeView
tree_after_closing l k t = record { nodes = t.nodes; layers = change_at (recorded_closed k) l t.layers; filters = t.filters }
