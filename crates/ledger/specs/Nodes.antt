-- The nodes that a recorder makes of what stands in a layer: a range of draws, and then perhaps one layer.
use Rattle.std.specs.Prelude.{ℕ, ◌+◌, List, [], ◌∷◌, Some, None, Option}
use Rattle.layers.specs.declared.node.Node.{Node}
use Rattle.record.specs.Table.{node}
use Rattle.ledger.specs.Sheet.{Sheet, end, draw, layer, joined}
use Rattle.ledger.specs.Draft.{Frame, frame}

-- a node starts with the draws that came since the layer's last node, or is empty at draw k
abbrev pub start_or : Option ℕ → ℕ → ℕ
start_or None k = k
start_or (Some a) k = a

-- draws that no layer follows make a node too
abbrev pub with_run : Option ℕ → Option ℕ → ℕ → List Node → List Node
with_run owner None k nodes = nodes
with_run owner (Some a) k nodes = node a k None owner ∷ nodes

module _ {D : Type 0} where
  -- how many draws there are after those of a sheet, with k before it
  abbrev pub drawn_after : ℕ → Sheet D → ℕ
  drawn_after k end = k
  drawn_after k (draw n d rest) = drawn_after (k + 1) rest
  drawn_after k (layer n o inside rest) = drawn_after (drawn_after k inside) rest

  -- The nodes, the latest first, with those of a sheet that stands in the layer `owner` (or in the scene), after k draws.
  -- `run` is where the draws begin that no layer has followed yet. A layer's own nodes come after the one that holds it.
  abbrev pub nodes_from : Option ℕ → Option ℕ → ℕ → List Node → Sheet D → List Node
  nodes_from owner run k nodes end = with_run owner run k nodes
  nodes_from owner run k nodes (draw n d rest) = nodes_from owner (Some (start_or run k)) (k + 1) nodes rest
  nodes_from owner run k nodes (layer n o inside rest) =
      nodes_from owner None (drawn_after k inside) (nodes_from (Some n) None k (node (start_or run k) k (Some n) owner ∷ nodes) inside) rest

  -- how many draws there are so far
  abbrev pub drawn_in : List (Frame D) → Sheet D → ℕ
  drawn_in [] x = drawn_after 0 x
  drawn_in (frame before n o ∷ fs) x = drawn_after (drawn_in fs before) x

  -- all nodes so far: an open layer's come after those that there were once it was opened
  abbrev pub nodes_of : List (Frame D) → Sheet D → List Node
  nodes_of [] x = nodes_from None None 0 [] x
  nodes_of (frame before n o ∷ fs) x = nodes_from (Some n) None (drawn_in fs before) (nodes_of fs (joined before (layer n o end end))) x
