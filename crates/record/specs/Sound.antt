-- What holds of every recorder that exists.
use Rattle.std.specs.Prelude.{◌≡◌, ℕ, zero, suc, ◌+◌, ◌*◌, ◌≤◌, List, [], ◌∷◌, length}
use Rattle.geometry.specs.Rect.{zero as nowhere}
use Rattle.filter.specs.Placement.{unplaced}
use Rattle.layers.specs.declared.layer.RecordedLayer.{RecordedLayer}
use Rattle.layers.specs.declared.layer.RecordedLayerKind.{RecordedLayerKind}
use Rattle.layers.specs.declared.layer.RecordedLayerKind.TheVariants.{Regular, Filter}
use Rattle.layers.specs.declared.node.Node.{Node}
use Rattle.record.specs.Account.{AccountView, ids}
use Rattle.record.specs.Nesting.{seek, spine, Found, Falls}
use Rattle.record.specs.Table.{top, joint, span_end, Chained, held, Numbered}
use Rattle.record.specs.Tree.{TreeView}

-- Each layer adds two nodes at the most, an open one has not had its second yet, and the last node may be the active layer's own.
-- Every layer has a record, and no other number stands among the filter layers. There are at most 256 layers and 1,048,576 draws, no layer is deeper than 256, and no more are open than were recorded.
abbrev pub Counted : AccountView → TreeView → Type 0
Counted a t =
    (length t.nodes + length a.opened ≤ 2 * a.layers + joint t.nodes (top (ids a.opened)))
    × (length t.layers ≡ a.layers)
    × (length t.filters ≤ a.layers)
    × (a.layers ≤ 256)
    × (a.drawn ≤ 1048576)
    × (a.deepest ≤ 256)
    × (length a.opened ≤ a.layers)

-- a filter layer has a zero placement
abbrev pub UnplacedKind : RecordedLayerKind → Type 0
UnplacedKind Regular = Unit {0}
UnplacedKind (Filter f p) = p ≡ unplaced

-- the record at a place has a zero box and, where it is a filter layer's, a zero placement
abbrev pub UnclosedAt : List RecordedLayer → ℕ → Type 0
UnclosedAt [] l = ⊥
UnclosedAt (x ∷ layers) zero = (x.bbox ≡ nowhere) × UnplacedKind x.kind
UnclosedAt (x ∷ layers) (suc l) = UnclosedAt layers l

-- so it is at each of these places
abbrev pub AllUnclosed : List RecordedLayer → List ℕ → Type 0
AllUnclosed layers [] = Unit {0}
AllUnclosed layers (l ∷ s) = UnclosedAt layers l × AllUnclosed layers s

-- How the nodes nest around the open layers s, with n draws and l layers.
pub record Threads (nodes : List Node) (s : List ℕ) (n l : ℕ) : Type 0 where
  -- the nodes' draws are in order, and end at the latest draw
  pub chained : Chained nodes
  pub ends : span_end nodes ≡ n
  -- each layer is one node's, in the order of their numbers
  pub holds : held nodes ≡ l
  pub numbered : Numbered nodes
  -- each node's owner had been entered and not left when the node was made, and the open layers are not left
  pub found : Found nodes
  pub inside : seek (top s) (spine nodes) ≡ s
  pub falls : Falls l (spine nodes)

-- the nodes nest around the open layers
pub record Nests (a : AccountView) (t : TreeView) : Type 0 where
  pub threads : Threads t.nodes (ids a.opened) a.drawn a.layers
  -- an open layer's box and placement are zero
  pub unclosed : AllUnclosed t.layers (ids a.opened)

-- The counts are as they may be, and the nodes nest around the open layers. The nesting goes by cases over lists, and so stands under a truncation.
abbrev pub Sound : AccountView → TreeView → Type 0
Sound a t = Counted a t × ∥ Nests a t ∥₁
