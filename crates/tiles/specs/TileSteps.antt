-- How a tile walk goes from node to node.
use Rattle.std.specs.Prelude.{◌≡◌, ℕ, zero, suc, ◌+◌, ◌≤◌, Bool, false, cond, List, [], ◌++◌, ◌∷◌, length, Some, None, Option}
use Rattle.layers.specs.declared.node.Node.{Node}
use Rattle.record.specs.Table.{same}
use Rattle.walk.specs.declared.listed.Listed.{Listed}
use Rattle.tiles.specs.declared.showing.Showing.{Showing}
use Rattle.tiles.specs.declared.surface.Surface.{Surface}
use Rattle.tiles.specs.declared.surface.Surface.TheVariants.{Scene, Layer}
use Rattle.tiles.specs.declared.tally.Tally.{Tally}
use Rattle.tiles.specs.Tally.{Added}
use Rattle.tiles.specs.Tile.{sift, drawing, until}
use Rattle.walk.specs.Walk.{Stretch}

-- the layer whose nodes lie on the surface
abbrev pub owner_of : Surface → Option ℕ
owner_of Scene = None
owner_of (Layer l) = Some l

-- the nodes after the one that holds layer l
abbrev pub past_holder : ℕ → List Node → List Node
past_holder l [] = []
past_holder l (x ∷ ns) = cond (same x.layer (Some l)) ns (past_holder l ns)

-- the nodes from the surface's first on
abbrev pub nodes_of : Surface → List Node → List Node
nodes_of Scene ns = ns
nodes_of (Layer l) ns = past_holder l ns

-- those of the k draws from a on that are seen
abbrev pub picked : (ℕ → Bool) → ℕ → ℕ → List Listed
picked seen a zero = []
picked seen a (suc k) = picked seen a k ++ drawing (seen (a + k)) (a + k)

-- no node holds layer l
abbrev pub Lacks : ℕ → List Node → Type 0
Lacks l [] = Unit {0}
Lacks l (x ∷ ns) = (same x.layer (Some l) ≡ false) × Lacks l ns

-- `whole`, which the walk lists of the nodes ns up to ns', leaves no layer that ns do not hold
pub record Clear (ns ns' : List Node) (whole : List Listed) : Type 0 where
  pub later : (l : ℕ) → Lacks l ns → Lacks l ns'
  pub clear : (l : ℕ) → Lacks l ns → (rest : List Listed) → until l (whole ++ rest) ≡ whole ++ until l rest

-- inside a hidden layer nothing of `whole` is shown, and as many layers are hidden after it as before
abbrev pub Blind : List Listed → Type 0
Blind whole =
    (seen : ℕ → Bool) (shows : ℕ → Showing) (out : List Listed) (k : ℕ) (rest : List Listed) → sift seen shows out (suc k) (whole ++ rest) ≡ sift seen shows out (suc k) rest

-- outside hidden layers `shown` is what the tile shows of `whole`
pub record Sieved (seen : ℕ → Bool) (shows : ℕ → Showing) (whole shown : List Listed) : Type 0 where
  pub kept : (out rest : List Listed) → sift seen shows out 0 (whole ++ rest) ≡ sift seen shows (out ++ shown) 0 rest
  pub less : length shown ≤ length whole

-- a layer o that is not entered was passed over, from the nodes ns up to ns'
pub record Passed (o : Option ℕ) (ns ns' : List Node) : Type 0 where
  pub whole : List Listed
  pub stretch : Stretch o ns ns' whole
  pub clear : Clear ns ns' whole
  pub blind : Blind whole

-- what the tile shows of the layer o was listed, from the nodes ns up to ns'
pub record Sifted (seen : ℕ → Bool) (shows : ℕ → Showing) (o : Option ℕ) (ns : List Node) (t : Tally) (ns' : List Node) (t' : Tally) : Type 0 where
  pub whole : List Listed
  pub shown : List Listed
  pub stretch : Stretch o ns ns' whole
  pub clear : Clear ns ns' whole
  pub sieved : Sieved seen shows whole shown
  pub added : Added shown t t'
