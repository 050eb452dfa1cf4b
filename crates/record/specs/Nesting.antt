-- How the nodes nest: read from the first node on, each belongs to a layer that was entered and not yet left.
use Rattle.std.specs.Prelude.{◌≡◌, ℕ, ◌<◌, cond, List, [], ◌∷◌, Some, None, Option}
use Rattle.layers.specs.declared.node.Node.{Node}
use Rattle.record.specs.Table.{same, top}

-- the layers that have been entered, innermost first, with a node's layer
abbrev pub pushed : Option ℕ → List ℕ → List ℕ
pushed None s = s
pushed (Some l) s = l ∷ s

-- the same once all further in than `o` are left
abbrev pub seek : Option ℕ → List ℕ → List ℕ
seek o [] = []
seek o (l ∷ s) = cond (same o (Some l)) (l ∷ s) (seek o s)

-- the layers that have been entered and not left after the latest node
abbrev pub spine : List Node → List ℕ
spine [] = []
spine (x ∷ older) = pushed x.layer (seek x.owner (spine older))

-- each node's owner is a layer that has been entered and not left
abbrev pub Found : List Node → Type 0
Found [] = Unit {0}
Found (x ∷ older) = (top (seek x.owner (spine older)) ≡ x.owner) × Found older

-- the numbers fall from the innermost layer out, all below b
abbrev pub Falls : ℕ → List ℕ → Type 0
Falls b [] = Unit {0}
Falls b (l ∷ s) = (l < b) × Falls l s
