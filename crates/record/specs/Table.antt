-- The table of nodes, the latest first, and what a draw and an opening make of it.
use Rattle.std.specs.Prelude.{◌≡◌, ℕ, ◌+◌, ◌≤◌, Bool, true, false, cond, List, [], ◌∷◌, Some, None, Option, nat_eq}
use Rattle.std.specs.Option.{option_eq}
use Rattle.layers.specs.declared.node.Node.{Node}

-- draws a..b, then perhaps the layer l, in the list of the layer o
abbrev pub node : ℕ → ℕ → Option ℕ → Option ℕ → Node
node a b l o = record { start = a; end = b; layer = l; owner = o }

-- the first of a list; of the open layers, innermost first, it is the active one
abbrev pub top : List ℕ → Option ℕ
top [] = None
top (l ∷ s) = Some l

-- whether two owners, or two layers, are the same
abbrev pub same : Option ℕ → Option ℕ → Bool
same = option_eq nat_eq

-- b where there is no layer, else false
abbrev pub free : Option ℕ → Bool → Bool
free None b = b
free (Some l) b = false

-- whether the last node of the active layer o has no layer: it is then the table's last
abbrev pub joins : List Node → Option ℕ → Bool
joins [] o = false
joins (x ∷ older) o = free x.layer (same x.owner o)

-- 1 for true, 0 for false
abbrev pub one-if : Bool → ℕ
one-if true = 1
one-if false = 0

-- 1 where the active layer's last node has no layer, else 0
abbrev pub joint : List Node → Option ℕ → ℕ
joint table o = one-if (joins table o)

-- where the latest node's draws end
abbrev pub span_end : List Node → ℕ
span_end [] = 0
span_end (x ∷ older) = x.end

-- the nodes' draws are in order, each node's beginning where the one before it ends
abbrev pub Chained : List Node → Type 0
Chained [] = Unit {0}
Chained (x ∷ older) = (x.start ≡ span_end older) × (x.start ≤ x.end) × Chained older

-- how many layers a node holds
abbrev pub holding : Option ℕ → ℕ
holding None = 0
holding (Some l) = 1

-- how many layers the nodes hold
abbrev pub held : List Node → ℕ
held [] = 0
held (x ∷ older) = holding x.layer + held older

-- a layer, where there is one, has the number n
abbrev pub NumberedIs : Option ℕ → ℕ → Type 0
NumberedIs None n = Unit {0}
NumberedIs (Some l) n = l ≡ n

-- the layers stand in the nodes in the order of their numbers, from 0
abbrev pub Numbered : List Node → Type 0
Numbered [] = Unit {0}
Numbered (x ∷ older) = NumberedIs x.layer (held older) × Numbered older

-- the latest node with its draws up to b
abbrev pub lengthen : ℕ → List Node → List Node
lengthen b [] = []
lengthen b (x ∷ older) = node x.start b x.layer x.owner ∷ older

-- the latest node with the layer l
abbrev pub hang : ℕ → List Node → List Node
hang l [] = []
hang l (x ∷ older) = node x.start x.end (Some l) x.owner ∷ older

-- the table with a last node that the active layer o's next draw or layer joins: an empty one after n draws, where there is none
abbrev pub joined : Option ℕ → ℕ → List Node → List Node
joined o n table = cond (joins table o) table (node n n None o ∷ table)

-- the table after draw n, with the active layer o
abbrev pub with_draw : ℕ → Option ℕ → List Node → List Node
with_draw n o table = cond (joins table o) (lengthen (n + 1) table) (node n (n + 1) None o ∷ table)

-- the table after layer l was opened, with n draws before it and the active layer o around it
abbrev pub with_layer : ℕ → ℕ → Option ℕ → List Node → List Node
with_layer l n o table = cond (joins table o) (hang l table) (node n n (Some l) o ∷ table)
