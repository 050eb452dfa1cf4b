-- What a full walk lists of a table of nodes, read from the first node on.
use Rattle.std.specs.Prelude.{◌≡◌, ℕ, zero, suc, ◌+◌, ◌-◌, ◌*◌, ◌≤◌, Bool, false, cond, List, [], ◌∷◌, ◌++◌, length, Some, None, Option}
use Rattle.layers.specs.declared.node.Node.{Node}
use Rattle.record.specs.Nesting.{pushed, seek}
use Rattle.record.specs.Table.{same, top, held, holding}
use Rattle.walk.specs.declared.listed.Listed.{Listed}
use Rattle.walk.specs.declared.listed.Listed.TheVariants.{Draw, Enter, Leave}

-- the k draws from a on
abbrev pub spanned : ℕ → ℕ → List Listed
spanned a zero = []
spanned a (suc k) = spanned a k ++ (Draw (a + k) ∷ [])

-- a node's own draws
abbrev pub own_draws : Node → List Listed
own_draws x = spanned x.start (x.end - x.start)

-- the entries with an Enter of the layer, where there is one
abbrev pub entered : Option ℕ → List Listed → List Listed
entered None out = out
entered (Some l) out = out ++ (Enter l ∷ [])

-- the entries with those of one node's own: its draws, then its layer's beginning
abbrev pub told : List Listed → Node → List Listed
told out x = entered x.layer (out ++ own_draws x)

-- the entries with a Leave of each layer further in than `o`
abbrev pub leaves : Option ℕ → List Listed → List ℕ → List Listed
leaves o out [] = out
leaves o out (l ∷ s) = cond (same o (Some l)) out (leaves o (out ++ (Leave l ∷ [])) s)

-- the entries with a Leave of each layer that was entered
abbrev pub unwind : List Listed → List ℕ → List Listed
unwind out [] = out
unwind out (l ∷ s) = unwind (out ++ (Leave l ∷ [])) s

-- The entries after the nodes xs, with the entries `out` so far and the layers s that have been entered and not left.
-- A node is preceded by a Leave of each layer that is not its owner's.
abbrev pub walk : List Node → List Listed → List ℕ → List Listed
walk [] out s = unwind out s
walk (x ∷ xs) out s =
    cond (same x.owner (top (seek x.owner s)))
    (walk xs (told (leaves x.owner out s) x) (pushed x.layer (seek x.owner s)))
    (leaves x.owner out s)

-- whether the first of the nodes is `o`'s
abbrev pub starts : Option ℕ → List Node → Bool
starts o [] = false
starts o (x ∷ xs) = same x.owner o

-- how many entries there are of the nodes
abbrev pub room : List Node → ℕ
room [] = 0
room (x ∷ xs) = ((x.end - x.start) + 2 * holding x.layer) + room xs

-- x is the first of the nodes ns and is `o`'s, and the nodes xs come after it
pub record Next (o : Option ℕ) (ns : List Node) (x : Node) (xs : List Node) : Type 0 where
  pub first : ns ≡ x ∷ xs
  pub own : x.owner ≡ o

-- from the nodes ns of the layer `o` up to the nodes ns' the walk lists `whole`
pub record Stretch (o : Option ℕ) (ns ns' : List Node) (whole : List Listed) : Type 0 where
  pub shorter : length ns' ≤ length ns
  pub lines : (s : List ℕ) → top s ≡ o → walk ns [] s ≡ whole ++ walk ns' [] s
  pub rooms : length whole + room ns' ≡ room ns
  pub fewer : held ns' ≤ held ns
