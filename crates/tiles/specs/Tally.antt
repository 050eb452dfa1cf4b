-- A list as it grows.
use Rattle.std.specs.Prelude.{◌≡◌, ℕ, ◌+◌, List, [], ◌∷◌, length, Some, None, Option}
use Rattle.std.specs.Borrow.{MutBor}
use Rattle.walk.specs.declared.listed.Listed.{Listed}
use Rattle.walk.specs.declared.listed.Listed.TheVariants.{Draw, Enter, Leave, Filter}
use Rattle.walk.specs.Listing.{poured}
use Rattle.tiles.specs.declared.tally.Tally.{Tally}

-- a list without entries
abbrev pub begun : MutBor (List Listed) → Tally
begun out = record { out = out; count = 0; top = None }

-- the last draw, with one more entry
abbrev pub last_draw : Listed → Option ℕ → Option ℕ
last_draw (Draw n) o = Some n
last_draw (Enter l) o = o
last_draw (Leave l) o = o
last_draw (Filter l) o = o

-- the last draw, with more entries
abbrev pub last_of : Option ℕ → List Listed → Option ℕ
last_of o [] = o
last_of o (e ∷ es) = last_of (last_draw e o) es

-- the entries es were added to the list
pub record Added (es : List Listed) (t t' : Tally) : Type 0 where
  -- they went to the same places
  pub same : t'.out.ghost_name ≡ t.out.ghost_name
  pub count : t'.count ≡ t.count + length es
  pub top : t'.top ≡ last_of t.top es
  pub places : t'.out.now ≡ poured t.count es t.out.now
