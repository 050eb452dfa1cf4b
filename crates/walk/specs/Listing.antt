-- A list as it grows.
use Rattle.std.specs.Prelude.{◌≡◌, ℕ, ◌+◌, List, [], ◌∷◌, length, Option, slice_set}
use Rattle.layers.specs.declared.node.Node.{Node}
use Rattle.walk.specs.declared.listed.Listed.{Listed}
use Rattle.walk.specs.declared.listing.Listing.{Listing}
use Rattle.walk.specs.Walk.{Stretch}

-- the entries written from the place a on, as far as there are places
abbrev pub poured : ℕ → List Listed → List Listed → List Listed
poured a [] out = out
poured a (e ∷ es) out = poured (a + 1) es (slice_set out a e)

-- the entries es were added to the list
pub record Added (es : List Listed) (t t' : Listing) : Type 0 where
  -- they went to the same places
  pub same : t'.out.ghost_name ≡ t.out.ghost_name
  pub count : t'.count ≡ t.count + length es
  pub places : t'.out.now ≡ poured t.count es t.out.now
  pub long : length t'.out.now ≡ length t.out.now

-- the nodes of the layer o were listed, from ns on up to ns'
pub record Walked (o : Option ℕ) (ns : List Node) (t : Listing) (ns' : List Node) (t' : Listing) : Type 0 where
  pub whole : List Listed
  pub stretch : Stretch o ns ns' whole
  pub added : Added whole t t'
