-- The steps of a tile walk: a node's draws, a layer that is entered, and a layer that is passed over.
use Rattle.std.proofs.Common.{◌≡◌, ℕ, ◌+◌, ◌-◌, ◌≤◌, Bool, false, List, [], ◌∷◌, ◌++◌, Some, None, Option, arith}
use Rattle.layers.specs.declared.node.Node.{Node}
use Rattle.walk.specs.declared.listed.Listed.TheVariants.{Enter, Leave}
use Rattle.walk.specs.Walk.{own_draws, starts, room, Next}
use Rattle.walk.proofs.Walks.{length-spanned, layer_room, around, stretch-then, stretch-draws, stretch-layer}
use Rattle.tiles.specs.declared.showing.Showing.{Showing}
use Rattle.tiles.specs.declared.showing.Showing.TheVariants.{Through}
use Rattle.tiles.specs.declared.tally.Tally.{Tally}
use Rattle.tiles.specs.Tally.{Added}
use Rattle.tiles.specs.Tile.{entering, deeper}
use Rattle.tiles.specs.TileSteps.{picked, Passed, Sifted}
use Rattle.tiles.proofs.Sieves.{blind-then, blind-draws, blind-layer, sieved-then, sieved-draws, sieved-through, sieved-over, length-picked}
use Rattle.tiles.proofs.Stretches.{clear-then, clear-draws, clear-layer}
use Rattle.tiles.proofs.Tallies.{added_then}

-- no more entries than draws were added
pub drawn_count : (seen : ℕ → Bool) (a k : ℕ) {t u : Tally} → Added (picked seen a k) t u → u.count ≤ t.count + k
drawn_count seen a k w = omega (arith, w.count, length-picked seen a k)

pub passed_then : {o : Option ℕ} {ns mid end : List Node} → Passed o ns mid → Passed o mid end → Passed o ns end
passed_then p q = record { whole = p.whole ++ q.whole; stretch = stretch-then p.stretch q.stretch; clear = clear-then p.clear q.clear; blind = blind-then p.whole q.whole p.blind q.blind }

module _ {o : Option ℕ} {ns xs : List Node} {x : Node} (n : Next o ns x xs) where
  pub passed-draws : x.layer ≡ None → Passed o ns xs
  passed-draws none = record { whole = own_draws x; stretch = stretch-draws n none; clear = clear-draws n; blind = blind-draws x.start (x.end - x.start) }

  pub passed-layer : {l : ℕ} {end : List Node} → x.layer ≡ Some l → Passed (Some l) xs end → starts (Some l) end ≡ false → Passed o ns end
  passed-layer {l} some inner stopped = record {
    whole = own_draws x ++ around l inner.whole;
    stretch = stretch-layer n some inner.stretch stopped;
    clear = clear-layer n some inner.clear;
    blind = blind-then (own_draws x) (around l inner.whole) (blind-draws x.start (x.end - x.start)) (blind-layer l inner.whole inner.blind);
  }

module _ {seen : ℕ → Bool} {shows : ℕ → Showing} where
  pub sifted-then : {o : Option ℕ} {ns mid end : List Node} {t u v : Tally} → Sifted seen shows o ns t mid u → Sifted seen shows o mid u end v → Sifted seen shows o ns t end v
  sifted-then p q = record {
    whole = p.whole ++ q.whole;
    shown = p.shown ++ q.shown;
    stretch = stretch-then p.stretch q.stretch;
    clear = clear-then p.clear q.clear;
    sieved = sieved-then seen shows p.whole q.whole p.shown q.shown p.sieved q.sieved;
    added = added_then p.added q.added;
  }

  -- there is room for as many entries after it as before, and for more where some are not shown
  pub sifted-rooms : {o : Option ℕ} {ns end : List Node} {t u : Tally} → Sifted seen shows o ns t end u → u.count + room end ≤ t.count + room ns
  sifted-rooms p = omega (arith, p.added.count, p.sieved.less, p.stretch.rooms)

  -- after the draws of a node that holds a layer there is room for the layer's two entries
  pub layer-rooms : {o : Option ℕ} {ns mid xs : List Node} {x : Node} {t u v : Tally} {l : ℕ} → Sifted seen shows o ns t mid u → Next o mid x xs → Added (picked seen x.start (x.end - x.start)) u v → x.layer ≡ Some l
      → (v.count + 2) + room xs ≤ t.count + room ns
  layer-rooms {x = x} p n drawn some = omega (arith, sifted-rooms p, layer_room n some, length-spanned x.start (x.end - x.start), drawn_count seen x.start (x.end - x.start) drawn)

  module _ {o : Option ℕ} {ns xs : List Node} {x : Node} {t u : Tally} (n : Next o ns x xs) (drawn : Added (picked seen x.start (x.end - x.start)) t u) where
    -- a node that holds no layer
    pub sifted-draws : x.layer ≡ None → Sifted seen shows o ns t xs u
    sifted-draws none = record {
      whole = own_draws x;
      shown = picked seen x.start (x.end - x.start);
      stretch = stretch-draws n none;
      clear = clear-draws n;
      sieved = sieved-draws seen shows x.start (x.end - x.start);
      added = drawn;
    }

    -- a node that holds a layer that is entered
    pub sifted-through : {l : ℕ} {v w z : Tally} {end : List Node} → x.layer ≡ Some l → shows l ≡ Through → Added (Enter l ∷ []) u v → Sifted seen shows (Some l) xs v end w → starts (Some l) end ≡ false → Added (Leave l ∷ []) w z
        → Sifted seen shows o ns t end z
    sifted-through {l} some through enter inner stopped left = record {
      whole = own_draws x ++ around l inner.whole;
      shown = picked seen x.start (x.end - x.start) ++ around l inner.shown;
      stretch = stretch-layer n some inner.stretch stopped;
      clear = clear-layer n some inner.clear;
      sieved = sieved-then seen shows (own_draws x) (around l inner.whole) (picked seen x.start (x.end - x.start)) (around l inner.shown) (sieved-draws seen shows x.start (x.end - x.start))
          (sieved-through seen shows l inner.whole inner.shown through inner.sieved);
      added = added_then drawn (added_then enter (added_then inner.added left));
    }

    -- a node that holds a layer that is passed over, with what stands in its place
    pub sifted-over : {l : ℕ} {v : Tally} {end : List Node} (how : Showing) → x.layer ≡ Some l → shows l ≡ how → deeper how ≡ 1 → Added (entering how l) u v → Passed (Some l) xs end → starts (Some l) end ≡ false → Sifted seen shows o ns t end v
    sifted-over {l} how some is one enter inner stopped = record {
      whole = own_draws x ++ around l inner.whole;
      shown = picked seen x.start (x.end - x.start) ++ entering how l;
      stretch = stretch-layer n some inner.stretch stopped;
      clear = clear-layer n some inner.clear;
      sieved = sieved-then seen shows (own_draws x) (around l inner.whole) (picked seen x.start (x.end - x.start)) (entering how l) (sieved-draws seen shows x.start (x.end - x.start))
          (sieved-over seen shows l inner.whole how is one inner.blind);
      added = added_then drawn enter;
    }
