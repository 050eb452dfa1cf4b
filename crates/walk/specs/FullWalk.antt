-- The full walk of a recording.
use Rattle.std.specs.Prelude.{◌≡◌, ℕ, ◌+◌, ◌*◌, List, [], ◌∷◌, ◌++◌, reverse, length, drop, nat_le}
use Rattle.refusal.specs.Refusals.{Question}
use Rattle.record.specs.Account.{at_root}
use Rattle.record.specs.Recording.{Recording}
use Rattle.walk.specs.declared.listed.Listed.{Listed}
use Rattle.walk.specs.Walk.{walk}

-- what a full walk lists
abbrev pub listed : Recording → List Listed
listed r = walk (reverse r.tree.nodes) [] []

-- one entry for each draw, and two for each layer
abbrev pub entry_count : Recording → ℕ
entry_count r = r.account.drawn + 2 * r.account.layers

-- no layer is open, and the output list has a place for every entry
abbrev pub walk_questions : Recording → ℕ → List Question
walk_questions r places = (at_root r.account.opened, 10) ∷ (nat_le (entry_count r) places, 11) ∷ []

-- the entries were written from the first place on, n of them, and later places were left
pub record FullWalk (r : Recording) (n : ℕ) (out out' : List Listed) : Type 0 where
  pub count : n ≡ entry_count r
  pub all : length (listed r) ≡ entry_count r
  pub written : out' ≡ listed r ++ drop n out
