-- The list of a walk.
use Rattle.std.specs.Prelude.{◌≡◌, ℕ, List, take, Ok, Err, vec_items, Vec, Result}
use Rattle.std.specs.declared.alloc.Global.{Global}
use Rattle.refusal.specs.declared.Refusal.{Refusal}
use Rattle.walk.specs.declared.listed.Listed.{Listed}

-- what is kept of the list that a walk left: as many entries as it answers, or its refusal
abbrev pub Kept : Result ℕ Refusal → List Listed → Result (Vec Listed Global) Refusal → Type 0
Kept (Ok n) left (Ok entries) = vec_items entries ≡ take n left
Kept (Ok n) left (Err e) = ⊥
Kept (Err f) left (Ok entries) = ⊥
Kept (Err f) left (Err e) = e ≡ f
