-- The rules, computed on each known recording.
use Rattle.std.proofs.Common.{refl}
use lib.Ieee.{le, lt, eq}
use Rattle.std.specs.List.{AllByRecursion}
use Rattle.recordings.specs.Known.{Reproduced, known}

pub reproduced : AllByRecursion Reproduced known
unfolding le lt eq
reproduced = ((refl, refl, refl), ((refl, refl, refl), ((refl, refl, refl), ((refl, refl, refl), ((refl, refl, refl), ((refl, refl, refl), ((refl, refl, refl), ((refl, refl, refl), ((refl, refl, refl), tt)))))))))
