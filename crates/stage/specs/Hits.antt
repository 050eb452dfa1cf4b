-- What a tile shows of draws that know their lines.
use Rattle.std.specs.Prelude.{◌≡◌, true, false, List, Option, MatchOption, slice_index_or}
use Rattle.draws.specs.declared.tagged.Tagged.{Tagged}
use Rattle.walk.specs.declared.listed.Listed.{Listed}
use Rattle.tiles.specs.Tile.{draw_listed, any_draw}
use Rattle.stage.specs.declared.answer.Found.{Found}

-- a listed draw with the line that it was drawn by; none where no draw is listed
abbrev pub Hits : {D : Type 0} → List (Tagged D) → List Listed → Option Found → Type 0
Hits draws list hit =
    MatchOption hit (any_draw list ≡ false) (λ found. (draw_listed found.number list ≡ true) × ((d : Tagged _) → (slice_index_or draws found.number d).line ≡ found.line))
