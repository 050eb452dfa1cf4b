use Rattle.std.proofs.Common.{◌≡◌, ℕ, Some, Option}
use Rattle.geometry.specs.declared.tile.Tile.{Tile}
use Rattle.text.specs.Readers.{Line, left, By}
use Rattle.tiles.specs.declared.surface.Surface.{Surface}
use Rattle.calls.specs.declared.call.Call.TheVariants as call
use Rattle.calls.specs.Calls.{tile_call_of}
use Rattle.text.proofs.Tellings.{sole-by, sole-making}
use Rattle.calls.proofs.call.read_tile_walk.Goals as goal

pub returns : goal.returns
returns g c =
    let before : Line = left c.args.words.now in
    let after : Line = left c.read_room.new.words in
    let said : Surface × Tile × Option ℕ = (c.in_ok-surface.surface, c.in_ok-tile.tile, c.in_ok-room.room) in
    let read : tile_call_of before ≡ Some (said, after) = rw (c.in_ok-surface.ensures, c.in_ok-tile.ensures, c.in_ok-room.ensures) in
    sole-making (By tile_call_of) (λ t. call.Tile t.0 t.1 t.2) before said after (sole-by tile_call_of before said after read)
