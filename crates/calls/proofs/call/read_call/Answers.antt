use Rattle.calls.proofs.call.read_call.Goals as goal

pub returns-in-Reset : goal.returns-in-Reset
returns-in-Reset g c = rw c.in-Reset.is c.read_reset.ensures

pub returns-in-Draw : goal.returns-in-Draw
returns-in-Draw g c = rw c.in-Draw.is c.read_draw.ensures

pub returns-in-Open : goal.returns-in-Open
returns-in-Open g c = rw c.in-Open.is c.read_open.ensures

pub returns-in-Walk : goal.returns-in-Walk
returns-in-Walk g c = rw c.in-Walk.is c.read_walk.ensures

pub returns-in-Tile : goal.returns-in-Tile
returns-in-Tile g c = rw c.in-Tile.is c.read_tile_walk.ensures

pub returns-in-Hit : goal.returns-in-Hit
returns-in-Hit g c = rw c.in-Hit.is c.read_hit.ensures
