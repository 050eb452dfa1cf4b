use Rattle.std.proofs.Common.{◌≡◌, true, leb, [], ◌∷◌, length, sym, ◌∙◌, rules}
use Rattle.std.proofs.lemmas.Bool.{leb-true}
use Rattle.tiles.specs.Tile.{draw_shows, tile_listed, surface_questions}
use Rattle.tiles.proofs.Questions.{all_yes}
use Rattle.tiles.proofs.Tallies.{all-count, all-written}
use Rattle.tiles.proofs.tile.tile_walk.Goals as goal

pub returns : goal.returns
returns g c =
    let v = c.args.recorder.now in
    let s = c.args.surface in
    let list = tile_listed s c.args.tile (draw_shows (λ d. g.D.Drawable.box_of d c.args.strips.now) c.args.tile c.args.draws.now) v in
    let places = length c.args.out.now in
    let fits : leb (length list) places ≡ true = sym c.has_places.ensures ∙ c.if-not-has_places.false in
    let added = c.list_surface.ensures in
    let written = all-written added (leb-true (length list) places fits) in (
      all_yes (surface_questions s c.args.tile v (length c.args.draws.now)) ((leb (length list) places, 11) ∷ []) c.in_ok-ask.ensures.0 ∙ rw fits,
      record { count = all-count added; written = let same = added.same in search rules },
    )
