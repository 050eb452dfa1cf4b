-- What an accepted draw does.
use Rattle.std.specs.Prelude.{◌≡◌, ℕ, List, Option, slice_set}
use Rattle.geometry.specs.declared.rect.RectU16.{RectU16}
use Rattle.draws.specs.declared.blend.BlendMode.{BlendMode}
use Rattle.record.specs.Recording.{Recording, after_draw}

-- draw n, with this box and this mode, is recorded, and written at place n of the draw list alone
pub record Pushed {D : Type 0} (n : ℕ) (draw : D) (b : Option RectU16) (mode : Option BlendMode) (before after : Recording) (xs ys : List D) : Type 0 where
  pub number : n ≡ before.account.drawn
  pub recorded : after ≡ after_draw b mode before
  pub written : ys ≡ slice_set xs n draw
