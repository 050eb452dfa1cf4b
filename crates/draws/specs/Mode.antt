-- Blend modes.
use Rattle.std.specs.Prelude.{Bool, ◌&&◌, ◌==◌}
use Rattle.draws.specs.declared.blend.BlendMode.{BlendMode}

-- mix 0, compose 3
abbrev pub default_mode : BlendMode → Bool
default_mode m = m.mix == 0 && m.compose == 3
