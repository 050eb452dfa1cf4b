-- Sizes.
use Rattle.std.specs.Prelude.{ℕ, max}
use Rattle.geometry.specs.declared.size.SizeU16.{SizeU16}

-- the size with this width and height
abbrev pub size : ℕ → ℕ → SizeU16
size w h = record { width = w; height = h }

-- the larger width and the larger height
abbrev pub larger : SizeU16 → SizeU16 → SizeU16
larger a b = size (max a.width b.width) (max a.height b.height)
