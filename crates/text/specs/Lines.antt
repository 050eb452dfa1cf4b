-- The lines of a script.
use Rattle.std.specs.Prelude.{ℕ, List}
use Rattle.std.specs.Str.Lines.{lines}

-- They end at an LF or a CR LF, as those of a text do.
abbrev pub lines_of : List ℕ → List (List ℕ)
lines_of script = lines script
