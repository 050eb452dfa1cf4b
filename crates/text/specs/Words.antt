-- The words of a line.
use Rattle.std.specs.Prelude.{ℕ, Bool, not, ◌||◌, List, length, filter, ◌==◌}
use Rattle.std.specs.List.{slice_split}

-- a space or a tab
abbrev pub blank : ℕ → Bool
blank c = c == 32 || c == 9

-- whether a part of a line is a word, which has a byte
abbrev pub written : List ℕ → Bool
written part = not (length part == 0)

-- what stands between blanks
abbrev pub words_of : List ℕ → List (List ℕ)
words_of line = filter written (slice_split blank line)
