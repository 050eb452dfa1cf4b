-- A sheet as far as its script is read.
use Rattle.std.specs.Prelude.{ℕ, Bool, true, false, not, ◌&&◌, List, [], ◌∷◌, ◌++◌, length, is_some, Some, None, vec_items, count_by, Option, ◌==◌}
use Rattle.draws.specs.declared.strip.Strip.{Strip}
use Rattle.calls.specs.declared.entry.Entry.{Entry}
use Rattle.calls.specs.declared.entry.Entry.TheVariants as entry
use Rattle.calls.specs.Calls.{is_draw}
use Rattle.script.specs.declared.sheet.Line.{Line}
use Rattle.script.specs.declared.sheet.Sheet.{Sheet}

pub record View (D : Type 0) : Type 0 where
  pub strips : List Strip
  pub places : Option ℕ
  pub lines : List (Line D)
  pub begun : Bool

abbrev pub view_of : {D : Type 0} → Sheet D → View D
view_of sheet =
    record { strips = vec_items sheet.strips; places = sheet.places; lines = vec_items sheet.lines; begun = sheet.begun }

-- before the first line
abbrev pub start : {D : Type 0} → View D
start = record { strips = []; places = None; lines = []; begun = false }

-- whether an entry may stand there
abbrev pub allowed : {D : Type 0} → View D → Entry D → Bool
allowed v (entry.Kind kind) = not v.begun
allowed v (entry.Strip strip) = length v.lines == 0
allowed v (entry.Places places) = length v.lines == 0 && not (is_some v.places)
allowed v (entry.Call call) = true

-- one entry more, on the line of this number
abbrev pub added : {D : Type 0} → View D → ℕ → Entry D → View D
added v number (entry.Kind kind) = record { strips = v.strips; places = v.places; lines = v.lines; begun = true }
added v number (entry.Strip strip) =
    record { strips = v.strips ++ strip ∷ []; places = v.places; lines = v.lines; begun = true }
added v number (entry.Places places) =
    record { strips = v.strips; places = Some places; lines = v.lines; begun = true }
added v number (entry.Call call) =
    record { strips = v.strips; places = v.places; lines = v.lines ++ record { number = number; call = call } ∷ []; begun = true }

-- how many of the lines draw
abbrev pub draw_lines : {D : Type 0} → List (Line D) → ℕ
draw_lines lines = count_by (λ line. is_draw line.call) lines
