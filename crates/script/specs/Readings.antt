-- A whole script, read line by line.
use Rattle.std.specs.Prelude.{◌≡◌, ℕ, ◌+◌, ◌^◌, ◌<◌, true, ◌⊎◌, List, [], ◌∷◌, Some, None, codes, IsUtf8, Option}
use Rattle.text.specs.Readers.{Line, Read, following}
use Rattle.text.specs.Words.{words_of}
use Rattle.calls.specs.declared.draw_line.Kind.{Kind}
use Rattle.calls.specs.declared.draw_line.Kind.TheVariants as kind
use Rattle.calls.specs.declared.entry.Entry.{Entry}
use Rattle.calls.specs.Calls.{Draws, FillWords, RunWords, kind_of, PassedOver, SaysAll}
use Rattle.script.specs.declared.fault.Unread.{Unread}
use Rattle.script.specs.declared.fault.Unread.TheVariants.{Faulty, NoMemory}
use Rattle.script.specs.declared.script.Script.{Script}
use Rattle.script.specs.declared.script.Script.TheVariants.{Fills, Runs}
use Rattle.script.specs.Sheets.{View, view_of, start, allowed, added}

-- a line is passed over, or it says an entry that may stand there, on a line whose number has 32 bits, and that is added
abbrev pub LineLeads : {D : Type 0} → Draws D → View D → ℕ → List ℕ → View D → Type 0
LineLeads draws v number line w =
    IsUtf8 line × ((PassedOver (words_of line) × (w ≡ v)) ⊎ ((e : Entry _) × SaysAll draws (words_of line) e × (allowed v e ≡ true) × (number < 2 ^ 32) × (w ≡ added v number e)))

-- a line is faulty that leads nowhere
abbrev pub LineFaulty : {D : Type 0} → Draws D → View D → ℕ → List ℕ → Type 0
LineFaulty {D = D} draws v number line = (w : View D) → LineLeads draws v number line w → ⊥

-- the lines after the first n lead from one view to another, each by its number
abbrev pub Leads : {D : Type 0} → Draws D → View D → ℕ → List (List ℕ) → View D → Type 0
Leads draws v n [] w = v ≡ w
Leads draws v n (line ∷ lines) w = (u : View _) × LineLeads draws v (n + 1) line u × Leads draws u (n + 1) lines w

-- the line of number k is the first that is faulty: those before it lead to it
abbrev pub FirstFault : {D : Type 0} → Draws D → View D → ℕ → List (List ℕ) → ℕ → Type 0
FirstFault draws v n [] k = ⊥
FirstFault draws v n (line ∷ lines) k =
    ((k ≡ n + 1) × LineFaulty draws v (n + 1) line) ⊎ ((u : View _) × LineLeads draws v (n + 1) line u × FirstFault draws u (n + 1) lines k)

-- a fault of this line, or no fault at all
abbrev pub FaultOf : ℕ → Unread → Type 0
FaultOf number (Faulty fault) = fault.line ≡ number
FaultOf number NoMemory = Unit {0}

-- the same, and a line that is named as faulty is so
abbrev pub StopsAt : {D : Type 0} → Draws D → View D → ℕ → List ℕ → Unread → Type 0
StopsAt draws v number line (Faulty fault) = FaultOf number (Faulty fault) × LineFaulty draws v number line
StopsAt draws v number line NoMemory = FaultOf number NoMemory

-- the line that is named as faulty is so, and none before it
abbrev pub Stopped : {D : Type 0} → Draws D → List (List ℕ) → Unread → Type 0
Stopped draws lines (Faulty fault) = FirstFault draws start 0 lines fault.line
Stopped draws lines NoMemory = Unit {0}

-- the kind of a sheet whose first line with a meaning has these words
abbrev pub kind_or : Read Kind → Kind
kind_or None = kind.Fill
kind_or (Some p) = p.0

abbrev pub head_kind_after : Option Line → Kind
head_kind_after None = kind.Fill
head_kind_after (Some rest) = kind_or (kind_of rest)

abbrev pub head_kind : Line → Kind
head_kind words = head_kind_after (following (codes "kind") words)

-- the first line that is not passed over gives the kind, or else it is that of fills
abbrev pub GivesKind : List (List ℕ) → Kind → Type 0
GivesKind [] k = k ≡ kind.Fill
GivesKind (line ∷ lines) k = (PassedOver (words_of line) × GivesKind lines k) ⊎ (IsUtf8 line → k ≡ head_kind (words_of line))

-- the lines give the kind of the sheet, and lead to it
abbrev pub Whole : List (List ℕ) → Script → Type 0
Whole lines (Fills sheet) = GivesKind lines kind.Fill × Leads FillWords start 0 lines (view_of sheet)
Whole lines (Runs sheet) = GivesKind lines kind.Run × Leads RunWords start 0 lines (view_of sheet)

abbrev pub Failed : List (List ℕ) → Unread → Type 0
Failed lines unread =
    (GivesKind lines kind.Fill × Stopped FillWords lines unread) ⊎ (GivesKind lines kind.Run × Stopped RunWords lines unread)
