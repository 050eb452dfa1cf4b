-- What a line is about, by its first word, and how the words after it are read then.
use Rattle.std.specs.Prelude.{ℕ, List, [], ◌∷◌, Some, None, codes, Option}
use Rattle.parts.specs.Openings.{open_of}
use Rattle.parts.specs.Shapes.{strip_of, tile_of}
use Rattle.text.specs.Readers.{Line, Read, count_of, pair_of, By, Making}
use Rattle.calls.specs.declared.call.Call.{Call}
use Rattle.calls.specs.declared.call.Call.TheVariants as call
use Rattle.calls.specs.declared.draw_line.Kind.{Kind}
use Rattle.calls.specs.declared.draw_line.Kind.TheVariants as kind
use Rattle.calls.specs.declared.entry.Entry.{Entry}
use Rattle.calls.specs.declared.entry.Entry.TheVariants as entry
use Rattle.calls.specs.declared.head.Head.{Head}
use Rattle.calls.specs.declared.head.Head.TheVariants as head
use Rattle.calls.specs.declared.head.Verb.{Verb}
use Rattle.calls.specs.declared.head.Verb.TheVariants as verb
use Rattle.calls.specs.Calls.{Draws, room_of, tile_call_of, named, kind_of}

abbrev pub heads : List (List ℕ × Head)
heads =
    (codes "kind", head.Kind)
    ∷ (codes "strip", head.Strip)
    ∷ (codes "places", head.Places)
    ∷ (codes "reset", head.Call verb.Reset)
    ∷ (codes "fill", head.Call (verb.Draw kind.Fill))
    ∷ (codes "run", head.Call (verb.Draw kind.Run))
    ∷ (codes "open", head.Call verb.Open)
    ∷ (codes "close", head.Call verb.Close)
    ∷ (codes "walk", head.Call verb.Walk)
    ∷ (codes "report", head.Call verb.Report)
    ∷ []

abbrev pub head_of : List ℕ → Option Head
head_of word = named heads word

-- the word that begins a draw of this kind
abbrev pub kind_word : Kind → List ℕ
kind_word kind.Fill = codes "fill"
kind_word kind.Run = codes "run"

abbrev pub nothing_of : Line → Read (Unit {0})
nothing_of words = Some (tt, words)

-- the call that the words after the first say
abbrev pub SaysCall : {D : Type 0} → Draws D → Verb → Line → Call D → Line → Type 0
SaysCall draws verb.Reset before c after = Making (By pair_of) (λ size. call.Reset size.0 size.1) before c after
SaysCall draws (verb.Draw kind) before c after = Making (draws (kind_word kind)) call.Draw before c after
SaysCall draws verb.Open before c after = Making (By open_of) (λ opening. call.Open opening.0 opening.1) before c after
SaysCall draws verb.Close before c after = Making (By nothing_of) (λ _. call.Close) before c after
SaysCall draws verb.Walk before c after = Making (By room_of) call.Walk before c after
SaysCall draws verb.Tile before c after = Making (By tile_call_of) (λ t. call.Tile t.0 t.1 t.2) before c after
SaysCall draws verb.Hit before c after = Making (By tile_of) call.Hit before c after
SaysCall draws verb.Report before c after = Making (By nothing_of) (λ _. call.Report) before c after

-- whatever the words after the first say
abbrev pub SaysHead : {D : Type 0} → Draws D → Head → Line → Entry D → Line → Type 0
SaysHead draws head.Kind before e after = Making (By kind_of) entry.Kind before e after
SaysHead draws head.Strip before e after = Making (By strip_of) entry.Strip before e after
SaysHead draws head.Places before e after = Making (By count_of) entry.Places before e after
SaysHead draws (head.Call verb) before e after = Making (SaysCall draws verb) entry.Call before e after

-- all of the words after the first together say it
abbrev pub SaysBy : {D : Type 0} → Draws D → Option Head → Line → Entry D → Type 0
SaysBy draws None words e = ⊥
SaysBy draws (Some head) words e = SaysHead draws head words e []
