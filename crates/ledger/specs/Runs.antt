-- What the rules make of a ledger, and what a call answers.
use Rattle.std.specs.Prelude.{◌≡◌, ℕ, List, [], ◌∷◌, Option, Result, ⊤}
use Rattle.refusal.specs.Refusals.{Question, Answers}
use Rattle.refusal.specs.declared.Refusal.{Refusal}
use Rattle.geometry.specs.declared.rect.RectU16.{RectU16}
use Rattle.draws.specs.declared.blend.BlendMode.{BlendMode}
use Rattle.record.specs.Account.{close_questions}
use Rattle.record.specs.Recording.{Recording, empty_recording, reset_questions, draw_questions, after_draw, open_questions, after_opening, after_closing, innermost_kind}
use Rattle.ledger.specs.declared.call.Answer.{Answer}
use Rattle.ledger.specs.declared.call.Answer.TheVariants as answer
use Rattle.ledger.specs.declared.call.Call.{Call}
use Rattle.ledger.specs.declared.call.Call.TheVariants as call
use Rattle.ledger.specs.Ledger.{Entry, Draw, Enter, Leave, Ledger, after}

-- what a call asks, with this many places in the draw list
abbrev pub questions : {D : Type 0} → Call D → ℕ → Recording → List Question
questions (call.Reset w h) places r = reset_questions w h
questions (call.Draw d) places r = draw_questions places r
questions (call.Open props f) places r = open_questions props f r
questions call.Close places r = close_questions r.account

-- an accepted call answers in its own way: a draw and an opening with the number, a closing with the kind
abbrev pub Fitting : {D : Type 0} → Call D → Recording → Answer → Type 0
Fitting (call.Reset w h) r a = a ≡ answer.Reset
Fitting (call.Draw d) r a = a ≡ answer.Drawn r.account.drawn
Fitting (call.Open props f) r a = a ≡ answer.Entered r.account.layers
Fitting call.Close r a = a ≡ answer.Left (innermost_kind r.account.opened)

-- the answer to a call: the first question that is answered with no decides
abbrev pub Answered : {D : Type 0} → Call D → ℕ → Recording → Result Answer Refusal → Type 0
Answered c places r a = Answers (questions c places r) a (Fitting c r) ⊤

module _ {D : Type 0} (box_of : D → Option RectU16) (mode_of : D → Option BlendMode) where
  -- what the rules make of one more entry
  abbrev pub after_entry : Entry D → Recording → Recording
  after_entry (Draw n d) r = after_draw (box_of d) (mode_of d) r
  after_entry (Enter n o) r = after_opening o.props o.filter r
  after_entry (Leave n) r = after_closing r

  -- and of one entry after another
  abbrev pub recorded_from : Recording → List (Entry D) → Recording
  recorded_from r [] = r
  recorded_from r (e ∷ es) = recorded_from (after_entry e r) es

  -- the recording that the rules give for a ledger
  abbrev pub recorded : Ledger D → Recording
  recorded b = recorded_from (empty_recording b.scene) b.entries

  -- each call was answered as the rules say of the ledger before it
  abbrev pub AllAnswered : ℕ → Ledger D → List (Call D) → List (Result Answer Refusal) → Type 0
  AllAnswered places b [] answers = ⊤
  AllAnswered places b (c ∷ cs) [] = ⊥
  AllAnswered places b (c ∷ cs) (a ∷ rest) = Answered c places (recorded b) a × AllAnswered places (after b c a) cs rest
