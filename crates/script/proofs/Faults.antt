-- When a line is faulty.
use Rattle.std.proofs.Common.{◌≡◌, ℕ, Bool, true, false, not, ◌&&◌, eqb, List, [], ◌∷◌, length, is_some, Some, None, Option, sym, ap, ◌∙◌, ⊎_elim}
use Rattle.std.proofs.lemmas.Bool.{both_ways}
use Rattle.text.specs.Readers.{Line}
use Rattle.text.specs.Words.{words_of}
use Rattle.calls.specs.declared.entry.Entry.{Entry}
use Rattle.calls.specs.declared.head.Head.{Head}
use Rattle.calls.specs.declared.head.Head.TheVariants as head
use Rattle.calls.specs.Calls.{Draws, Begins, PassedOver, SaysAll}
use Rattle.calls.specs.Heads.{head_of, SaysHead, SaysBy}
use Rattle.calls.proofs.Meanings.{entry-says}
use Rattle.script.specs.Readings.{LineFaulty}
use Rattle.script.specs.Sheets.{View, allowed}

module _ {D : Type 0} (draws : Draws D) (begins : Begins draws) (v : View D) where
  -- whether an entry may stand there is seen from its line's first word
  abbrev allowed_by : Head → Bool
  allowed_by head.Kind = not v.begun
  allowed_by head.Strip = eqb (length v.lines) 0
  allowed_by head.Places = eqb (length v.lines) 0 && not (is_some v.places)
  allowed_by (head.Call verb) = true

  allowed-by : (h : Head) (words rest : Line) (e : Entry D) → SaysHead draws h words e rest → allowed v e ≡ allowed_by h
  allowed-by head.Kind words rest e (a, by, is) = ap (allowed v) is
  allowed-by head.Strip words rest e (a, by, is) = ap (allowed v) is
  allowed-by head.Places words rest e (a, by, is) = ap (allowed v) is
  allowed-by (head.Call verb) words rest e (a, by, is) = ap (allowed v) is

  allowed-head : (h : Option Head) (words : Line) (e d : Entry D) → SaysBy draws h words e → SaysBy draws h words d → allowed v e ≡ allowed v d
  allowed-head None words e d says said = absurd says
  allowed-head (Some h) words e d says said = allowed-by h words [] e says ∙ sym (allowed-by h words [] d said)

  -- and so is the same of all that a line may say
  pub allowed_same : (words : Line) (e d : Entry D) → SaysAll draws words e → SaysAll draws words d → allowed v e ≡ allowed v d
  allowed_same [] e d says said = absurd says
  allowed_same (word ∷ words) e d says said =
      allowed-head (head_of word) words e d (entry-says draws word words begins e says.1) (entry-says draws word words begins d said.1)

  not-over : (words : Line) (e : Entry D) → SaysAll draws words e → PassedOver words → ⊥
  not-over [] e says over = says
  not-over (word ∷ words) e says over = says.0 over

  -- a line is faulty that says what may not stand there
  pub disallowed : (number : ℕ) (line : List ℕ) (e : Entry D) → SaysAll draws (words_of line) e → allowed v e ≡ false → LineFaulty draws v number line
  disallowed number line e says refused w leads =
      ⊎_elim (λ over. not-over (words_of line) e says over.0) (λ other. both_ways (allowed v e) refused (allowed_same (words_of line) e other.0 says other.1 ∙ other.2)) leads.1
