-- Which lines of a script record, and what.
use Rattle.std.specs.Prelude.{◌≡◌, ℕ, Bool, List, Some, None, Ok, Err, Option}
use Rattle.geometry.specs.declared.rect.RectU16.{RectU16}
use Rattle.draws.specs.declared.blend.BlendMode.{BlendMode}
use Rattle.draws.specs.declared.strip.Strip.{Strip}
use Rattle.draws.specs.declared.tagged.Tagged.{Tagged}
use Rattle.ledger.specs.declared.call.Call.{Call}
use Rattle.ledger.specs.declared.call.Call.TheVariants as made
use Rattle.ledger.specs.declared.design.Design.{Design}
use Rattle.ledger.specs.Reached.{LeadsOn}
use Rattle.calls.specs.declared.call.Call.{Call as Written}
use Rattle.calls.specs.declared.call.Call.TheVariants as written
use Rattle.script.specs.declared.sheet.Line.{Line}

-- the recording call that a line of this number writes; a draw carries the number
abbrev pub call_of : {D : Type 0} → ℕ → Written D → Option (Call (Tagged D))
call_of n (written.Reset w h) = Some (made.Reset w h)
call_of n (written.Draw (Ok d)) = Some (made.Draw (record { draw = d; line = n }))
call_of n (written.Draw (Err e)) = None
call_of n (written.Open props filter) = Some (made.Open props filter)
call_of n written.Close = Some made.Close
call_of n (written.Walk room) = None
call_of n (written.Tile surface tile room) = None
call_of n (written.Hit tile) = None
call_of n written.Report = None

abbrev pub recording_call : {D : Type 0} → Line D → Option (Call (Tagged D))
recording_call line = call_of line.number line.call

-- the design went on by the recording call that a line says, accepted or refused as the call's questions are answered; else it stayed
abbrev pub Makes : {D : Type 0} → (Tagged D → List Strip → Option RectU16) → (Tagged D → Option BlendMode) → Option (Call (Tagged D)) → Design (Tagged D) → Design (Tagged D) → Type 0
Makes box_of mode_of None x x' = x' ≡ x
Makes box_of mode_of (Some c) x x' = (accepted : Bool) × LeadsOn box_of mode_of c accepted x x'
