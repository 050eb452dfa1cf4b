-- How a design goes on by a call.
use Rattle.std.proofs.Common.{◌≡◌, Bool, List, Some, Ok, Err, is_ok, Option, Result}
use Rattle.std.specs.Prelude.{IsErr}
use Rattle.std.proofs.lemmas.Bool.{false≢true}
use Rattle.geometry.specs.declared.rect.RectU16.{RectU16}
use Rattle.refusal.specs.declared.Refusal.{Refusal}
use Rattle.draws.specs.declared.blend.BlendMode.{BlendMode}
use Rattle.draws.specs.declared.strip.Strip.{Strip}
use Rattle.draws.specs.declared.tagged.Tagged.{Tagged}
use Rattle.ledger.specs.declared.call.Call.{Call}
use Rattle.ledger.specs.declared.design.Design.{Design}
use Rattle.ledger.specs.Reached.{LeadsOn}
use Rattle.stage.specs.Calls.{Makes}

-- a refusal that is handed on
pub refused_leads : {D A B : Type 0} {box_of : D → List Strip → Option RectU16} {mode_of : D → Option BlendMode} {c : Call D} {x x' : Design D} (a : Result A Refusal) (b : Result B Refusal) {e : Refusal}
    → a ≡ Err e → IsErr b → LeadsOn box_of mode_of c (is_ok a) x x' → LeadsOn box_of mode_of c (is_ok b) x x'
refused_leads a (Ok b) e f w = absurd (false≢true f)
refused_leads a (Err b) e f w = rw e at w

-- a recording call that a line says
pub line_leads : {D : Type 0} {box_of : Tagged D → List Strip → Option RectU16} {mode_of : Tagged D → Option BlendMode} {c : Call (Tagged D)} {accepted : Bool} {x x' : Design (Tagged D)}
    (said : Option (Call (Tagged D))) → LeadsOn box_of mode_of c accepted x x' → said ≡ Some c → Makes box_of mode_of said x x'
line_leads said w e = rw e (_, w)
