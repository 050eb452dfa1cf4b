-- What a reading keeps from line to line.
use Rattle.std.proofs.Common.{◌≡◌, ℕ, ◌+◌, List, ◌∷◌, subst, inl, inr}
use Rattle.script.specs.declared.fault.Unread.{Unread}
use Rattle.script.specs.declared.fault.Unread.TheVariants.{Faulty, NoMemory}
use Rattle.calls.specs.Calls.{Draws}
use Rattle.script.specs.Readings.{LineLeads, Leads, FirstFault, StopsAt, Stopped}
use Rattle.script.specs.Sheets.{View, start}

-- v is what the first n lines led to, and the lines `rest` are to come: whatever they lead to, or
-- whichever of them is faulty, the same holds of the whole script
pub record SoFar {D : Type 0} (draws : Draws D) (lines : List (List ℕ)) (v : View D) (n : ℕ) (rest : List (List ℕ)) : Type 0 where
  pub leads : (w : View D) → Leads draws v n rest w → Leads draws start 0 lines w
  pub faults : (k : ℕ) → FirstFault draws v n rest k → FirstFault draws start 0 lines k

module _ {D : Type 0} (draws : Draws D) (lines : List (List ℕ)) where
  pub so_far_more : (v u : View D) (n : ℕ) (line : List ℕ) (rest more : List (List ℕ)) → rest ≡ line ∷ more → SoFar draws lines v n rest → LineLeads draws v (n + 1) line u → SoFar draws lines u (n + 1) more
  so_far_more v u n line rest more e so one =
      let here : SoFar draws lines v n (line ∷ more) = subst (SoFar draws lines v n) e so in
      record { leads = λ w h. here.leads w (u, one, h); faults = λ k h. here.faults k (inr (u, one, h)) }

  pub stopped-at : (v : View D) (n : ℕ) (line : List ℕ) (rest more : List (List ℕ)) → rest ≡ line ∷ more → SoFar draws lines v n rest → (unread : Unread) → StopsAt draws v (n + 1) line unread → Stopped draws lines unread
  stopped-at v n line rest more e so (Faulty fault) at =
      let here : SoFar draws lines v n (line ∷ more) = subst (SoFar draws lines v n) e so in
      here.faults fault.line (inl at)
  stopped-at v n line rest more e so NoMemory at = tt
