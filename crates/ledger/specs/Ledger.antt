-- The ledger of a run: what was accepted, in order, by the calls' arguments and which of them were accepted alone.
use Rattle.std.specs.Prelude.{ℕ, ◌+◌, if◌then◌else◌, List, [], ◌∷◌, ◌++◌, map, is_ok, Option, Result}
use Rattle.geometry.specs.declared.size.SizeU16.{SizeU16}
use Rattle.geometry.specs.Size.{size}
use Rattle.filter.specs.declared.data.FilterData.{FilterData}
use Rattle.layers.specs.declared.props.LayerProps.{LayerProps}
use Rattle.record.specs.Account.{scene_of}
use Rattle.refusal.specs.declared.Refusal.{Refusal}
use Rattle.walk.specs.declared.listed.Listed.{Listed}
use Rattle.walk.specs.declared.listed.Listed.TheVariants as listed
use Rattle.ledger.specs.declared.call.Call.{Call}
use Rattle.ledger.specs.declared.call.Call.TheVariants as call

-- the arguments of an opening
pub record Opening : Type 0 where
  pub props : LayerProps
  pub filter : Option FilterData

-- one accepted call; draws and layers are numbered apart, each from 0
pub data Entry (D : Type 0) : Type 0 where
  Draw : ℕ → D → Entry D
  Enter : ℕ → Opening → Entry D
  Leave : ℕ → Entry D

-- what was accepted since the latest reset, and the scene that it set
pub record Ledger (D : Type 0) : Type 0 where
  pub scene : SizeU16
  pub entries : List (Entry D)

-- 1 for a draw, 0 for any other entry
abbrev pub is_draw : {D : Type 0} → Entry D → ℕ
is_draw (Draw n d) = 1
is_draw (Enter n o) = 0
is_draw (Leave n) = 0

-- 1 for an opening, 0 for any other entry
abbrev pub is_enter : {D : Type 0} → Entry D → ℕ
is_enter (Draw n d) = 0
is_enter (Enter n o) = 1
is_enter (Leave n) = 0

-- how many draws there are
abbrev pub draws_in : {D : Type 0} → List (Entry D) → ℕ
draws_in [] = 0
draws_in (e ∷ es) = is_draw e + draws_in es

-- how many layers were opened
abbrev pub layers_in : {D : Type 0} → List (Entry D) → ℕ
layers_in [] = 0
layers_in (e ∷ es) = is_enter e + layers_in es

-- without the latest
abbrev pub without : List ℕ → List ℕ
without [] = []
without (l ∷ s) = s

-- the open layers, the latest first, after one more entry
abbrev pub open_step : {D : Type 0} → List ℕ → Entry D → List ℕ
open_step s (Draw n d) = s
open_step s (Enter n o) = n ∷ s
open_step s (Leave n) = without s

-- and after a list of entries
abbrev pub open_from : {D : Type 0} → List ℕ → List (Entry D) → List ℕ
open_from s [] = s
open_from s (e ∷ es) = open_from (open_step s e) es

-- the layers with an Enter and no Leave, the latest first
abbrev pub opened : {D : Type 0} → List (Entry D) → List ℕ
opened es = open_from [] es

-- a Leave of the latest Enter that has none yet
abbrev pub closed : {D : Type 0} → List (Entry D) → List ℕ → List (Entry D)
closed es [] = es
closed es (l ∷ s) = es ++ (Leave l ∷ [])

-- the ledger with one more accepted call
abbrev pub noted : {D : Type 0} → Ledger D → Call D → Ledger D
noted b (call.Reset w h) = record { scene = scene_of w h; entries = [] }
noted b (call.Draw d) = record { scene = b.scene; entries = b.entries ++ (Draw (draws_in b.entries) d ∷ []) }
noted b (call.Open props f) = record { scene = b.scene; entries = b.entries ++ (Enter (layers_in b.entries) (record { props = props; filter = f }) ∷ []) }
noted b call.Close = record { scene = b.scene; entries = closed b.entries (opened b.entries) }

-- the ledger after one more call, whatever an accepted one answered; a refused one adds nothing
abbrev pub after : {D A : Type 0} → Ledger D → Call D → Result A Refusal → Ledger D
after b c a = if is_ok a then noted b c else b

-- nothing accepted, and a scene of no size
abbrev pub empty : {D : Type 0} → Ledger D
empty = record { scene = size 0 0; entries = [] }

-- the ledger b after the calls as they were answered
abbrev pub ledger_from : {D A : Type 0} → Ledger D → List (Call D) → List (Result A Refusal) → Ledger D
ledger_from b [] answers = b
ledger_from b (c ∷ cs) [] = b
ledger_from b (c ∷ cs) (a ∷ rest) = ledger_from (after b c a) cs rest

-- the ledger of the calls as they were answered
abbrev pub ledger : {D A : Type 0} → List (Call D) → List (Result A Refusal) → Ledger D
ledger cs answers = ledger_from empty cs answers

-- an entry as a walk lists it
abbrev pub number : {D : Type 0} → Entry D → Listed
number (Draw n d) = listed.Draw n
number (Enter n o) = listed.Enter n
number (Leave n) = listed.Leave n

-- entries as a walk lists them
abbrev pub numbers : {D : Type 0} → List (Entry D) → List Listed
numbers es = map number es
