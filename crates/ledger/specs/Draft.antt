-- A ledger with its nesting at any time: the layers that are still open, and what each of them has so far.
use Rattle.std.specs.Prelude.{ℕ, List, [], ◌∷◌, ◌++◌, Option}
use Rattle.geometry.specs.declared.rect.RectU16.{RectU16}
use Rattle.layers.specs.declared.layer.RecordedLayer.{RecordedLayer}
use Rattle.ledger.specs.Ledger.{Opening, Entry, Draw, Enter, Leave}
use Rattle.ledger.specs.Sheet.{Sheet, end, draw, layer, joined, entries, PlacedByRecord}

-- an open layer: what stands before it in the layer around it, its number and its arguments
pub data Frame (D : Type 0) : Type 0 where
  frame : Sheet D → ℕ → Opening → Frame D

-- the nesting of a ledger at any time
pub record Draft (D : Type 0) : Type 0 where
  -- the open layers, innermost first
  pub frames : List (Frame D)
  -- what the innermost has so far, or the scene where no layer is open
  pub sheet : Sheet D

module _ {D : Type 0} where
  -- the innermost layer is closed: it stands, with its inside, behind what was before it
  abbrev pub shut : List (Frame D) → Sheet D → Draft D
  shut [] x = record { frames = []; sheet = x }
  shut (frame before n o ∷ fs) x = record { frames = fs; sheet = joined before (layer n o x end) }

  -- one more entry
  abbrev pub stepped : Draft D → Entry D → Draft D
  stepped w (Draw n d) = record { frames = w.frames; sheet = joined w.sheet (draw n d end) }
  stepped w (Enter n o) = record { frames = frame w.sheet n o ∷ w.frames; sheet = end }
  stepped w (Leave n) = shut w.frames w.sheet

  -- the draft w after more entries
  abbrev pub draft_from : Draft D → List (Entry D) → Draft D
  draft_from w [] = w
  draft_from w (e ∷ es) = draft_from (stepped w e) es

  -- the nesting of the entries
  abbrev pub draft_of : List (Entry D) → Draft D
  draft_of es = draft_from (record { frames = []; sheet = end }) es

  -- what stands in the scene, with no layer open
  abbrev pub sheet_of : List (Entry D) → Sheet D
  sheet_of es = (draft_of es).sheet

  -- the entries in order
  abbrev pub flat : List (Frame D) → Sheet D → List (Entry D)
  flat [] x = entries x
  flat (frame before n o ∷ fs) x = flat fs before ++ (Enter n o ∷ entries x)

  -- the same of a draft
  abbrev pub entries_of : Draft D → List (Entry D)
  entries_of w = flat w.frames w.sheet

  -- every filter layer that is closed, with contents, lies where it should, by its record in the table
  abbrev pub AllPlaced : (D → Option RectU16) → List RecordedLayer → List (Frame D) → Sheet D → Type 0
  AllPlaced box_of table [] x = PlacedByRecord box_of table x
  AllPlaced box_of table (frame before n o ∷ fs) x = PlacedByRecord box_of table x × AllPlaced box_of table fs before
