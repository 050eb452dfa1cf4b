-- The refusals, by number and in words, and what it means that a call answers its questions.
use Rattle.std.specs.Prelude.{◌≡◌, ℕ, Bool, cond, List, [], ◌∷◌, Some, None, codes, Option, Result, MatchResult}
use Rattle.refusal.specs.declared.Refusal.{Refusal}
use Rattle.refusal.specs.declared.Refusal.TheVariants.{FillPastEdge, ScenePastEdge, NoPlaceForDraw, TooManyLayers, OpacityOutOfRange, ClipOffTile, ShiftOffTile, NoLayerOpen, FilterPastEdge, LayerOpen, NoPlaceInList, NoSuchSurface, TileOutOfRange, DrawsMissing}

-- the number of a refusal
abbrev pub number_of : Refusal → ℕ
number_of FillPastEdge = 1
number_of ScenePastEdge = 2
number_of NoPlaceForDraw = 3
number_of TooManyLayers = 4
number_of OpacityOutOfRange = 5
number_of ClipOffTile = 6
number_of ShiftOffTile = 7
number_of NoLayerOpen = 8
number_of FilterPastEdge = 9
number_of LayerOpen = 10
number_of NoPlaceInList = 11
number_of NoSuchSurface = 12
number_of TileOutOfRange = 13
number_of DrawsMissing = 14

-- a refusal in words
abbrev pub sentence_of : Refusal → List ℕ
sentence_of FillPastEdge = codes "a high edge of the fill is above 65532"
sentence_of ScenePastEdge = codes "the scene is wider or higher than 65532"
sentence_of NoPlaceForDraw = codes "there is no place for one more draw"
sentence_of TooManyLayers = codes "256 layers are recorded already"
sentence_of OpacityOutOfRange = codes "the opacity is not a number from 0 to 1"
sentence_of ClipOffTile = codes "an edge of the clip box is not on a tile's edge"
sentence_of ShiftOffTile = codes "the filter's left or top source padding is not a multiple of 4"
sentence_of NoLayerOpen = codes "no layer is open"
sentence_of FilterPastEdge = codes "the filter layer with its padding passes 65532"
sentence_of LayerOpen = codes "a layer is still open"
sentence_of NoPlaceInList = codes "the output list has too few places"
sentence_of NoSuchSurface = codes "the surface is not the scene or a filter layer"
sentence_of TileOutOfRange = codes "the tile's column or row is above 16382"
sentence_of DrawsMissing = codes "the draw list is shorter than the recording"

-- a call's question, answered, with the number of the refusal where the answer is no
abbrev pub Question : Type 0
Question = Bool × ℕ

-- the number of the first question that is answered with no
abbrev pub first_no : List Question → Option ℕ
first_no [] = None
first_no (q ∷ questions) = cond q.0 (first_no questions) (Some q.1)

-- The call was accepted exactly when each question is answered with yes, and what is accepted then holds;
-- else it was refused with the number of the first no, and what is unaltered is so.
abbrev pub Answers : {A : Type 0} → List Question → Result A Refusal → (A → Type 0) → Type 0 → Type 0
Answers questions r Accepted Unaltered =
    MatchResult r (λ a. (first_no questions ≡ None) × Accepted a) (λ e. (first_no questions ≡ Some (number_of e)) × Unaltered)
