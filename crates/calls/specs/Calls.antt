-- Which words say which call, and what a line says.
use Rattle.std.specs.Option.{option_map}
use Rattle.std.specs.Str.{bytes_eq}
use Rattle.std.specs.Prelude.{◌≡◌, ℕ, Bool, true, false, cond, ◌⊎◌, List, [], ◌∷◌, Some, None, Ok, codes, IsUtf8, Option, Result, MatchOption, MatchResult, ◌≢◌, slice_index}
use Rattle.geometry.specs.declared.rect.RectU16.{RectU16}
use Rattle.geometry.specs.declared.tile.Tile.{Tile}
use Rattle.refusal.specs.Refusals.{Answers}
use Rattle.refusal.specs.declared.Refusal.{Refusal}
use Rattle.draws.specs.Fits.{fits}
use Rattle.draws.specs.declared.blend.BlendMode.{BlendMode}
use Rattle.draws.specs.declared.fill.Fill.{Fill}
use Rattle.draws.specs.declared.run.Run.{Run}
use Rattle.parts.specs.Openings.{open_of}
use Rattle.parts.specs.Shapes.{strip_of, rect_of, tile_of, mode_of}
use Rattle.text.specs.Readers.{Line, Read, and_then, count_of, both, pair_of, range_of, following, optional}
use Rattle.text.specs.Words.{words_of}
use Rattle.tiles.specs.declared.surface.Surface.{Surface}
use Rattle.tiles.specs.declared.surface.Surface.TheVariants.{Scene, Layer}
use Rattle.calls.specs.declared.call.Call.{Call}
use Rattle.calls.specs.declared.call.Call.TheVariants as call
use Rattle.calls.specs.declared.call.Call.TheVariants.{Reset, Draw, Open, Close, Walk, Report}
use Rattle.calls.specs.declared.draw_line.Kind.{Kind}
use Rattle.calls.specs.declared.draw_line.Kind.TheVariants as kind
use Rattle.calls.specs.declared.entry.Entry.{Entry}
use Rattle.calls.specs.declared.entry.Entry.TheVariants as entry

abbrev pub is_draw : {D : Type 0} → Call D → Bool
is_draw (Reset width height) = false
is_draw (Draw draw) = true
is_draw (Open props filter) = false
is_draw Close = false
is_draw (Walk room) = false
is_draw (call.Tile surface tile room) = false
is_draw (call.Hit tile) = false
is_draw Report = false

abbrev pub size_of : Line → Read (ℕ × ℕ)
size_of words = pair_of words

-- a draw that the words after the first word may say, with what they leave
abbrev pub Draws : Type 0 → Type 1
Draws D = List ℕ → Line → Result D Refusal → Line → Type 0

-- no other word than those of the kinds of draw begins a line that says a draw
abbrev pub Begins : {D : Type 0} → Draws D → Type 0
Begins {D = D} draws =
    (word : List ℕ) (before : Line) (draw : Result D Refusal) (after : Line) → draws word before draw after → (word ≡ codes "fill") ⊎ (word ≡ codes "run")

abbrev pub fill_of : Line → Read (RectU16 × Option BlendMode)
fill_of words = both rect_of mode_of words

abbrev pub FillWords : Draws Fill
FillWords word before draw after =
    (word ≡ codes "fill") × ((rect : RectU16) × (mode : Option BlendMode) × (fill_of before ≡ Some ((rect, mode), after)) × Answers ((fits rect, 1) ∷ []) draw (λ f. (f.rect ≡ rect) × (f.blend_mode ≡ mode)) (Unit {0}))

abbrev pub run_of : Line → Read Run
run_of words = and_then (range_of words) (λ r words. Some (record { start = r.0; end = r.1 }, words))

abbrev pub RunWords : Draws Run
RunWords word before draw after = (word ≡ codes "run") × ((run : Run) × (run_of before ≡ Some (run, after)) × (draw ≡ Ok run))

abbrev pub room_of : Line → Read (Option ℕ)
room_of words = optional (codes "room") count_of words

-- `scene`, or the number of a layer
abbrev pub surface_after : Option Line → Line → Read Surface
surface_after (Some rest) words = Some (Scene, rest)
surface_after None words = and_then (count_of words) (λ number words. Some (Layer number, words))

abbrev pub surface_of : Line → Read Surface
surface_of words = surface_after (following (codes "scene") words) words

abbrev pub tile_call_of : Line → Read (Surface × Tile × Option ℕ)
tile_call_of words =
    and_then (surface_of words) (λ surface words. and_then (tile_of words) (λ tile words. and_then (room_of words) (λ room words. Some ((surface, tile, room), words))))

-- The first word and those before say the call, and those after are left. No line says a tile walk or a hit yet.
abbrev pub Says : {D : Type 0} → Draws D → List ℕ → Line → Call D → Line → Type 0
Says draws word before (Reset width height) after = (word ≡ codes "reset") × (size_of before ≡ Some ((width, height), after))
Says draws word before (Draw draw) after = draws word before draw after
Says draws word before (Open props filter) after =
    (word ≡ codes "open") × (open_of before ≡ Some ((props, filter), after))
Says draws word before Close after = (word ≡ codes "close") × (before ≡ after)
Says draws word before (Walk room) after = (word ≡ codes "walk") × (room_of before ≡ Some (room, after))
Says draws word before (call.Tile surface tile room) after = ⊥
Says draws word before (call.Hit tile) after = ⊥
Says draws word before Report after = (word ≡ codes "report") × (before ≡ after)

-- what stands beside a word in a table
abbrev pub named : {A : Type 0} → List (List ℕ × A) → List ℕ → Option A
named [] word = None
named (row ∷ table) word = cond (bytes_eq word row.0) (Some row.1) (named table word)

abbrev pub kinds : List (List ℕ × Kind)
kinds = (codes "fill", kind.Fill) ∷ (codes "run", kind.Run) ∷ []

abbrev pub kind_of : Line → Read Kind
kind_of [] = None
kind_of (word ∷ words) = option_map (λ kind. (kind, words)) (named kinds word)

-- the same of whatever a line can say
abbrev pub SaysEntry : {D : Type 0} → Draws D → List ℕ → Line → Entry D → Line → Type 0
SaysEntry draws word before (entry.Kind k) after = (word ≡ codes "kind") × (kind_of before ≡ Some (k, after))
SaysEntry draws word before (entry.Strip strip) after = (word ≡ codes "strip") × (strip_of before ≡ Some (strip, after))
SaysEntry draws word before (entry.Places places) after = (word ≡ codes "places") × (count_of before ≡ Some (places, after))
SaysEntry draws word before (entry.Call call) after = Says draws word before call after

-- a line without a word, or whose first word begins with #, is passed over
abbrev pub PassedOver : Line → Type 0
PassedOver [] = Unit {0}
PassedOver (word ∷ words) = slice_index word 0 ≡ 35

-- all words of the line together say the entry
abbrev pub SaysAll : {D : Type 0} → Draws D → Line → Entry D → Type 0
SaysAll draws [] entry = ⊥
SaysAll draws (word ∷ words) entry = (slice_index word 0 ≢ 35) × SaysEntry draws word words entry []

-- where the line is text at all, it is not passed over, and says no entry
abbrev pub SaysNothing : {D : Type 0} → Draws D → List ℕ → Type 0
SaysNothing {D = D} draws line =
    IsUtf8 line → (PassedOver (words_of line) → ⊥) × ((e : Entry D) → SaysAll draws (words_of line) e → ⊥)

-- what a line was read as, or nothing where it is passed over; and where there is no answer it says nothing
abbrev pub ReadsLine : {D E : Type 0} → Draws D → List ℕ → Result (Option (Entry D)) E → Type 0
ReadsLine draws line r =
    MatchResult r (λ said. IsUtf8 line × MatchOption said (PassedOver (words_of line)) (SaysAll draws (words_of line))) (λ _. SaysNothing draws line)
