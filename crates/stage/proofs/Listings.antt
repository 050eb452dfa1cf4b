-- How many entries a tile list has, and which draws stand in it.
use Rattle.std.proofs.Common.{◌≡◌, ℕ, zero, suc, ◌<◌, ◌≤◌, min, Bool, true, false, eqb, leb, ◌⊎◌, List, [], ◌∷◌, ◌++◌, length, get_or, drop, IfSome, Some, Ok, Err, Option, Result, Vec, vec_items, sym, refl, ap, ◌∙◌, inl, inr, ⊎_elim, arith}
use Rattle.std.specs.Prelude.{⊤}
use Rattle.std.proofs.lemmas.List.{get_or_default}
use Rattle.std.proofs.lemmas.Option.{MatchOption-at_some}
use Rattle.std.specs.declared.alloc.Global.{Global}
use lib.Seq.{take-append_seam}
use Rattle.std.proofs.lemmas.Bool.{false≢true, eqb-true, le-leb, lt-leb, cases_lt, cases_Bool, or_cases, or_right}
use Rattle.geometry.specs.declared.rect.RectU16.{RectU16}
use Rattle.geometry.specs.declared.tile.Tile.{Tile}
use Rattle.draws.specs.declared.strip.Strip.{Strip}
use Rattle.draws.specs.declared.tagged.Tagged.{Tagged}
use Rattle.refusal.specs.declared.Refusal.{Refusal}
use Rattle.refusal.specs.Refusals.{Question, first_no, number_of, Answers}
use Rattle.record.specs.Account.{at_root}
use Rattle.record.specs.Recording.{Recording}
use Rattle.walk.specs.declared.listed.Listed.{Listed}
use Rattle.walk.specs.declared.listed.Listed.TheVariants.{Draw, Enter, Leave, Filter}
use Rattle.tiles.specs.declared.showing.Showing.{Showing}
use Rattle.tiles.specs.declared.showing.Showing.TheVariants.{Through, Placed, Hidden}
use Rattle.tiles.specs.declared.surface.Surface.{Surface}
use Rattle.tiles.specs.declared.surface.Surface.TheVariants.{Scene}
use Rattle.walk.specs.FullWalk.{listed, entry_count, walk_questions}
use Rattle.tiles.specs.Tile.{draw_shows, drawing, entering, deeper, sift, inside, layer_shows, tile_listed, surface_questions, tile_questions, draw_listed}
use Rattle.ledger.specs.declared.design.Design.{Design}
use Rattle.ledger.specs.Reached.{box_in, tile_listed_in}
use Rattle.stage.specs.Lists.{Kept}
use Rattle.tiles.proofs.Shows.{draw-past}
use Rattle.tiles.proofs.Surfaces.{tile_few}

-- so that more places than those of a full walk are as good as these
pub room-enough : (n most room places : ℕ) → n ≤ most → places ≡ min most room → leb n places ≡ leb n room
room-enough n most room places few is =
    ⊎_elim (λ lt. lt-leb n places (omega arith) ∙ sym (lt-leb n room lt)) (λ le. le-leb n places (omega arith) ∙ sym (le-leb n room le)) (cases_lt room n)

-- a full walk asks the same of a list of enough places as of one with more
pub walk-asked : (v : Recording) (room places : ℕ) → places ≡ min (entry_count v) room → first_no (walk_questions v places) ≡ first_no (walk_questions v room)
walk-asked v room places is =
    ap (λ b. first_no ((at_root v.account.opened, 10) ∷ (b, 11) ∷ [])) (room-enough (entry_count v) (entry_count v) room places (omega arith) is)

-- and so does a tile walk
pub tile-asked : (v : Recording) (s : Surface) (t : Tile) (seen : ℕ → Bool) (long room places : ℕ) → length (listed v) ≡ entry_count v → places ≡ min (entry_count v) room
    → first_no (tile_questions s t seen v long places) ≡ first_no (tile_questions s t seen v long room)
tile-asked v s t seen long room places all is =
    ap (λ b. first_no (surface_questions s t v long ++ ((b, 11) ∷ []))) (room-enough (length (tile_listed s t seen v)) (entry_count v) room places (tile_few v s t seen all) is)

-- What is kept of a list is what the walk lists, where the walk asked the questions q of it, and P of the count that it answers says that it wrote the list.
pub kept-list : (q q' : List Question) (list given left : List Listed) (P : ℕ → Type 0) (U : Type 0) (answer : Result ℕ Refusal) (kept : Result (Vec Listed Global) Refusal)
    → first_no q ≡ first_no q' → ((n : ℕ) → P n → (n ≡ length list) × (left ≡ list ++ drop n given)) → Answers q answer P U → Kept answer left kept
    → Answers q' kept (λ entries. vec_items entries ≡ list) ⊤
kept-list q q' list given left P U (Ok n) (Ok es) same wrote h k =
    let w = wrote n h.1 in
    (sym same ∙ h.0, k ∙ rw (w.1, w.0) (take-append_seam list _))
kept-list q q' list given left P U (Ok n) (Err e) same wrote h k = absurd k
kept-list q q' list given left P U (Err f) (Ok es) same wrote h k = absurd k
kept-list q q' list given left P U (Err f) (Err e) same wrote h k = (sym same ∙ h.0 ∙ ap (λ x. Some (number_of x)) (sym k), tt)

-- a draw stands among entries that are put together only where it stands in one of the parts
listed-either : (n : ℕ) (xs ys : List Listed) → draw_listed n (xs ++ ys) ≡ true → (draw_listed n xs ≡ true) ⊎ (draw_listed n ys ≡ true)
listed-either n [] ys h = inr h
listed-either n (Draw m ∷ xs) ys h =
    ⊎_elim (λ e. inl (rw e refl)) (λ e. ⊎_elim (λ a. inl (or_right (eqb m n) (draw_listed n xs) a)) inr (listed-either n xs ys e)) (or_cases (eqb m n) (draw_listed n (xs ++ ys)) h)
listed-either n (Enter l ∷ xs) ys h = listed-either n xs ys h
listed-either n (Leave l ∷ xs) ys h = listed-either n xs ys h
listed-either n (Filter l ∷ xs) ys h = listed-either n xs ys h

entered-none : (s : Showing) (l n : ℕ) → draw_listed n (entering s l) ≡ true → ⊥
entered-none Through l n h = false≢true h
entered-none Placed l n h = false≢true h
entered-none Hidden l n h = false≢true h

module _ (seen : ℕ → Bool) (shows : ℕ → Showing) where
  -- a draw's entry is there only where it is seen
  drawn-seen : (m n : ℕ) → draw_listed n (drawing (seen m) m) ≡ true → seen n ≡ true
  drawn-seen m n h =
      ⊎_elim (λ yes. ⊎_elim (λ e. ap seen (sym (eqb-true m n e)) ∙ yes) (λ no. absurd (false≢true no)) (or_cases (eqb m n) false (rw yes at h))) (λ no. absurd (false≢true (rw no at h))) (cases_Bool (seen m))

  -- a draw that is listed is seen
  listed-seen : (n : ℕ) (out : List Listed) (k : ℕ) (es : List Listed) → draw_listed n (sift seen shows out k es) ≡ true → (draw_listed n out ≡ true) ⊎ (seen n ≡ true)
  listed-seen n out k [] h = inl h
  listed-seen n out zero (Draw m ∷ es) h =
      ⊎_elim (λ a. ⊎_elim inl (λ b. inr (drawn-seen m n b)) (listed-either n out (drawing (seen m) m) a)) inr (listed-seen n (out ++ drawing (seen m) m) 0 es h)
  listed-seen n out zero (Enter l ∷ es) h =
      ⊎_elim (λ a. ⊎_elim inl (λ b. absurd (entered-none (shows l) l n b)) (listed-either n out (entering (shows l) l) a)) inr (listed-seen n (out ++ entering (shows l) l) (deeper (shows l)) es h)
  listed-seen n out zero (Leave l ∷ es) h =
      ⊎_elim (λ a. ⊎_elim inl (λ b. absurd (false≢true b)) (listed-either n out (Leave l ∷ []) a)) inr (listed-seen n (out ++ (Leave l ∷ [])) 0 es h)
  listed-seen n out zero (Filter l ∷ es) h = listed-seen n out 0 es h
  listed-seen n out (suc k) (Draw m ∷ es) h = listed-seen n out (suc k) es h
  listed-seen n out (suc k) (Enter l ∷ es) h = listed-seen n out (suc (suc k)) es h
  listed-seen n out (suc k) (Leave l ∷ es) h = listed-seen n out k es h
  listed-seen n out (suc k) (Filter l ∷ es) h = listed-seen n out (suc k) es h

-- a draw of a tile list stands in the draw list
pub hit-within : {D : Type 0} (box : D → Option RectU16) (s : Surface) (t : Tile) (draws : List D) (r : Recording) (n : ℕ) → draw_listed n (tile_listed s t (draw_shows box t draws) r) ≡ true → n < length draws
hit-within box s t draws r n h =
    let seen : draw_shows box t draws n ≡ true = ⊎_elim (λ e. absurd (false≢true e)) (λ e. e) (listed-seen (draw_shows box t draws) (layer_shows t r.tree.layers) n [] 0 (inside s (listed r)) h) in
    ⊎_elim (λ lt. lt) (λ le. absurd (false≢true (sym (draw-past box t draws n le) ∙ seen))) (cases_lt n (length draws))

-- and so does the draw that a hit answers, in the slice of the list that is lent
pub hit_place : {D : Type 0} (box_of : D → List Strip → Option RectU16) (x : Design D) (t : Tile) {slice : List D} {h : Option ℕ} {n : ℕ}
    → h ≡ Some n → IfSome h (λ i. draw_listed i (tile_listed_in box_of x Scene t) ≡ true) → slice ≡ vec_items x.draws → n < length slice
hit_place box_of x t {n = n} is shown same =
    rw same (hit-within (box_in box_of x) Scene t (vec_items x.draws) x.recorder n (MatchOption-at_some _ _ _ is shown))

-- the line of a draw in the list is the same whatever stands past the end of the slice that is lent
pub line_at : {D : Type 0} (slice draws : List (Tagged D)) (n : ℕ) (x : Tagged D) → slice ≡ draws → n < length slice → (d : Tagged D) → (get_or draws n d).line ≡ (get_or slice n x).line
line_at slice draws n x same lt d = rw (← same) (ap (λ (y : Tagged _). y.line) (get_or_default slice n d x lt))
