-- What calls made one by one lead to, and what walks then list, said of the ledger.
use Rattle.std.proofs.Common.{◌≡◌, ℕ, ◌+◌, ◌*◌, Bool, true, false, cond, leb, List, [], ◌∷◌, ◌++◌, length, drop, is_ok, is_none, is_some, IfSome, Some, None, Ok, Err, Option, Result, sym, refl, ap, ◌∙◌, subst, ap₂, arith, length-append}
use Rattle.refusal.specs.Refusals.{Question, first_no, Answers}
use Rattle.refusal.specs.declared.Refusal.{Refusal}
use Rattle.geometry.specs.declared.rect.RectU16.{RectU16}
use Rattle.geometry.specs.declared.tile.Tile.{Tile}
use Rattle.geometry.specs.Size.{size}
use Rattle.draws.specs.declared.blend.BlendMode.{BlendMode}
use Rattle.record.specs.Account.{at_root}
use Rattle.record.specs.Recording.{Recording}
use Rattle.walk.specs.declared.listed.Listed.{Listed}
use Rattle.tiles.specs.declared.surface.Surface.{Surface}
use Rattle.tiles.specs.declared.surface.Surface.TheVariants as surfaces
use Rattle.walk.specs.FullWalk.{FullWalk, entry_count, walk_questions}
use Rattle.tiles.specs.Tile.{draw_shows, is_surface, tile_fits, tile_listed, tile_questions, TileWalk, hit_questions, draw_listed, any_draw}
use Rattle.ledger.specs.declared.call.Answer.{Answer}
use Rattle.ledger.specs.declared.call.Call.{Call}
use Rattle.ledger.specs.Runs.{questions, Answered}
use Rattle.ledger.specs.Ledger.{Entry, Leave, Ledger, draws_in, layers_in, opened, numbers}
use Rattle.ledger.specs.Draft.{sheet_of}
use Rattle.ledger.specs.Laws.{Led, LedAlways}
use Rattle.ledger.specs.Reached.{Reaches, begun, called, ListsAll, hit_asks, tile_asks, ListsTile, HitsListed, HitsAny}
use Rattle.ledger.specs.Recorded.{none}
use Rattle.ledger.specs.Sheet.{Sheet, end, draw, layer, entries}
use Rattle.ledger.specs.Tiles.{surface_in, tile_list}
use Rattle.ledger.proofs.Keeps.{Keeps, keeps-none, keeps-made, keeps-led, keeps-always, root_none, surface-is}

-- a contract with other questions, whose first no is the same
pub answers-as : {A : Type 0} (r : Result A Refusal) (q q' : List Question) (P P' : A → Type 0) (U : Type 0) → first_no q ≡ first_no q' → ((a : A) → first_no q ≡ None → P a → P' a) → Answers q r P U → Answers q' r P' U
answers-as (Ok a) q q' P P' U e f w = (sym e ∙ w.0, f a w.0 w.1)
answers-as (Err x) q q' P P' U e f w = (sym e ∙ w.0, w.1)

-- a call is accepted exactly where each question is answered with yes
pub accepted-is : {D : Type 0} (c : Call D) (places : ℕ) (v : Recording) (a : Result Answer Refusal) → Answered c places v a → is_ok a ≡ is_none (first_no (questions c places v))
accepted-is c places v (Ok a) h = rw h.0
accepted-is c places v (Err e) h = rw h.0

none_is : (s : List ℕ) → none s ≡ true → s ≡ []
none_is [] e = refl
none_is (l ∷ s) e = absurd (cc)

-- the first question was answered with yes
first-yes : (a : Bool) (n : ℕ) (x : Option ℕ) → cond a x (Some n) ≡ None → a ≡ true
first-yes true n x e = refl
first-yes false n x e = absurd (cc)

-- what follows a question matters only where that is answered with yes
cond-if : {A : Type 0} (b : Bool) (x y z : A) → (b ≡ true → x ≡ y) → cond b x z ≡ cond b y z
cond-if true x y z f = f refl
cond-if false x y z f = refl

module _ {D : Type 0} where
  draws-append : (es fs : List (Entry D)) → draws_in (es ++ fs) ≡ draws_in es + draws_in fs
  draws-append [] fs = omega arith
  draws-append (e ∷ es) fs = let p = draws-append es fs in omega arith

  layers-append : (es fs : List (Entry D)) → layers_in (es ++ fs) ≡ layers_in es + layers_in fs
  layers-append [] fs = omega arith
  layers-append (e ∷ es) fs = let p = layers-append es fs in omega arith

  -- a sheet has one entry for each draw and two for each layer
  length-entries : (x : Sheet D) → length (entries x) ≡ draws_in (entries x) + 2 * layers_in (entries x)
  length-entries end = refl
  length-entries (draw n d rest) = let p = length-entries rest in omega arith
  length-entries (layer n o inside rest) =
      let p = length-entries inside in
      let q = length-entries rest in
      let l = length-append (entries inside) (Leave n ∷ entries rest) in
      let d = draws-append (entries inside) (Leave n ∷ entries rest) in
      let y = layers-append (entries inside) (Leave n ∷ entries rest) in
      omega arith

  module _ (box_of : D → Option RectU16) (mode_of : D → Option BlendMode) where
    pub reaches-keeps : {b : Ledger D} {v : Recording} {ds : List D} → Reaches box_of mode_of b v ds → Keeps box_of mode_of b.scene b.entries v ds
    reaches-keeps (begun ds) = keeps-none box_of mode_of (size 0 0) ds
    reaches-keeps (called c a b v v' ds ds' m w) = keeps-made box_of mode_of c a b v v' ds ds' m (reaches-keeps w)

    pub reaches-always : (b : Ledger D) (v : Recording) (ds : List D) → Reaches box_of mode_of b v ds → LedAlways box_of mode_of b v ds
    reaches-always b v ds w = keeps-always box_of mode_of b v ds (reaches-keeps w)

    pub reaches-led : (b : Ledger D) (v : Recording) (ds : List D) → Reaches box_of mode_of b v ds → Led box_of mode_of b v ds
    reaches-led b v ds w = keeps-led box_of mode_of b v ds (reaches-keeps w)

    module _ (b : Ledger D) (v : Recording) (ds : List D) (w : Reaches box_of mode_of b v ds) where
      root_is : at_root v.account.opened ≡ none (opened b.entries)
      root_is = sym (root_none box_of mode_of v.account.opened) ∙ ap none (sym (reaches-keeps w).unclosed)

      on-surface : (s : Surface) → is_surface s v.tree.layers ≡ surface_in s b.entries
      on-surface s = surface-is box_of mode_of b v ds (reaches-keeps w) s

      count-is : none (opened b.entries) ≡ true → entry_count v ≡ length b.entries
      count-is e =
          let k = reaches-keeps w in
          let whole = (reaches-always b v ds w).whole (none_is (opened b.entries) e) in
          let n = ap length whole in
          let d = ap draws_in whole in
          let y = ap layers_in whole in
          omega (arith, length-entries (sheet_of b.entries), n, d, y, k.draws, k.layers)

      pub lists-all : (r : Result ℕ Refusal) (out out' : List Listed) → Answers (walk_questions v (length out)) r (λ n. FullWalk v n out out') (out' ≡ out) → ListsAll b r out out'
      lists-all r out out' h =
          let es = b.entries in
          let room = λ (n : ℕ). first_no ((leb n (length out), 11) ∷ []) in
          let q : List Question = (none (opened es), 10) ∷ (leb (length es) (length out), 11) ∷ [] in
          let same : first_no (walk_questions v (length out)) ≡ first_no q = ap (λ z. cond z (room (entry_count v)) (Some 10)) root_is ∙ cond-if (none (opened es)) (room (entry_count v)) (room (length es)) (Some 10) (λ e. ap room (count-is e)) in
          answers-as r (walk_questions v (length out)) q (λ n. FullWalk v n out out') (λ n. (n ≡ length es) × (out' ≡ numbers es ++ drop n out)) (out' ≡ out) same
          (λ n asked f.
          let root : none (opened es) ≡ true = sym root_is ∙ first-yes (at_root v.account.opened) 10 (room (entry_count v)) asked in
          (f.count ∙ count-is root, f.written ∙ ap (λ z. z ++ drop n out) ((reaches-always b v ds w).walk (none_is (opened es) root))))
          h

      tile-is : (s : Surface) (t : Tile) → none (opened b.entries) ≡ true → surface_in s b.entries ≡ true → tile_listed s t (draw_shows box_of t ds) v ≡ tile_list box_of s t (sheet_of b.entries)
      tile-is s t e i = (reaches-always b v ds w).tiles (none_is (opened b.entries) e) s t i

      drawn-is : v.account.drawn ≡ draws_in b.entries
      drawn-is = sym (reaches-keeps w).draws

      pub lists-tile : (s : Surface) (t : Tile) (places : ℕ) (r : Result ℕ Refusal) (out out' : List Listed)
          → Answers (tile_questions s t (draw_shows box_of t ds) v places (length out)) r (λ n. TileWalk s t (draw_shows box_of t ds) v n out out') (out' ≡ out) → ListsTile box_of s t b places r out out'
      lists-tile s t places r out out' h =
          let es = b.entries in
          let list = tile_listed s t (draw_shows box_of t ds) v in
          let given = tile_list box_of s t (sheet_of es) in
          let tail = λ (d n : ℕ). first_no ((tile_fits t, 13) ∷ (leb d places, 14) ∷ (leb n (length out), 11) ∷ []) in
          let behind = λ (on : Bool) (d n : ℕ). cond on (tail d n) (Some 12) in
          let same : first_no (tile_questions s t (draw_shows box_of t ds) v places (length out)) ≡ first_no (tile_asks s t b places (length given) (length out))
          = ap₂ (λ z y. cond z (behind y v.account.drawn (length list)) (Some 10)) root_is (on-surface s)
          ∙ ap (λ d. cond (none (opened es)) (behind (surface_in s es) d (length list)) (Some 10)) drawn-is
          ∙ cond-if (none (opened es)) (behind (surface_in s es) (draws_in es) (length list)) (behind (surface_in s es) (draws_in es) (length given)) (Some 10)
          (λ e. cond-if (surface_in s es) (tail (draws_in es) (length list)) (tail (draws_in es) (length given)) (Some 12) (λ i. ap (λ z. tail (draws_in es) (length z)) (tile-is s t e i))) in
          answers-as r (tile_questions s t (draw_shows box_of t ds) v places (length out)) (tile_asks s t b places (length given) (length out)) (λ n. TileWalk s t (draw_shows box_of t ds) v n out out') (λ n. (n ≡ length given) × (out' ≡ given ++ drop n out)) (out' ≡ out) same
          (λ n asked f.
          let rest = behind (is_surface s v.tree.layers) v.account.drawn (length list) in
          let first : at_root v.account.opened ≡ true = first-yes (at_root v.account.opened) 10 rest asked in
          let root : none (opened es) ≡ true = sym root_is ∙ first in
          let then : rest ≡ None = subst (λ z. cond z rest (Some 10) ≡ None) first asked in
          let on : surface_in s es ≡ true = sym (on-surface s) ∙ first-yes (is_surface s v.tree.layers) 12 (tail v.account.drawn (length list)) then in
          let e = tile-is s t root on in
          (f.count ∙ ap length e, f.written ∙ ap (λ z. z ++ drop n out) e))
          h

      -- for any promise about the scene's list
      hit-as : (t : Tile) (places : ℕ) (r : Result (Option ℕ) Refusal) (P : Option ℕ → List Listed → Type 0)
          → Answers (hit_questions t v places) r (λ h. P h (tile_listed surfaces.Scene t (draw_shows box_of t ds) v)) (Unit {0}) → Answers (hit_asks t b places) r (λ h. P h (tile_list box_of surfaces.Scene t (sheet_of b.entries))) (Unit {0})
      hit-as t places r P h =
          let es = b.entries in
          let tail = λ (d : ℕ). first_no ((tile_fits t, 13) ∷ (leb d places, 14) ∷ []) in
          let same : first_no (hit_questions t v places) ≡ first_no (hit_asks t b places) = ap₂ (λ z d. cond z (tail d) (Some 10)) root_is drawn-is in
          answers-as r (hit_questions t v places) (hit_asks t b places) (λ o. P o (tile_listed surfaces.Scene t (draw_shows box_of t ds) v)) (λ o. P o (tile_list box_of surfaces.Scene t (sheet_of es))) (Unit {0}) same
          (λ o asked p. subst (P o) (tile-is surfaces.Scene t (sym root_is ∙ first-yes (at_root v.account.opened) 10 (tail v.account.drawn) asked) refl) p)
          h

      pub hits-listed : (t : Tile) (places : ℕ) (r : Result (Option ℕ) Refusal)
          → Answers (hit_questions t v places) r (λ h. IfSome h (λ n. draw_listed n (tile_listed surfaces.Scene t (draw_shows box_of t ds) v) ≡ true)) (Unit {0}) → HitsListed box_of t b places r
      hits-listed t places r h = hit-as t places r (λ o list. IfSome o (λ n. draw_listed n list ≡ true)) h

      pub hits-any : (t : Tile) (places : ℕ) (r : Result (Option ℕ) Refusal)
          → Answers (hit_questions t v places) r (λ h. is_some h ≡ any_draw (tile_listed surfaces.Scene t (draw_shows box_of t ds) v)) (Unit {0}) → HitsAny box_of t b places r
      hits-any t places r h = hit-as t places r (λ o list. is_some o ≡ any_draw list) h
