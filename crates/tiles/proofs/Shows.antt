-- What a tile shows of the layer or the draw at a place.
use Rattle.std.proofs.Common.{◌≡◌, ℕ, zero, suc, ◌<◌, ◌≤◌, Bool, false, List, [], ◌∷◌, length, get_or, Some, None, Option, MatchOption, sym, refl, ap, ◌∙◌, arith, Bor}
use Rattle.std.specs.Slice.{IsItemAt}
use Rattle.geometry.specs.declared.rect.RectU16.{RectU16}
use Rattle.geometry.specs.declared.tile.Tile.{Tile}
use Rattle.layers.specs.declared.layer.RecordedLayer.{RecordedLayer}
use Rattle.tiles.specs.declared.showing.Showing.{Showing}
use Rattle.tiles.specs.declared.showing.Showing.TheVariants.{Hidden}
use Rattle.tiles.specs.Tile.{showing, layer_shows, box_shows, draw_shows, filter_kind, filter_at}

-- a recursion down a list by a place, as what `get` answers has it
module _ {X Y : Type 0} (f : List X → ℕ → Y) (none : Y) (some : X → Y) (past : (i : ℕ) → f [] i ≡ none) (here : (x : X) (xs : List X) → f (x ∷ xs) zero ≡ some x) (next : (x : X) (xs : List X) (i : ℕ) → f (x ∷ xs) (suc i) ≡ f xs i) where
  pub get_past : (xs : List X) (i : ℕ) → length xs ≤ i → f xs i ≡ none
  get_past [] i h = past i
  get_past (x ∷ xs) zero h = absurd (omega arith)
  get_past (x ∷ xs) (suc i) h = next x xs i ∙ get_past xs i (omega arith)

  get_some : (xs : List X) (i : ℕ) (d : X) → i < length xs → f xs i ≡ some (get_or xs i d)
  get_some [] i d h = absurd (omega arith)
  get_some (x ∷ xs) zero d h = here x xs
  get_some (x ∷ xs) (suc i) d h = next x xs i ∙ get_some xs i d (omega arith)

  pub get_is : (xs : List X) (i : ℕ) (r : Option (Bor X)) (y : Y) → IsItemAt xs i r → MatchOption r (y ≡ none) (λ x. y ≡ some x.now) → y ≡ f xs i
  get_is xs i None y w h = h ∙ sym (get_past xs i w.3)
  get_is xs i (Some x) y w h = h ∙ ap some w.1 ∙ sym (get_some xs i x.now w.3.0)

pub filter_is : (layers : List RecordedLayer) (l : ℕ) (r : Option (Bor RecordedLayer)) (b : Bool) → IsItemAt layers l r → MatchOption r (b ≡ false) (λ x. b ≡ filter_kind x.now.kind) → b ≡ filter_at layers l
filter_is = get_is filter_at false (λ x. filter_kind x.kind) (λ i. refl) (λ x xs. refl) (λ x xs i. refl)

pub layer_is : (t : Tile) (layers : List RecordedLayer) (l : ℕ) (r : Option (Bor RecordedLayer)) (v : Showing) → IsItemAt layers l r → MatchOption r (v ≡ Hidden) (λ x. v ≡ showing t x.now) → v ≡ layer_shows t layers l
layer_is t = get_is (layer_shows t) Hidden (showing t) (λ i. refl) (λ x xs. refl) (λ x xs i. refl)

module _ {D : Type 0} (box : D → Option RectU16) (t : Tile) where
  pub draw-past : (ds : List D) (n : ℕ) → length ds ≤ n → draw_shows box t ds n ≡ false
  draw-past = get_past (draw_shows box t) false (λ d. box_shows t (box d)) (λ i. refl) (λ x xs. refl) (λ x xs i. refl)

  pub draw_is : (ds : List D) (n : ℕ) (r : Option (Bor D)) (b : Bool) → IsItemAt ds n r → MatchOption r (b ≡ false) (λ d. b ≡ box_shows t (box d.now)) → b ≡ draw_shows box t ds n
  draw_is = get_is (draw_shows box t) false (λ d. box_shows t (box d)) (λ i. refl) (λ x xs. refl) (λ x xs i. refl)
