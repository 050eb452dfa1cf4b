-- The boxes of draws are of whole tiles.
use Rattle.std.specs.Prelude.{◌≡◌, ℕ, ◌+◌, ◌%◌, min, max, List, [], ◌∷◌, Some, None, Option, ◌==◌}
use Rattle.std.proofs.Common.{arith}
use Rattle.std.proofs.lemmas.Bool.{cond_both}
use Rattle.geometry.specs.declared.rect.RectU16.{RectU16}
use Rattle.geometry.specs.Rect.{rect, empty}
use Rattle.geometry.specs.Snap.{snapped, beyond}
use Rattle.draws.specs.declared.strip.Strip.{Strip}
use Rattle.draws.specs.Strips.{strip_box, joined_to, strips_box_from, BoxOnTiles}

pub snapped-on-tiles : (r : RectU16) → BoxOnTiles (snapped r)
snapped-on-tiles r =
    cond_both (empty r) _ _ BoxOnTiles (λ e. (omega arith, omega arith, omega arith, omega arith))
    (λ e. cond_both (beyond r) _ _ BoxOnTiles (λ _. tt) (λ _. (omega arith, omega arith, omega arith, omega arith)))

strip-on-tiles : (s : Strip) → BoxOnTiles (strip_box s)
strip-on-tiles s = cond_both (s.width == 0) _ _ BoxOnTiles (λ _. tt) (λ _. snapped-on-tiles (rect s.x s.y (s.x + s.width) (s.y + 4)))

smaller-whole : (a b : ℕ) → a % 4 ≡ 0 → b % 4 ≡ 0 → min a b % 4 ≡ 0
smaller-whole a b p q = omega arith

larger-whole : (a b : ℕ) → a % 4 ≡ 0 → b % 4 ≡ 0 → max a b % 4 ≡ 0
larger-whole a b p q = omega arith

joined-on-tiles : (a b : Option RectU16) → BoxOnTiles a → BoxOnTiles b → BoxOnTiles (joined_to a b)
joined-on-tiles None b p q = q
joined-on-tiles (Some a) None p q = p
joined-on-tiles (Some a) (Some b) p q = (
  smaller-whole a.x0 b.x0 p.0 q.0,
  smaller-whole a.y0 b.y0 p.1 q.1,
  larger-whole a.x1 b.x1 p.2 q.2,
  larger-whole a.y1 b.y1 p.3 q.3,
)

pub strips-on-tiles : (b : Option RectU16) (strips : List Strip) → BoxOnTiles b → BoxOnTiles (strips_box_from b strips)
strips-on-tiles b [] h = h
strips-on-tiles b (s ∷ strips) h = strips-on-tiles (joined_to b (strip_box s)) strips (joined-on-tiles b (strip_box s) h (strip-on-tiles s))
