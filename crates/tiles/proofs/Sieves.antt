-- What a tile shows of the entries of a full walk.
use Rattle.std.proofs.Common.{◌≡◌, ℕ, zero, suc, ◌+◌, ◌-◌, ◌≤◌, Bool, true, false, List, [], ◌∷◌, ◌++◌, length, sym, refl, ap, ◌∙◌, append_assoc, arith, length-append}
use Rattle.std.proofs.lemmas.List.{append-nil}
use Rattle.walk.specs.declared.listed.Listed.{Listed}
use Rattle.walk.specs.declared.listed.Listed.TheVariants.{Draw, Enter, Leave, Filter}
use Rattle.tiles.specs.declared.showing.Showing.{Showing}
use Rattle.tiles.specs.declared.showing.Showing.TheVariants.{Through, Placed, Hidden}
use Rattle.tiles.specs.Tile.{sift, drawing, entering, deeper}
use Rattle.tiles.specs.TileSteps.{picked, Blind, Sieved}
use Rattle.walk.specs.Walk.{spanned}
use Rattle.walk.proofs.Walks.{around}

pub blind-none : Blind []
blind-none seen shows out k rest = refl

pub blind-then : (xs ys : List Listed) → Blind xs → Blind ys → Blind (xs ++ ys)
blind-then xs ys p q seen shows out k rest = ap (λ z. sift seen shows out (suc k) z) (append_assoc xs ys rest) ∙ p seen shows out k (ys ++ rest) ∙ q seen shows out k rest

pub blind-draws : (a k : ℕ) → Blind (spanned a k)
blind-draws a zero = blind-none
blind-draws a (suc k) = blind-then (spanned a k) (Draw (a + k) ∷ []) (blind-draws a k) (λ seen shows out m rest. refl)

pub blind-layer : (l : ℕ) (inner : List Listed) → Blind inner → Blind (around l inner)
blind-layer l inner p seen shows out k rest = ap (λ z. sift seen shows out (suc (suc k)) z) (append_assoc inner (Leave l ∷ []) rest) ∙ p seen shows out (suc k) (Leave l ∷ rest)

length-drawing : (b : Bool) (n : ℕ) → length (drawing b n) ≤ 1
length-drawing true n = omega arith
length-drawing false n = omega arith

-- one draw more
module _ (seen : ℕ → Bool) (a n : ℕ) (h : a ≤ n) where
  picked_more : picked seen a (n + 1 - a) ≡ picked seen a (n - a) ++ drawing (seen n) n
  picked_more =
      let one : n + 1 - a ≡ suc (n - a) = omega arith in
      let at : a + (n - a) ≡ n = omega arith in
      rw (one, at)

  pub picked_shown : seen n ≡ true → picked seen a (n + 1 - a) ≡ picked seen a (n - a) ++ (Draw n ∷ [])
  picked_shown e = picked_more ∙ ap (λ z. picked seen a (n - a) ++ drawing z n) e

  pub picked_hidden : seen n ≡ false → picked seen a (n + 1 - a) ≡ picked seen a (n - a)
  picked_hidden e = picked_more ∙ ap (λ z. picked seen a (n - a) ++ drawing z n) e ∙ append-nil (picked seen a (n - a))

pub length-picked : (seen : ℕ → Bool) (a k : ℕ) → length (picked seen a k) ≤ k
length-picked seen a zero = omega arith
length-picked seen a (suc k) =
    let d = drawing (seen (a + k)) (a + k) in
    omega (arith, length-picked seen a k, length-append (picked seen a k) d, length-drawing (seen (a + k)) (a + k))

module _ (seen : ℕ → Bool) (shows : ℕ → Showing) where
  pub sieved-none : Sieved seen shows [] []
  sieved-none = record { kept = λ out rest. ap (λ z. sift seen shows z 0 rest) (sym (append-nil out)); less = omega arith }

  pub sieved-then : (xs ys xs' ys' : List Listed) → Sieved seen shows xs xs' → Sieved seen shows ys ys' → Sieved seen shows (xs ++ ys) (xs' ++ ys')
  sieved-then xs ys xs' ys' p q = record {
    kept = λ out rest.
        ap (λ z. sift seen shows out 0 z) (append_assoc xs ys rest)
        ∙ p.kept out (ys ++ rest)
        ∙ q.kept (out ++ xs') rest
        ∙ ap (λ z. sift seen shows z 0 rest) (append_assoc out xs' ys');
    less = omega (arith, p.less, q.less, length-append xs ys, length-append xs' ys');
  }

  pub sieved-draws : (a k : ℕ) → Sieved seen shows (spanned a k) (picked seen a k)
  sieved-draws a zero = sieved-none
  sieved-draws a (suc k) =
      sieved-then (spanned a k) (Draw (a + k) ∷ []) (picked seen a k) (drawing (seen (a + k)) (a + k)) (sieved-draws a k)
      (record { kept = λ out rest. refl; less = length-drawing (seen (a + k)) (a + k) })

  -- a layer that is entered
  pub sieved-through : (l : ℕ) (inner shown : List Listed) → shows l ≡ Through → Sieved seen shows inner shown → Sieved seen shows (around l inner) (around l shown)
  sieved-through l inner shown e p = record {
    kept = λ out rest.
        ap (λ z. sift seen shows (out ++ entering z l) (deeper z) ((inner ++ (Leave l ∷ [])) ++ rest)) e
        ∙ ap (λ z. sift seen shows (out ++ (Enter l ∷ [])) 0 z) (append_assoc inner (Leave l ∷ []) rest)
        ∙ p.kept (out ++ (Enter l ∷ [])) (Leave l ∷ rest)
        ∙ ap (λ z. sift seen shows z 0 rest) (simp append_assoc);
    less = omega (arith, p.less, length-append inner (Leave l ∷ []), length-append shown (Leave l ∷ []));
  }

  -- a layer that is passed over, with what stands in its place
  over : (l : ℕ) (inner rest out : List Listed) (v : Showing) → shows l ≡ v → deeper v ≡ 1 → Blind inner
      → sift seen shows out 0 (around l inner ++ rest) ≡ sift seen shows (out ++ entering v l) 0 rest
  over l inner rest out v e one p =
      ap (λ z. sift seen shows (out ++ entering z l) (deeper z) ((inner ++ (Leave l ∷ [])) ++ rest)) e
      ∙ ap (λ z. sift seen shows (out ++ entering v l) z ((inner ++ (Leave l ∷ [])) ++ rest)) one
      ∙ ap (λ z. sift seen shows (out ++ entering v l) 1 z) (append_assoc inner (Leave l ∷ []) rest)
      ∙ p seen shows (out ++ entering v l) 0 (Leave l ∷ rest)

  length-entering : (v : Showing) (l : ℕ) → length (entering v l) ≤ 1
  length-entering Through l = omega arith
  length-entering Placed l = omega arith
  length-entering Hidden l = omega arith

  pub sieved-over : (l : ℕ) (inner : List Listed) (v : Showing) → shows l ≡ v → deeper v ≡ 1 → Blind inner → Sieved seen shows (around l inner) (entering v l)
  sieved-over l inner v e one p = record {
    kept = λ out rest. over l inner rest out v e one p;
    less = omega (arith, length-entering v l);
  }

  -- what the tile shows of entries after which none come
  pub sieved-all : (whole shown : List Listed) → Sieved seen shows whole shown → sift seen shows [] 0 whole ≡ shown
  sieved-all whole shown p = ap (λ z. sift seen shows [] 0 z) (sym (append-nil whole)) ∙ p.kept [] []

  -- it shows no more entries than there are
  pub length-sift : (out : List Listed) (k : ℕ) (es : List Listed) → length (sift seen shows out k es) ≤ length out + length es
  length-sift out k [] = omega arith
  length-sift out zero (Draw n ∷ es) =
      let more = drawing (seen n) n in
      omega (arith, length-sift (out ++ more) 0 es, length-append out more, length-drawing (seen n) n)
  length-sift out zero (Enter l ∷ es) =
      let more = entering (shows l) l in
      omega (arith, length-sift (out ++ more) (deeper (shows l)) es, length-append out more, length-entering (shows l) l)
  length-sift out zero (Leave l ∷ es) = omega (arith, length-sift (out ++ (Leave l ∷ [])) 0 es, length-append out (Leave l ∷ []))
  length-sift out zero (Filter l ∷ es) = omega (arith, length-sift out 0 es)
  length-sift out (suc k) (Draw n ∷ es) = omega (arith, length-sift out (suc k) es)
  length-sift out (suc k) (Enter l ∷ es) = omega (arith, length-sift out (suc (suc k)) es)
  length-sift out (suc k) (Leave l ∷ es) = omega (arith, length-sift out k es)
  length-sift out (suc k) (Filter l ∷ es) = omega (arith, length-sift out (suc k) es)
