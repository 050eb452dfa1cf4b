-- Sheets one after another, in the open layers.
use Rattle.std.proofs.Common.{◌≡◌, ℕ, suc, ◌+◌, List, [], ◌∷◌, ◌++◌, length, Some, None, Option, sym, refl, ap, ◌∙◌, subst, append_assoc, arith, length-append}
use Rattle.geometry.specs.declared.rect.RectU16.{RectU16}
use Rattle.layers.specs.Closing.{put, take_in}
use Rattle.layers.specs.Records.{recorded_open}
use Rattle.record.specs.Tree.{change_at}
use Rattle.ledger.specs.Ledger.{Draw, Enter, Leave}
use Rattle.ledger.specs.Sheet.{Sheet, end, draw, layer, joined, entries, closed_as, contents_from, contents, layer_record, records, closings}
use Rattle.ledger.specs.Draft.{Frame, frame, flat}
use Rattle.ledger.specs.Recorded.{open_with, open_layers_of, records_of, closings_of}

module _ {D : Type 0} where
  entries-joined : (s x : Sheet D) → entries (joined s x) ≡ entries s ++ entries x
  unfolding joined
  entries-joined end x = refl
  entries-joined (draw n d rest) x = ap (λ z. Draw n d ∷ z) (entries-joined rest x)
  entries-joined (layer n o inside rest) x =
      ap (λ z. Enter n o ∷ (entries inside ++ (Leave n ∷ z))) (entries-joined rest x)
      ∙ ap (λ z. Enter n o ∷ z) (sym (append_assoc (entries inside) (Leave n ∷ entries rest) (entries x)))

  pub flat-push : (fs : List (Frame D)) (s x : Sheet D) → flat fs (joined s x) ≡ flat fs s ++ entries x
  flat-push [] s x = entries-joined s x
  flat-push (frame before n o ∷ fs) s x =
      ap (λ z. flat fs before ++ (Enter n o ∷ z)) (entries-joined s x) ∙ sym (append_assoc (flat fs before) (Enter n o ∷ entries s) (entries x))

  module _ (box_of : D → Option RectU16) where
    pub contents-joined : (c : Option RectU16) (s x : Sheet D) → contents_from box_of c (joined s x) ≡ contents_from box_of (contents_from box_of c s) x
    unfolding joined
    contents-joined c end x = refl
    contents-joined c (draw n d rest) x = contents-joined (put (box_of d) c) rest x
    contents-joined c (layer n o inside rest) x = contents-joined (put (Some (closed_as o (contents_from box_of None inside)).in_parent) c) rest x

    records-joined : (depth : ℕ) (s x : Sheet D) → records box_of depth (joined s x) ≡ records box_of depth s ++ records box_of depth x
    unfolding joined
    records-joined depth end x = refl
    records-joined depth (draw n d rest) x = records-joined depth rest x
    records-joined depth (layer n o inside rest) x =
        ap (λ z. layer_record box_of depth o inside ∷ (records box_of (depth + 1) inside ++ z)) (records-joined depth rest x)
        ∙ ap (λ z. layer_record box_of depth o inside ∷ z) (sym (append_assoc (records box_of (depth + 1) inside) (records box_of depth rest) (records box_of depth x)))

    pub records-push : (fs : List (Frame D)) (s x : Sheet D) → records_of box_of fs (joined s x) ≡ records_of box_of fs s ++ records box_of (length fs + 1) x
    records-push [] s x = records-joined 1 s x
    records-push (frame before n o ∷ fs) s x =
        let d = length fs + 1 + 1 in
        let e : length (frame before n o ∷ fs) + 1 ≡ d = omega arith in
        ap (λ z. records_of box_of fs before ++ (recorded_open o.props o.filter (length fs + 1) ∷ z)) (records-joined d s x)
        ∙ sym (append_assoc (records_of box_of fs before) (recorded_open o.props o.filter (length fs + 1) ∷ records box_of d s) (records box_of d x))
        ∙ ap (λ k. records_of box_of (frame before n o ∷ fs) s ++ records box_of k x) (sym e)

    -- the innermost layer takes in a box, and its sheet grows by what has that box
    pub take_open : (b : Option RectU16) (fs : List (Frame D)) (x y : Sheet D) → contents box_of y ≡ put b (contents box_of x) → take_in b (open_layers_of box_of fs x) ≡ open_layers_of box_of fs y
    take_open b [] x y e = refl
    take_open b (frame before n o ∷ fs) x y e = ap (λ c. open_with n o c ∷ open_layers_of box_of fs before) (sym e)

    pub length-open : (fs : List (Frame D)) (x : Sheet D) → length (open_layers_of box_of fs x) ≡ length fs
    length-open [] x = refl
    length-open (frame before n o ∷ fs) x = ap suc (length-open fs before)

    pub closings-joined : (s x : Sheet D) → closings box_of (joined s x) ≡ closings box_of s ++ closings box_of x
    unfolding joined
    closings-joined end x = refl
    closings-joined (draw n d rest) x = closings-joined rest x
    closings-joined (layer n o inside rest) x =
        ap (λ z. closings box_of inside ++ (closed_as o (contents box_of inside) ∷ z)) (closings-joined rest x)
        ∙ sym (append_assoc (closings box_of inside) (closed_as o (contents box_of inside) ∷ closings box_of rest) (closings box_of x))

    pub closings-push : (fs : List (Frame D)) (s x : Sheet D) → closings_of box_of fs (joined s x) ≡ closings_of box_of fs s ++ closings box_of x
    closings-push [] s x = closings-joined s x
    closings-push (frame before n o ∷ fs) s x =
        ap (λ z. closings_of box_of fs before ++ z) (closings-joined s x) ∙ sym (append_assoc (closings_of box_of fs before) (closings box_of s) (closings box_of x))

    -- each open layer's number is how many layers were opened before it
    abbrev pub Counts : List (Frame D) → Type 0
    Counts [] = Unit {0}
    Counts (frame before n o ∷ fs) = (n ≡ length (records_of box_of fs before)) × Counts fs

-- the layers of a sheet are numbered in the order of their opening
module _ {D : Type 0} where
  abbrev pub size : Sheet D → ℕ
  size end = 0
  size (draw n d rest) = size rest
  size (layer n o inside rest) = suc (size inside + size rest)

  abbrev pub Ordered : ℕ → Sheet D → Type 0
  Ordered k end = Unit {0}
  Ordered k (draw n d rest) = Ordered k rest
  Ordered k (layer n o inside rest) = (n ≡ k) × (Ordered (suc k) inside × Ordered (suc (k + size inside)) rest)

  ordered_at : {j k : ℕ} (x : Sheet D) → j ≡ k → Ordered j x → Ordered k x
  ordered_at x e w = subst (λ i. Ordered i x) e w

  ordered-joined : (k : ℕ) (s x : Sheet D) → Ordered k s → Ordered (k + size s) x → Ordered k (joined s x)
  unfolding joined
  ordered-joined k end x w v = ordered_at x (omega arith) v
  ordered-joined k (draw n d rest) x w v = ordered-joined k rest x w v
  ordered-joined k (layer n o inside rest) x w v = (w.0, (w.1.0, ordered-joined (suc (k + size inside)) rest x w.1.1 (ordered_at x (omega arith) v)))

  -- the number of the first layer inside the innermost frame
  abbrev pub base : List (Frame D) → ℕ
  base [] = 0
  base (frame before n o ∷ fs) = suc n

  abbrev pub AllOrdered : List (Frame D) → Sheet D → Type 0
  AllOrdered [] x = Ordered 0 x
  AllOrdered (frame before n o ∷ fs) x = Ordered (suc n) x × AllOrdered fs before

  pub all-ordered-joined : (fs : List (Frame D)) (s x : Sheet D) → AllOrdered fs s → Ordered (base fs + size s) x → AllOrdered fs (joined s x)
  all-ordered-joined [] s x w v = ordered-joined 0 s x w v
  all-ordered-joined (frame before n o ∷ fs) s x w v = (ordered-joined (suc n) s x w.0 v, w.1)

  pub length-records : (box_of : D → Option RectU16) (depth : ℕ) (x : Sheet D) → length (records box_of depth x) ≡ size x
  length-records box_of depth end = refl
  length-records box_of depth (draw n d rest) = length-records box_of depth rest
  length-records box_of depth (layer n o inside rest) =
      let a = length-append (records box_of (depth + 1) inside) (records box_of depth rest) in
      let b = length-records box_of (depth + 1) inside in
      let c = length-records box_of depth rest in
      omega arith

  pub length-flat : (box_of : D → Option RectU16) (fs : List (Frame D)) (x : Sheet D) → Counts box_of fs → length (records_of box_of fs x) ≡ base fs + size x
  length-flat box_of [] x c = length-records box_of 1 x ∙ omega arith
  length-flat box_of (frame before n o ∷ fs) x c =
      let a = length-append (records_of box_of fs before) (recorded_open o.props o.filter (length fs + 1) ∷ records box_of (length fs + 1 + 1) x) in
      let b = length-records box_of (length fs + 1 + 1) x in
      let d = c.0 in
      omega arith

-- the record at the place behind the first ones, changed
pub change-behind : {X : Type 0} (f : X → X) (xs : List X) (y : X) (ys : List X) → change_at f (length xs) (xs ++ (y ∷ ys)) ≡ xs ++ (f y ∷ ys)
change-behind f [] y ys = refl
change-behind f (x ∷ xs) y ys = ap (λ z. x ∷ z) (change-behind f xs y ys)
