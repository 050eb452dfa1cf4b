-- Flags, depth, filter order and largest sizes of a ledger, one entry on.
use Rattle.std.proofs.Common.{◌≡◌, ℕ, zero, suc, max, not, ◌&&◌, ◌||◌, eqb, List, [], ◌∷◌, ◌++◌, length, Some, None, Option, sym, refl, ap, ◌∙◌, arith}
use Rattle.std.proofs.lemmas.Bool.{ne_eqb}
use Rattle.std.proofs.Math.Bool.{or_assoc, or-false}
use Rattle.std.proofs.Math.Dec.{eqb-suc-suc}
use Rattle.geometry.specs.declared.size.SizeU16.{SizeU16}
use Rattle.draws.specs.declared.blend.BlendMode.{BlendMode}
use Rattle.filter.specs.declared.data.FilterData.{FilterData}
use Rattle.filter.specs.declared.placement.FilterLayerPlacement.{FilterLayerPlacement}
use Rattle.layers.specs.declared.layer.ClosedLayer.{ClosedLayer}
use Rattle.layers.specs.declared.layer.RecordedLayer.{RecordedLayer}
use Rattle.layers.specs.declared.layer.RecordedLayerKind.{RecordedLayerKind}
use Rattle.layers.specs.declared.layer.RecordedLayerKind.TheVariants as kind
use Rattle.record.specs.Account.{blending, size_of, grown, grown_filter}
use Rattle.ledger.specs.Ledger.{Entry, Draw, Enter, Leave, open_step, open_from}
use Rattle.layers.specs.Records.{open_kind, placed_kind, recorded_closed}
use Rattle.record.specs.Tree.{change_at}
use Rattle.tiles.specs.Tile.{filter_kind, filter_at}
use Rattle.ledger.specs.Tiles.{regular, opens_filter, filter_in}
use Rattle.ledger.specs.Recorded.{none, numbered, opening_mode, depth_at, layer_blends, deepest_from, filter_numbers, largest_from, largest_filter_from, mode_in, root_blends}

numbered-push : (f : Option FilterData) (n : ℕ) (xs ys : List ℕ) → numbered f n (xs ++ ys) ≡ numbered f n xs ++ ys
numbered-push None n xs ys = refl
numbered-push (Some f) n xs ys = refl

module _ {D : Type 0} where
  pub blends-push : (es : List (Entry D)) (e : Entry D) → layer_blends (es ++ (e ∷ [])) ≡ (layer_blends es || blending (opening_mode e))
  blends-push [] e = or-false (blending (opening_mode e))
  blends-push (x ∷ es) e = ap (λ b. blending (opening_mode x) || b) (blends-push es e) ∙ sym (or_assoc (blending (opening_mode x)) (layer_blends es) (blending (opening_mode e)))

  pub root-push : (mode_of : D → Option BlendMode) (s : List ℕ) (es : List (Entry D)) (e : Entry D)
      → root_blends mode_of s (es ++ (e ∷ [])) ≡ (root_blends mode_of s es || (none (open_from s es) && blending (mode_in mode_of e)))
  root-push mode_of s [] e = or-false (none s && blending (mode_in mode_of e))
  root-push mode_of s (x ∷ es) e =
      ap (λ b. (none s && blending (mode_in mode_of x)) || b) (root-push mode_of (open_step s x) es e)
      ∙ sym (or_assoc (none s && blending (mode_in mode_of x)) (root_blends mode_of (open_step s x) es) (none (open_from (open_step s x) es) && blending (mode_in mode_of e)))

  pub deepest-push : (s : List ℕ) (es : List (Entry D)) (e : Entry D) → deepest_from s (es ++ (e ∷ [])) ≡ max (deepest_from s es) (depth_at (open_from s es) e)
  deepest-push s [] e = omega arith
  deepest-push s (x ∷ es) e = let p = deepest-push (open_step s x) es e in omega arith

  pub filters-push : (es : List (Entry D)) (e : Entry D) → filter_numbers (es ++ (e ∷ [])) ≡ filter_numbers es ++ filter_numbers (e ∷ [])
  filters-push [] e = refl
  filters-push (Draw n d ∷ es) e = filters-push es e
  filters-push (Enter n o ∷ es) e = ap (numbered o.filter n) (filters-push es e) ∙ numbered-push o.filter n (filter_numbers es) (filter_numbers (e ∷ []))
  filters-push (Leave n ∷ es) e = filters-push es e

-- which layers are filter layers
module _ {D : Type 0} where
  pub filter_in-push : (l : ℕ) (es : List (Entry D)) (e : Entry D) → filter_in l (es ++ (e ∷ [])) ≡ (filter_in l es || opens_filter l e)
  filter_in-push l [] e = or-false (opens_filter l e)
  filter_in-push l (x ∷ es) e = ap (λ b. opens_filter l x || b) (filter_in-push l es e) ∙ sym (or_assoc (opens_filter l x) (filter_in l es) (opens_filter l e))

pub filter-append : (xs : List RecordedLayer) (x : RecordedLayer) (l : ℕ) → filter_at (xs ++ (x ∷ [])) l ≡ (filter_at xs l || (eqb l (length xs) && filter_kind x.kind))
filter-append [] x zero = refl
filter-append [] x (suc l) = rw (ne_eqb (suc l) 0 (λ e. omega arith))
filter-append (y ∷ xs) x zero = rw (ne_eqb 0 (length (y ∷ xs)) (λ e. omega arith)) (sym (or-false (filter_kind y.kind)))
filter-append (y ∷ xs) x (suc l) = filter-append xs x l ∙ ap (λ b. filter_at xs l || (b && filter_kind x.kind)) (sym (eqb-suc-suc l (length xs)))

pub filter-opened : (f : Option FilterData) → filter_kind (open_kind f) ≡ not (regular f)
filter-opened None = refl
filter-opened (Some f) = refl

kind-placed : (p : Option FilterLayerPlacement) (k : RecordedLayerKind) → filter_kind (placed_kind p k) ≡ filter_kind k
kind-placed None k = refl
kind-placed (Some p) kind.Regular = refl
kind-placed (Some p) (kind.Filter f q) = refl

pub filter-changed : (k : ClosedLayer) (i : ℕ) (xs : List RecordedLayer) (l : ℕ) → filter_at (change_at (recorded_closed k) i xs) l ≡ filter_at xs l
filter-changed k i [] l = refl
filter-changed k zero (x ∷ xs) zero = kind-placed k.placement x.kind
filter-changed k zero (x ∷ xs) (suc l) = refl
filter-changed k (suc i) (x ∷ xs) zero = refl
filter-changed k (suc i) (x ∷ xs) (suc l) = filter-changed k i xs l

pub largest-push : (m : Option SizeU16) (ks : List ClosedLayer) (k : ClosedLayer) → largest_from m (ks ++ (k ∷ [])) ≡ grown (size_of k.bbox) (largest_from m ks)
largest-push m [] k = refl
largest-push m (x ∷ ks) k = largest-push (grown (size_of x.bbox) m) ks k

pub largest_filter-push : (m : Option SizeU16) (ks : List ClosedLayer) (k : ClosedLayer) → largest_filter_from m (ks ++ (k ∷ [])) ≡ grown_filter k.placement (size_of k.bbox) (largest_filter_from m ks)
largest_filter-push m [] k = refl
largest_filter-push m (x ∷ ks) k = largest_filter-push (grown_filter x.placement (size_of x.bbox) m) ks k
