-- Every layer's record stands at its number, and so does its placement.
use Rattle.std.proofs.Common.{◌≡◌, ℕ, suc, ◌+◌, List, [], ◌∷◌, ◌++◌, length, Some, None, Option, sym, refl, ◌∙◌, subst, ap₂, append_assoc, arith, length-append}
use Rattle.std.specs.List.{slice_get}
use Rattle.geometry.specs.declared.rect.RectU16.{RectU16}
use Rattle.filter.specs.declared.data.FilterData.{FilterData}
use Rattle.filter.specs.declared.placement.FilterLayerPlacement.{FilterLayerPlacement}
use Rattle.filter.specs.Placement.{Lies}
use Rattle.layers.specs.declared.layer.RecordedLayer.{RecordedLayer}
use Rattle.layers.specs.Records.{recorded_open, open_kind, placed_kind}
use Rattle.ledger.specs.Ledger.{Opening}
use Rattle.ledger.specs.Sheet.{Sheet, end, draw, layer, joined, closed_as, contents, layer_record, records, placement_or, LiesKind, LiesBy, LiesByRecord, Placed, PlacedByRecord}
use Rattle.ledger.specs.Draft.{Frame, frame, AllPlaced}
use Rattle.ledger.specs.Recorded.{records_of}
use Rattle.ledger.proofs.Sheets.{size, Ordered, AllOrdered, Counts, length-records}

nth-at : {X : Type 0} (before : List X) (x : X) (behind : List X) → slice_get (before ++ (x ∷ behind)) (length before) ≡ Some x
nth-at [] x behind = refl
nth-at (y ∷ before) x behind = nth-at before x behind

lies-kind : (f : FilterData) (c : RectU16) (p : Option FilterLayerPlacement) → Lies c f (placement_or p) → LiesKind c f (placed_kind p (open_kind (Some f)))
lies-kind f c None l = (refl, l)
lies-kind f c (Some p) l = (refl, l)

module _ {D : Type 0} (box_of : D → Option RectU16) where
  -- what the closings gave lies where it should, at any time
  abbrev pub AllLaid : List (Frame D) → Sheet D → Type 0
  AllLaid [] x = Placed box_of x
  AllLaid (frame before n o ∷ fs) x = Placed box_of x × AllLaid fs before

  laid-joined : (s x : Sheet D) → Placed box_of s → Placed box_of x → Placed box_of (joined s x)
  unfolding joined
  laid-joined end x p q = q
  laid-joined (draw n d rest) x p q = laid-joined rest x p q
  laid-joined (layer n o inside rest) x p q = (p.0, (p.1.0, laid-joined rest x p.1.1 q))

  pub all-laid-joined : (fs : List (Frame D)) (s x : Sheet D) → AllLaid fs s → Placed box_of x → AllLaid fs (joined s x)
  all-laid-joined [] s x p q = laid-joined s x p q
  all-laid-joined (frame before n o ∷ fs) s x p q = (laid-joined s x p.0 q, p.1)

  -- the record of each layer of a sheet stands in the table at its number
  abbrev pub RecordsAt : List RecordedLayer → ℕ → Sheet D → Type 0
  RecordsAt table depth end = Unit {0}
  RecordsAt table depth (draw n d rest) = RecordsAt table depth rest
  RecordsAt table depth (layer n o inside rest) = (slice_get table n ≡ Some (layer_record box_of depth o inside)) × (RecordsAt table (depth + 1) inside × RecordsAt table depth rest)

  pub records-at : (table : List RecordedLayer) (depth : ℕ) (x : Sheet D) (before behind : List RecordedLayer) → table ≡ before ++ (records box_of depth x ++ behind) → Ordered (length before) x → RecordsAt table depth x
  records-at table depth end before behind e o = tt
  records-at table depth (draw n d rest) before behind e o = records-at table depth rest before behind e o
  records-at table depth (layer n o inside rest) before behind e q =
      let r = layer_record box_of depth o inside in
      let i = records box_of (depth + 1) inside in
      let j = records box_of depth rest in
      let in_table : table ≡ (before ++ (r ∷ [])) ++ (i ++ (j ++ behind)) = e ∙ simp append_assoc in
      let past-table : table ≡ (before ++ (r ∷ i)) ++ (j ++ behind) = e ∙ simp append_assoc in
      let a = length-append before (r ∷ []) in
      let b = length-append before (r ∷ i) in
      let c = length-records box_of (depth + 1) inside in
      let one : suc (length before) ≡ length (before ++ (r ∷ [])) = omega arith in
      let more : suc (length before + size inside) ≡ length (before ++ (r ∷ i)) = omega arith in (
        ap₂ slice_get e q.0 ∙ nth-at before r ((i ++ j) ++ behind),
        (
          records-at table (depth + 1) inside (before ++ (r ∷ [])) (j ++ behind) in_table (subst (λ k. Ordered k inside) one q.1.0),
          records-at table depth rest (before ++ (r ∷ i)) behind past-table (subst (λ k. Ordered k rest) more q.1.1),
        ),
      )

  lies-record : (depth : ℕ) (o : Opening) (inside : Sheet D) (f : Option FilterData) (c : Option RectU16) → o.filter ≡ f → contents box_of inside ≡ c → LiesBy f c (closed_as o (contents box_of inside)) → LiesByRecord f c (Some (layer_record box_of depth o inside))
  lies-record depth o inside None c e g l = tt
  lies-record depth o inside (Some f) None e g l = tt
  lies-record depth o inside (Some f) (Some c) e g l = λ full.
      subst (λ z. LiesKind c f (placed_kind (closed_as o (contents box_of inside)).placement (open_kind z))) (sym e) (lies-kind f c (closed_as o (contents box_of inside)).placement (l full))

  placed_at : (table : List RecordedLayer) (depth : ℕ) (x : Sheet D) → RecordsAt table depth x → Placed box_of x → PlacedByRecord box_of table x
  placed_at table depth end r l = tt
  placed_at table depth (draw n d rest) r l = placed_at table depth rest r l
  placed_at table depth (layer n o inside rest) r l = (
    subst (LiesByRecord o.filter (contents box_of inside)) (sym r.0) (lies-record depth o inside o.filter (contents box_of inside) refl refl l.0),
    (placed_at table (depth + 1) inside r.1.0 l.1.0, placed_at table depth rest r.1.1 l.1.1),
  )

  -- the same at any time
  pub all_placed : (table : List RecordedLayer) (fs : List (Frame D)) (x : Sheet D) (behind : List RecordedLayer) → table ≡ records_of box_of fs x ++ behind → Counts box_of fs → AllOrdered fs x → AllLaid fs x → AllPlaced box_of table fs x
  all_placed table [] x behind e c o l = placed_at table 1 x (records-at table 1 x [] behind e o) l
  all_placed table (frame before n op ∷ fs) x behind e c o l =
      let r = recorded_open op.props op.filter (length fs + 1) in
      let d = length fs + 1 + 1 in
      let i = records box_of d x in
      let was = records_of box_of fs before in
      let in_table : table ≡ (was ++ (r ∷ [])) ++ (i ++ behind) = e ∙ simp append_assoc in
      let past-table : table ≡ was ++ ((r ∷ i) ++ behind) = e ∙ append_assoc was (r ∷ i) behind in
      let a = length-append was (r ∷ []) in
      let one : suc n ≡ length (was ++ (r ∷ [])) = omega (arith, c.0) in (
        placed_at table d x (records-at table d x (was ++ (r ∷ [])) behind in_table (subst (λ k. Ordered k x) one o.0)) l.0,
        all_placed table fs before ((r ∷ i) ++ behind) past-table c.1 o.1 l.1,
      )
