-- What a tile shows of the scene by boxes is what the ledger says by clips.
use Rattle.std.proofs.Common.{◌≡◌, ℕ, ◌*◌, Bool, true, false, cond, ◌&&◌, eqb, ltb, leb, List, [], ◌∷◌, ◌++◌, Some, None, Option, sym, refl, ap, ◌∙◌, ap₂, ⊎_elim, arith}
use Rattle.std.proofs.lemmas.Bool.{cases_Bool, and_parts, and_from, and_left, and_right, leb-true, ltb-true, le-leb, lt-ltb, lt-leb, or_from, cond_both, both_ways}
use Rattle.geometry.specs.declared.rect.RectU16.{RectU16}
use Rattle.geometry.specs.declared.tile.Tile.{Tile}
use Rattle.geometry.specs.Cover.{covered}
use Rattle.geometry.specs.Rect.{Holds, empty, joined, intersection}
use Rattle.filter.specs.declared.data.FilterData.{FilterData}
use Rattle.layers.specs.Closing.{put, clipped, or_zero, closing_by}
use Rattle.layers.specs.Opening.{clip_box}
use Rattle.walk.specs.declared.listed.Listed.{Listed}
use Rattle.walk.specs.declared.listed.Listed.TheVariants as listed
use Rattle.tiles.specs.declared.showing.Showing.{Showing}
use Rattle.tiles.specs.declared.showing.Showing.TheVariants as showings
use Rattle.tiles.specs.declared.surface.Surface.{Surface}
use Rattle.tiles.specs.declared.surface.Surface.TheVariants as surfaces
use Rattle.tiles.specs.Tile.{box_shows}
use Rattle.ledger.specs.Ledger.{Opening}
use Rattle.ledger.specs.Sheet.{Sheet, end, draw, layer, or_nothing, closed_as, contents, contents_from}
use Rattle.ledger.specs.Tiles.{Around, all, regular, further, between, unhidden, unclipped, boxed, shown, bracket, listings}

-- a rectangle covers a tile, by its edges
holds : (t : Tile) (r : RectU16) → covered t r ≡ true → Holds r (4 * t.x) (4 * t.y)
holds t r e =
    let d = and_parts ((leb r.x0 (4 * t.x) && ltb (4 * t.x) r.x1) && leb r.y0 (4 * t.y)) (ltb (4 * t.y) r.y1) e in
    let c = and_parts (leb r.x0 (4 * t.x) && ltb (4 * t.x) r.x1) (leb r.y0 (4 * t.y)) d.0 in
    let b = and_parts (leb r.x0 (4 * t.x)) (ltb (4 * t.x) r.x1) c.0 in
    (leb-true r.x0 (4 * t.x) b.0, ltb-true (4 * t.x) r.x1 b.1, leb-true r.y0 (4 * t.y) c.1, ltb-true (4 * t.y) r.y1 d.1)

held : (t : Tile) (r : RectU16) → Holds r (4 * t.x) (4 * t.y) → covered t r ≡ true
held t r h =
    and_from ((leb r.x0 (4 * t.x) && ltb (4 * t.x) r.x1) && leb r.y0 (4 * t.y)) (ltb (4 * t.y) r.y1)
    (and_from (leb r.x0 (4 * t.x) && ltb (4 * t.x) r.x1) (leb r.y0 (4 * t.y)) (and_from (leb r.x0 (4 * t.x)) (ltb (4 * t.x) r.x1) (le-leb r.x0 (4 * t.x) h.0) (lt-ltb (4 * t.x) r.x1 h.1)) (le-leb r.y0 (4 * t.y) h.2))
    (lt-ltb (4 * t.y) r.y1 h.3)

full : (t : Tile) (r : RectU16) → covered t r ≡ true → empty r ≡ false
full t r e = let h = holds t r e in or_from (leb r.x1 r.x0) (leb r.y1 r.y0) (lt-leb r.x1 r.x0 (omega arith)) (lt-leb r.y1 r.y0 (omega arith))

module _ (t : Tile) where
  joined-left : (a b : RectU16) → covered t a ≡ true → covered t (joined a b) ≡ true
  joined-left a b e = let h = holds t a e in held t (joined a b) (omega arith, omega arith, omega arith, omega arith)

  joined-right : (a b : RectU16) → covered t b ≡ true → covered t (joined a b) ≡ true
  joined-right a b e = let h = holds t b e in held t (joined a b) (omega arith, omega arith, omega arith, omega arith)

  both : (a b : RectU16) → covered t a ≡ true → covered t b ≡ true → covered t (intersection a b) ≡ true
  both a b e f = let h = holds t a e in let k = holds t b f in held t (intersection a b) (omega arith, omega arith, omega arith, omega arith)

  right : (a b : RectU16) → covered t (intersection a b) ≡ true → covered t b ≡ true
  right a b e = let h = holds t (intersection a b) e in held t b (omega arith, omega arith, omega arith, omega arith)

  -- a box that was put into contents shows in them, and what showed goes on showing
  put-kept : (b c : Option RectU16) → box_shows t c ≡ true → box_shows t (put b c) ≡ true
  put-kept None c e = e
  put-kept (Some b) None e = absurd (cc)
  put-kept (Some b) (Some c) e = cond_both (empty b) (Some c) (Some (joined c b)) (λ z. box_shows t z ≡ true) (λ _. e) (λ _. joined-left c b e)

  put-new : (b c : Option RectU16) → box_shows t b ≡ true → box_shows t (put b c) ≡ true
  put-new None c e = absurd (cc)
  put-new (Some b) None e = rw (full t b e) e
  put-new (Some b) (Some c) e = rw (full t b e) (joined-right c b e)

  -- a regular layer's box
  clipped-boxed : (c clip : Option RectU16) → box_shows t c ≡ true → unhidden t clip ≡ true → covered t (clipped (or_zero c) clip) ≡ true
  clipped-boxed None clip e u = absurd (cc)
  clipped-boxed (Some b) None e u = e
  clipped-boxed (Some b) (Some k) e u = both b k e u

  boxed-clipped : (b : RectU16) (clip : Option RectU16) → covered t (clipped b clip) ≡ true → unhidden t clip ≡ true
  boxed-clipped b None e = refl
  boxed-clipped b (Some k) e = right b k e

  regular-boxed : (f : Option FilterData) (c clip : Option RectU16) → regular f ≡ true → box_shows t c ≡ true → unhidden t clip ≡ true → covered t (or_nothing (closing_by f clip c)).in_parent ≡ true
  regular-boxed None c clip r e u = clipped-boxed c clip e u
  regular-boxed (Some f) c clip r e u = absurd (cc)

  regular-clipped : (f : Option FilterData) (c clip : Option RectU16) → regular f ≡ true → covered t (or_nothing (closing_by f clip c)).in_parent ≡ true → unhidden t clip ≡ true
  regular-clipped None c clip r e = boxed-clipped (or_zero c) clip e
  regular-clipped (Some f) c clip r e = absurd (cc)

  abbrev Plain : List Around → Type 0
  Plain [] = Unit {0}
  Plain (l ∷ around) = (regular l.opening.filter ≡ true) × Plain around

  -- what the innermost layer hands on shows in the contents of the layer around it
  abbrev Linked : List Around → Type 0
  Linked [] = Unit {0}
  Linked (l ∷ []) = Unit {0}
  Linked (l ∷ (m ∷ around)) = (boxed t l ≡ true → box_shows t m.inner ≡ true) × Linked (m ∷ around)

  between-plain : (around : List Around) → Plain around → between surfaces.Scene around ≡ Some around
  between-plain [] p = refl
  between-plain (l ∷ around) p = rw (p.0, between-plain around p.1) refl

  boxes-clips : (around : List Around) → Plain around → all (boxed t) around ≡ true → all (unclipped t) around ≡ true
  boxes-clips [] p e = refl
  boxes-clips (l ∷ around) p e =
      let h = and_parts (boxed t l) (all (boxed t) around) e in
      and_from (unclipped t l) (all (unclipped t) around) (regular-clipped l.opening.filter l.inner (clip_box l.opening.props.clip_path) p.0 h.0) (boxes-clips around p.1 h.1)

  abbrev HeadShows : List Around → Type 0
  HeadShows [] = Unit {0}
  HeadShows (l ∷ around) = box_shows t l.inner ≡ true

  clips-boxes : (around : List Around) → Plain around → Linked around → HeadShows around → all (unclipped t) around ≡ true → all (boxed t) around ≡ true
  clips-boxes [] p k h e = refl
  clips-boxes (l ∷ []) p k h e =
      let u = and_parts (unclipped t l) true e in
      and_from (boxed t l) true (regular-boxed l.opening.filter l.inner (clip_box l.opening.props.clip_path) p.0 h u.0) refl
  clips-boxes (l ∷ (m ∷ around)) p k h e =
      let u = and_parts (unclipped t l) (all (unclipped t) (m ∷ around)) e in
      let b = regular-boxed l.opening.filter l.inner (clip_box l.opening.props.clip_path) p.0 h u.0 in
      and_from (boxed t l) (all (boxed t) (m ∷ around)) b (clips-boxes (m ∷ around) p.1 k.1 (k.0 b) u.1)

-- whether the surface is that of layer n
abbrev pub surface_of : Surface → ℕ → Bool
surface_of surfaces.Scene n = false
surface_of (surfaces.Layer s) n = eqb s n

-- one more layer around, on any surface
between-more : (s : Surface) (l : Around) (around : List Around)
    → between s (l ∷ around) ≡ cond (regular l.opening.filter) (further l (between s around)) (cond (surface_of s l.number) (Some []) None)
between-more surfaces.Scene l around = refl
between-more (surfaces.Layer i) l around = refl

-- no layer of the sheet is the surface's own
abbrev pub Apart : {D : Type 0} → Surface → Sheet D → Type 0
Apart s end = Unit {0}
Apart s (draw n d rest) = Apart s rest
Apart s (layer n o inside rest) = (surface_of s n ≡ false) × (Apart s inside × Apart s rest)

scene-apart : {D : Type 0} → (x : Sheet D) → Apart surfaces.Scene x
scene-apart end = tt
scene-apart (draw n d rest) = scene-apart rest
scene-apart (layer n o inside rest) = (refl, (scene-apart inside, scene-apart rest))

-- around what is not the surface's own, nothing is
module _ (t : Tile) (s : Surface) where
  pub bracket-none : (l : Around) (around : List Around) (e : Listed) (f : List Listed) → between s around ≡ None → bracket s t (l ∷ around) e f ≡ []
  bracket-none l around e f n =
      ⊎_elim (λ (r : regular l.opening.filter ≡ true). rw (r, between-more s l around, r, n) refl) (λ (r : regular l.opening.filter ≡ false). rw (r, n) refl) (cases_Bool (regular l.opening.filter))

  pub between_none : (l : Around) (around : List Around) → surface_of s l.number ≡ false → between s around ≡ None → between s (l ∷ around) ≡ None
  between_none l around o n =
      between-more s l around
      ∙ ⊎_elim (λ (r : regular l.opening.filter ≡ true). rw (r, n) refl) (λ (r : regular l.opening.filter ≡ false). rw (r, o) refl) (cases_Bool (regular l.opening.filter))

  pub listings-none : {D : Type 0} (box_of : D → Option RectU16) (x : Sheet D) (around : List Around) → Apart s x → between s around ≡ None → listings box_of s t x around ≡ []
  listings-none box_of end around a n = refl
  listings-none box_of (draw m d rest) around a n = rw n (listings-none box_of rest around a n)
  listings-none box_of (layer m o inside rest) around a n =
      let l : Around = record { number = m; opening = o; inner = contents box_of inside } in
      let first = bracket-none l around (listed.Enter m) (listed.Filter m ∷ []) n in
      let inner = listings-none box_of inside (l ∷ around) a.1.0 (between_none l around a.0 n) in
      let last = bracket-none l around (listed.Leave m) [] n in
      ap₂ (λ p q. p ++ q) first (ap₂ (λ p q. p ++ q) inner (ap₂ (λ p q. p ++ q) last (listings-none box_of rest around a.1.1 n)))

-- how a layer with these contents shows
abbrev pub shows_as : Tile → Opening → Option RectU16 → Showing
shows_as t o c = cond (covered t (closed_as o c).in_parent) (cond (regular o.filter) showings.Through showings.Placed) showings.Hidden

-- a layer's entries, with those of its inside and those after it
abbrev pub kept_layer : Showing → ℕ → List Listed → List Listed → List Listed
kept_layer showings.Through n inner rest = listed.Enter n ∷ (inner ++ (listed.Leave n ∷ rest))
kept_layer showings.Placed n inner rest = listed.Filter n ∷ rest
kept_layer showings.Hidden n inner rest = rest

module _ {D : Type 0} (box_of : D → Option RectU16) (t : Tile) where
  -- what the tile shows of a sheet, by boxes
  abbrev pub kept : Sheet D → List Listed
  kept end = []
  kept (draw n d rest) = shown (box_shows t (box_of d)) (listed.Draw n) ++ kept rest
  kept (layer n o inside rest) = kept_layer (shows_as t o (contents box_of inside)) n (kept inside) (kept rest)

  contents-kept : (x : Sheet D) (c : Option RectU16) → box_shows t c ≡ true → box_shows t (contents_from box_of c x) ≡ true
  contents-kept end c e = e
  contents-kept (draw n d rest) c e = contents-kept rest (put (box_of d) c) (put-kept t (box_of d) c e)
  contents-kept (layer n o inside rest) c e = contents-kept rest (put (Some (closed_as o (contents box_of inside)).in_parent) c) (put-kept t (Some (closed_as o (contents box_of inside)).in_parent) c e)

  -- the contents of the innermost layer around are c with what x puts into them
  abbrev HeadIs : List Around → Option RectU16 → Sheet D → Type 0
  HeadIs [] c x = Unit {0}
  HeadIs (l ∷ around) c x = l.inner ≡ contents_from box_of c x

  head-shows : (around : List Around) (c : Option RectU16) (x : Sheet D) → HeadIs around c x → box_shows t c ≡ true → HeadShows t around
  head-shows [] c x h e = tt
  head-shows (l ∷ around) c x h e = ap (box_shows t) h ∙ contents-kept x c e

  linked-more : (l : Around) (around : List Around) → (boxed t l ≡ true → HeadShows t around) → Linked t around → Linked t (l ∷ around)
  linked-more l [] h k = tt
  linked-more l (m ∷ around) h k = (h, k)

  -- where the layers around do not all show, a box that would show is cut off by a clip
  cut : (around : List Around) (b : Bool) → Plain t around → Linked t around → (b ≡ true → HeadShows t around) → all (boxed t) around ≡ false → (all (unclipped t) around && b) ≡ false
  cut around b p k h e =
      ⊎_elim
      (λ (y : b ≡ true).
      ⊎_elim (λ (u : all (unclipped t) around ≡ true). absurd (both_ways (all (boxed t) around) e (clips-boxes t around p k (h y) u))) (λ (u : all (unclipped t) around ≡ false). and_left (all (unclipped t) around) b u) (cases_Bool (all (unclipped t) around)))
      (λ (y : b ≡ false). and_right (all (unclipped t) around) b y)
      (cases_Bool b)

  -- a regular layer that is the scene's own, and a filter layer
  bracket-regular : (l : Around) (around : List Around) (e : Listed) (f : List Listed) → regular l.opening.filter ≡ true → between surfaces.Scene around ≡ Some around
      → bracket surfaces.Scene t (l ∷ around) e f ≡ shown (boxed t l && all (boxed t) around) e
  bracket-regular l around e f r n = rw (r, n) refl

  bracket-filter : (l : Around) (around : List Around) (e : Listed) (f : List Listed) → regular l.opening.filter ≡ false → between surfaces.Scene around ≡ Some around
      → bracket surfaces.Scene t (l ∷ around) e f ≡ cond (all (unclipped t) around && boxed t l) f []
  bracket-filter l around e f r n = rw (r, n) refl

  between-filter : (l : Around) (around : List Around) → regular l.opening.filter ≡ false → between surfaces.Scene (l ∷ around) ≡ None
  between-filter l around r = rw r refl

  regular-list : (b own : Bool) (n : ℕ) (inner rest : List Listed)
      → shown (b && own) (listed.Enter n) ++ (cond (b && own) inner [] ++ (shown (b && own) (listed.Leave n) ++ cond own rest [])) ≡ cond own (kept_layer (cond b showings.Through showings.Hidden) n inner rest) []
  regular-list true true n inner rest = refl
  regular-list true false n inner rest = refl
  regular-list false true n inner rest = refl
  regular-list false false n inner rest = refl

  filter-list : (b own : Bool) (n : ℕ) (inner rest : List Listed) → cond own (cond b (listed.Filter n ∷ []) []) [] ++ cond own rest [] ≡ cond own (kept_layer (cond b showings.Placed showings.Hidden) n inner rest) []
  filter-list true true n inner rest = refl
  filter-list true false n inner rest = refl
  filter-list false true n inner rest = refl
  filter-list false false n inner rest = refl

  -- a filter layer shows where its destination does and no clip around it hides the tile
  filter-shows : (l : Around) (around : List Around) (f : List Listed) → Plain t around → Linked t around → (boxed t l ≡ true → HeadShows t around)
      → cond (all (unclipped t) around && boxed t l) f [] ≡ cond (all (boxed t) around) (cond (boxed t l) f []) []
  filter-shows l around f p k h =
      ⊎_elim (λ (a : all (boxed t) around ≡ true). let u = boxes-clips t around p a in rw (u, a) refl)
      (λ (a : all (boxed t) around ≡ false). let z = cut around (boxed t l) p k h a in rw (z, a) refl)
      (cases_Bool (all (boxed t) around))

  -- with the layers around all regular: what they all show is kept, and nothing where one does not show
  pub listings-kept : (x : Sheet D) (around : List Around) (c : Option RectU16) → Plain t around → Linked t around → HeadIs around c x
      → listings box_of surfaces.Scene t x around ≡ cond (all (boxed t) around) (kept x) []
  listings-kept end around c p k h = sym (cond_both (all (boxed t) around) [] [] (λ z. z ≡ []) (λ _. refl) (λ _. refl))
  listings-kept (draw n d rest) around c p k h =
      let seen = box_shows t (box_of d) in
      let own = between-plain t around p in
      let more = listings-kept rest around (put (box_of d) c) p k (head-rest around h) in
      ⊎_elim
      (λ (a : all (boxed t) around ≡ true).
      let u = boxes-clips t around p a in
      rw (own, u, a) (ap (λ z. shown seen (listed.Draw n) ++ z) (more ∙ rw a refl)))
      (λ (a : all (boxed t) around ≡ false).
      let hidden = cut around seen p k (λ y. head-shows around (put (box_of d) c) rest (head-rest around h) (put-new t (box_of d) c y)) a in
      rw (own, hidden, a) (more ∙ rw a refl))
      (cases_Bool (all (boxed t) around))
    where
      head-rest : (ls : List Around) → HeadIs ls c (draw n d rest) → HeadIs ls (put (box_of d) c) rest
      head-rest [] e = tt
      head-rest (l ∷ ls) e = e
  listings-kept (layer n o inside rest) around c p k h =
      let l : Around = record { number = n; opening = o; inner = contents box_of inside } in
      let handed = (closed_as o (contents box_of inside)).in_parent in
      let more = listings-kept rest around (put (Some handed) c) p k (head-rest around h) in
      let shows-up : boxed t l ≡ true → HeadShows t around = λ y. head-shows around (put (Some handed) c) rest (head-rest around h) (put-new t (Some handed) c y) in
      let own = between-plain t around p in
      ⊎_elim
      (λ (r : regular o.filter ≡ true).
      let inner = listings-kept inside (l ∷ around) None (r, p) (linked-more l around shows-up k) refl in
      ap₂ (λ x y. x ++ y) (bracket-regular l around (listed.Enter n) (listed.Filter n ∷ []) r own) (ap₂ (λ x y. x ++ y) inner (ap₂ (λ x y. x ++ y) (bracket-regular l around (listed.Leave n) [] r own) more))
      ∙ regular-list (boxed t l) (all (boxed t) around) n (kept inside) (kept rest)
      ∙ ap (λ z. cond (all (boxed t) around) (kept_layer (cond (boxed t l) (cond z showings.Through showings.Placed) showings.Hidden) n (kept inside) (kept rest)) []) (sym r))
      (λ (r : regular o.filter ≡ false).
      let first = bracket-filter l around (listed.Enter n) (listed.Filter n ∷ []) r own ∙ filter-shows l around (listed.Filter n ∷ []) p k shows-up in
      let inner = listings-none t surfaces.Scene box_of inside (l ∷ around) (scene-apart inside) (between-filter l around r) in
      let last = bracket-filter l around (listed.Leave n) [] r own ∙ cond_both (all (unclipped t) around && boxed t l) [] [] (λ z. z ≡ []) (λ _. refl) (λ _. refl) in
      ap₂ (λ x y. x ++ y) first (ap₂ (λ x y. x ++ y) inner (ap₂ (λ x y. x ++ y) last more))
      ∙ filter-list (boxed t l) (all (boxed t) around) n (kept inside) (kept rest)
      ∙ ap (λ z. cond (all (boxed t) around) (kept_layer (cond (boxed t l) (cond z showings.Through showings.Placed) showings.Hidden) n (kept inside) (kept rest)) []) (sym r))
      (cases_Bool (regular o.filter))
    where
      head-rest : (ls : List Around) → HeadIs ls c (layer n o inside rest) → HeadIs ls (put (Some (closed_as o (contents box_of inside)).in_parent) c) rest
      head-rest [] e = tt
      head-rest (m ∷ ls) e = e

  pub scene-kept : (x : Sheet D) → listings box_of surfaces.Scene t x [] ≡ kept x
  scene-kept x = listings-kept x [] None tt tt tt
