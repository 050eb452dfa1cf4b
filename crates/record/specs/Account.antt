-- The account of a recording: its open layers, counts and figures, and what each call makes of it.
use Rattle.std.specs.Prelude.{ℕ, ◌+◌, ◌-◌, max, Bool, true, false, cond, not, ◌&&◌, ◌||◌, List, [], ◌∷◌, map, length, Some, None, Option, ◌==◌, nat_le}
use Rattle.geometry.specs.declared.rect.RectU16.{RectU16}
use Rattle.geometry.specs.declared.size.SizeU16.{SizeU16}
use Rattle.geometry.specs.Size.{size, larger}
use Rattle.geometry.specs.Snap.{raised}
use Rattle.draws.specs.declared.blend.BlendMode.{BlendMode}
use Rattle.draws.specs.Mode.{default_mode}
use Rattle.filter.specs.declared.data.FilterData.{FilterData}
use Rattle.filter.specs.declared.placement.FilterLayerPlacement.{FilterLayerPlacement}
use Rattle.refusal.specs.Refusals.{Question}
use Rattle.layers.specs.declared.layer.OpenLayer.{OpenLayer}
use Rattle.layers.specs.declared.layer.ClosedLayer.{ClosedLayer}
use Rattle.layers.specs.declared.props.LayerProps.{LayerProps}
use Rattle.layers.specs.Opening.{clip_box}
use Rattle.layers.specs.Closing.{take_in, pads_within, closing}

-- what an account holds
pub record AccountView : Type 0 where
  pub scene : SizeU16
  -- the open layers, innermost first
  pub opened : List OpenLayer
  pub drawn : ℕ
  pub layers : ℕ
  pub root_target : Bool
  pub blends : Bool
  pub deepest : ℕ
  pub largest : Option SizeU16
  pub largest_filter : Option SizeU16

-- the open layers' numbers, innermost first
abbrev pub ids : List OpenLayer → List ℕ
ids opened = map (λ o. o.id) opened

-- a scene has a size where it is empty, or its width and height are at most 65,532
abbrev pub scene_fits : ℕ → ℕ → Bool
scene_fits w h = (w == 0 || h == 0) || (nat_le w 65532 && nat_le h 65532)

-- the size of a scene: width and height raised to multiples of 4, nothing where one of them is 0
abbrev pub scene_of : ℕ → ℕ → SizeU16
scene_of w h = cond (w == 0 || h == 0) (size 0 0) (size (raised w) (raised h))

-- nothing recorded
abbrev pub empty_account : SizeU16 → AccountView
empty_account s = record { scene = s; opened = []; drawn = 0; layers = 0; root_target = false; blends = false; deepest = 0; largest = None; largest_filter = None }

-- no layer is open
abbrev pub at_root : List OpenLayer → Bool
at_root [] = true
at_root (o ∷ outer) = false

-- a mode that is not the default one
abbrev pub blending : Option BlendMode → Bool
blending None = false
blending (Some m) = not (default_mode m)

-- one more draw, with this box and this mode
abbrev pub account_after_draw : Option RectU16 → Option BlendMode → AccountView → AccountView
account_after_draw b mode a = record {
  scene = a.scene;
  opened = take_in b a.opened;
  drawn = a.drawn + 1;
  layers = a.layers;
  root_target = a.root_target || (at_root a.opened && blending mode);
  blends = a.blends;
  deepest = a.deepest;
  largest = a.largest;
  largest_filter = a.largest_filter;
}

-- layer l as it is opened
abbrev pub opened_with : ℕ → LayerProps → Option FilterData → OpenLayer
opened_with l props f = record { id = l; clip = clip_box props.clip_path; filter = f; contents = None }

-- a layer whose mode blends, or not, is opened
abbrev pub noted_mode : Bool → AccountView → AccountView
noted_mode b a = record {
  scene = a.scene;
  opened = a.opened;
  drawn = a.drawn;
  layers = a.layers;
  root_target = a.root_target || (at_root a.opened && b);
  blends = a.blends || b;
  deepest = a.deepest;
  largest = a.largest;
  largest_filter = a.largest_filter;
}

-- one more open layer, the innermost
abbrev pub pushed_open : OpenLayer → AccountView → AccountView
pushed_open o a = record {
  scene = a.scene;
  opened = o ∷ a.opened;
  drawn = a.drawn;
  layers = a.layers + 1;
  root_target = a.root_target;
  blends = a.blends;
  deepest = max a.deepest (length a.opened + 1);
  largest = a.largest;
  largest_filter = a.largest_filter;
}

-- one more layer, open
abbrev pub account_after_opening : LayerProps → Option FilterData → AccountView → AccountView
account_after_opening props f a = pushed_open (opened_with a.layers props f) (noted_mode (blending (Some props.blend_mode)) a)

-- the larger width and the larger height of a size so far, if any, and one more
abbrev pub grown : SizeU16 → Option SizeU16 → Option SizeU16
grown s None = Some s
grown s (Some t) = Some (larger t s)

-- the same for a filter layer alone, which has a placement
abbrev pub grown_filter : Option FilterLayerPlacement → SizeU16 → Option SizeU16 → Option SizeU16
grown_filter None s t = t
grown_filter (Some p) s t = grown s t

-- width and height of a rectangle
abbrev pub size_of : RectU16 → SizeU16
size_of r = size (r.x1 - r.x0) (r.y1 - r.y0)

-- all but the innermost
abbrev pub outer : List OpenLayer → List OpenLayer
outer [] = []
outer (o ∷ rest) = rest

-- the account with other open layers
abbrev pub with_opened : List OpenLayer → AccountView → AccountView
with_opened opened a = record {
  scene = a.scene;
  opened = opened;
  drawn = a.drawn;
  layers = a.layers;
  root_target = a.root_target;
  blends = a.blends;
  deepest = a.deepest;
  largest = a.largest;
  largest_filter = a.largest_filter;
}

-- the innermost open layer has taken in a box
abbrev pub took_in : Option RectU16 → AccountView → AccountView
took_in b a = with_opened (take_in b a.opened) a

-- the largest sizes with those of a layer that was closed
abbrev pub noted_size : ClosedLayer → AccountView → AccountView
noted_size k a = record {
  scene = a.scene;
  opened = a.opened;
  drawn = a.drawn;
  layers = a.layers;
  root_target = a.root_target;
  blends = a.blends;
  deepest = a.deepest;
  largest = grown (size_of k.bbox) a.largest;
  largest_filter = grown_filter k.placement (size_of k.bbox) a.largest_filter;
}

-- the innermost layer, whose closing gives k, is closed, and the layer around it takes in what it hands on
abbrev pub account_after_closing : ClosedLayer → AccountView → AccountView
account_after_closing k a = took_in (Some k.in_parent) (noted_size k (with_opened (outer a.opened) a))

-- something that blends was recorded: with no layer open, the root is its target
abbrev pub blended_into : AccountView → AccountView
blended_into a = record {
  scene = a.scene;
  opened = a.opened;
  drawn = a.drawn;
  layers = a.layers;
  root_target = a.root_target || at_root a.opened;
  blends = a.blends;
  deepest = a.deepest;
  largest = a.largest;
  largest_filter = a.largest_filter;
}

-- the innermost open layer
abbrev pub innermost_of : List OpenLayer → Option OpenLayer
innermost_of [] = None
innermost_of (o ∷ rest) = Some o

-- the innermost layer's contents end within the limit
abbrev pub innermost_pads : List OpenLayer → Bool
innermost_pads [] = true
innermost_pads (o ∷ outer) = pads_within o.filter o.contents

-- what a closing asks: a layer is open, and a filter layer's contents end within the limit
abbrev pub close_questions : AccountView → List Question
close_questions a = (not (at_root a.opened), 8) ∷ (innermost_pads a.opened, 9) ∷ []

-- what the closing of the innermost open layer gives
abbrev pub closing_of : List OpenLayer → Option ClosedLayer
closing_of [] = None
closing_of (o ∷ outer) = closing o
