-- A recording: what each call asks, and what it makes of the recording.
use Rattle.std.specs.Prelude.{ℕ, ◌+◌, ◌&&◌, List, [], ◌∷◌, length, Some, None, Option, nat_lt}
use Rattle.refusal.specs.Refusals.{Question}
use Rattle.geometry.specs.declared.rect.RectU16.{RectU16}
use Rattle.geometry.specs.declared.size.SizeU16.{SizeU16}
use Rattle.draws.specs.declared.blend.BlendMode.{BlendMode}
use Rattle.filter.specs.declared.data.FilterData.{FilterData}
use Rattle.layers.specs.declared.layer.ClosedLayer.{ClosedLayer}
use Rattle.layers.specs.declared.layer.OpenLayer.{OpenLayer}
use Rattle.layers.specs.declared.layer.PoppedLayer.{PoppedLayer}
use Rattle.layers.specs.declared.layer.PoppedLayer.TheVariants as popped
use Rattle.layers.specs.declared.props.LayerProps.{LayerProps}
use Rattle.record.specs.Account.{AccountView, ids, empty_account, scene_fits, scene_of, account_after_draw, account_after_opening, account_after_closing, closing_of}
use Rattle.layers.specs.Closing.{kind_of}
use Rattle.layers.specs.Opening.{argument_questions}
use Rattle.record.specs.Table.{top}
use Rattle.layers.specs.Records.{recorded_open}
use Rattle.record.specs.Tree.{TreeView, empty_tree, tree_after_draw, tree_after_opening, tree_after_closing}

-- what a recorder holds
pub record Recording : Type 0 where
  pub account : AccountView
  pub tree : TreeView

-- the innermost open layer
abbrev pub active : Recording → Option ℕ
active r = top (ids r.account.opened)

-- nothing recorded
abbrev pub empty_recording : SizeU16 → Recording
empty_recording scene = record { account = empty_account scene; tree = empty_tree }

-- what a reset asks
abbrev pub reset_questions : ℕ → ℕ → List Question
reset_questions w h = (scene_fits w h, 2) ∷ []

-- after a reset
abbrev pub after_reset : ℕ → ℕ → Recording
after_reset w h = empty_recording (scene_of w h)

-- there are fewer than 1,048,576 draws, and the draw list has a place for the next
abbrev pub draw_questions : ℕ → Recording → List Question
draw_questions places r = (nat_lt r.account.drawn 1048576 && nat_lt r.account.drawn places, 3) ∷ []

-- after one more draw, with this box and this mode
abbrev pub after_draw : Option RectU16 → Option BlendMode → Recording → Recording
after_draw b mode r = record { account = account_after_draw b mode r.account; tree = tree_after_draw r.account.drawn (active r) r.tree }

-- what an opening asks: there are fewer than 256 layers, and then what it asks of its arguments
abbrev pub open_questions : LayerProps → Option FilterData → Recording → List Question
open_questions props f r = (nat_lt r.account.layers 256, 4) ∷ argument_questions props f

-- after one more layer was opened
abbrev pub after_opening : LayerProps → Option FilterData → Recording → Recording
after_opening props f r = record {
  account = account_after_opening props f r.account;
  tree = tree_after_opening r.account.layers r.account.drawn (recorded_open props f (length r.account.opened + 1)) f (active r) r.tree;
}

-- the tree with the record of the innermost layer changed by its closing
abbrev pub closed_tree : ClosedLayer → List OpenLayer → TreeView → TreeView
closed_tree k [] t = t
closed_tree k (o ∷ outer) t = tree_after_closing o.id k t

-- the recording after a closing that gave k, if it gave any
abbrev pub closed_by : Option ClosedLayer → Recording → Recording
closed_by None r = r
closed_by (Some k) r = record { account = account_after_closing k r.account; tree = closed_tree k r.account.opened r.tree }

-- after the innermost layer was closed
abbrev pub after_closing : Recording → Recording
after_closing r = closed_by (closing_of r.account.opened) r

-- the kind of the innermost open layer
abbrev pub innermost_kind : List OpenLayer → PoppedLayer
innermost_kind [] = popped.Regular
innermost_kind (o ∷ outer) = kind_of o.filter
