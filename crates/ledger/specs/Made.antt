-- What one call does to a recording and its draw list.
use Rattle.std.specs.Prelude.{◌≡◌, if◌then◌else◌, List, [], ◌∷◌, length, is_ok, Option, Result, slice_set}
use Rattle.geometry.specs.declared.rect.RectU16.{RectU16}
use Rattle.draws.specs.declared.blend.BlendMode.{BlendMode}
use Rattle.refusal.specs.declared.Refusal.{Refusal}
use Rattle.record.specs.Recording.{Recording, after_reset, after_draw, after_opening, after_closing}
use Rattle.ledger.specs.declared.call.Answer.{Answer}
use Rattle.ledger.specs.declared.call.Call.{Call}
use Rattle.ledger.specs.declared.call.Call.TheVariants as call
use Rattle.ledger.specs.Ledger.{Ledger, after}
use Rattle.ledger.specs.Recorded.{recording_for}
use Rattle.ledger.specs.Runs.{Answered}

module _ {D : Type 0} (box_of : D → Option RectU16) (mode_of : D → Option BlendMode) where
  -- the recording after an accepted call
  abbrev pub after_call : Call D → Recording → Recording
  after_call (call.Reset w h) r = after_reset w h
  after_call (call.Draw d) r = after_draw (box_of d) (mode_of d) r
  after_call (call.Open props f) r = after_opening props f r
  after_call call.Close r = after_closing r

  -- the draw list after an accepted call
  abbrev pub written : Call D → Recording → List D → List D
  written (call.Reset w h) r ds = ds
  written (call.Draw d) r ds = slice_set ds r.account.drawn d
  written (call.Open props f) r ds = ds
  written call.Close r ds = ds

  -- the call was answered as the rules say; a refused one altered nothing
  pub record Made (c : Call D) (a : Result Answer Refusal) (before after : Recording) (ds ds' : List D) : Type 0 where
    pub answered : Answered c (length ds) before a
    pub recorded : after ≡ if is_ok a then after_call c before else before
    pub list : ds' ≡ if is_ok a then written c before ds else ds

  -- The draw list after the calls as they were answered, with the ledger b before them: each accepted draw was written at the place of its
  -- number, and no other place was written.
  abbrev pub draw_list : Ledger D → List (Call D) → List (Result Answer Refusal) → List D → List D
  draw_list b [] answers ds = ds
  draw_list b (c ∷ cs) [] ds = ds
  draw_list b (c ∷ cs) (a ∷ rest) ds = draw_list (after b c a) cs rest (if is_ok a then written c (recording_for box_of mode_of b) ds else ds)
