use Rattle.std.proofs.Common.{◌≡◌, ◌<◌, length, take, refl, subst, arith}
use Rattle.geometry.specs.Size.{size}
use Rattle.ledger.specs.Ledger.{ledger}
use Rattle.ledger.proofs.Keeps.{SoFar, keeps-none, reached-next, keeps-led, keeps-always}
use Rattle.ledger.proofs.replay.replay.Goals as goal

pub loop-i-init : goal.loop-i-init
loop-i-init g c =
    record {
      keeps = rw c.new-recorder.ensures (keeps-none _ _ (size 0 0) c.args.draws.now);
      answered = tt;
      later = refl;
      long = refl;
      list = refl;
    }

pub loop-i-preserved : goal.loop-i-preserved
loop-i-preserved g c =
    let lt : c.loop-i.i < length c.args.calls.now = omega arith in
    let lt' : c.loop-i.i < length c.loop-i.answers = omega arith in
    reached-next _ _ c.args.draws.now c.args.calls.now c.loop-i.answers c.args.answers.now c.loop-i.i c.index-calls-i.result c.make_call.result _ _ _ _
    lt lt' c.index-calls-i.is (omega arith) c.make_call.ensures.made c.loop-i.invariant

pub returns : goal.returns
returns g c =
    let box = λ (d : g.row.D.Denot). g.D.Drawable.box_of d c.args.strips.now in
    let mode = g.D.Drawable.mode_of in
    let all : c.loop-i.i ≡ c.min-made.result = omega arith in
    let w : SoFar box mode c.args.draws.now c.args.calls.now c.loop-i.answers c.args.answers.now c.min-made.result c.loop-i.recorder c.loop-i.draws
    = subst (λ i. SoFar box mode c.args.draws.now c.args.calls.now c.loop-i.answers c.args.answers.now i c.loop-i.recorder c.loop-i.draws) all c.loop-i.invariant in
    let b = ledger (take c.min-made.result c.args.calls.now) (take c.min-made.result c.loop-i.answers) in
    record {
      made = c.min-made.ensures;
      later = w.later;
      answered = w.answered;
      list = w.list;
      led = keeps-led box mode b c.loop-i.recorder c.loop-i.draws w.keeps;
      always = keeps-always box mode b c.loop-i.recorder c.loop-i.draws w.keeps;
    }
