use Rattle.std.proofs.Common.{◌-◌, ◌<◌, length, take, drop, sym, ◌∙◌, ap₂}
use Rattle.draws.specs.Strips.{joined_to}
use Rattle.draws.proofs.Loops.{strips-more}
use Rattle.draws.proofs.run.RunDrawable.bbox.Goals as goal

pub loop-strip-preserved : goal.loop-strip-preserved
loop-strip-preserved c =
    let strips = take (c.min-end.result - c.min-start.result) (drop c.min-start.result c.args.strips.now) in
    let lt : c.loop-strip.strip-index < length strips = c.loop-strip-test.true in
    c.join-bbox.ensures ∙ ap₂ joined_to c.loop-strip.invariant c.snapped.ensures ∙ sym (strips-more strips c.loop-strip.strip-index _ lt)
