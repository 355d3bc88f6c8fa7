use Rattle.std.proofs.Common.{◌+◌, ◌-◌, min, ap, ◌∙◌, arith}
use Rattle.kinds.specs.Kinds.{total}
use Rattle.audio.specs.Audio.{audio}
use Rattle.audio.proofs.Sums.{stretch_end, block_step}
use Rattle.audio.proofs.measure.measure.Goals as goal

pub loop-at-preserved : goal.loop-at-preserved
loop-at-preserved g c =
    let samples = g.R.Reel.samples c.args.reel.now in
    let bounds = g.R.Reel.bounds c.args.reel.now in record {
      begun = omega arith;
      so_far = block_step samples c.args.start c.loop-at.at c.min-end.result bounds c.loop-at.invariant.begun c.loop-at-test.true (omega arith) c.loop-at.invariant.so_far c.measure_block.ensures c.louder-sum.ensures;
    }

-- the last block
pub returns-2 : goal.returns-2
returns-2 g c =
    let samples = g.R.Reel.samples c.args.reel.now in
    let bounds = g.R.Reel.bounds c.args.reel.now in
    block_step samples c.args.start c.loop-at.at c.min-end.result bounds c.loop-at.invariant.begun c.loop-at-test.true (omega arith) c.loop-at.invariant.so_far c.measure_block.ensures c.louder-sum.ensures
    ∙ ap (total (audio samples)) (stretch_end samples c.args.start (min (c.loop-at.at + 512) c.min-end.result - c.args.start) c.args.frames (omega (arith, bounds.few)))
