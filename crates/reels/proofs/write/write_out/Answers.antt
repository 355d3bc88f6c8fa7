use Rattle.std.proofs.Common.{◌≡◌, ◌+◌, ◌-◌, ◌/◌, min, length, arith}
use Rattle.reels.proofs.Bytes.{block_step}
use Rattle.reels.proofs.write.write_out.Goals as goal

pub loop-done-preserved : goal.loop-done-preserved
loop-done-preserved g c =
    block_step (g.R.Reel.samples c.args.reel.now) c.args.start c.fitting-n.result c.loop-done.done c.args.out.now c.loop-done.out (omega arith) c.loop-done-test.true c.loop-done.invariant c.write_block.ensures

-- the last block
pub returns-2 : goal.returns-2
returns-2 g c =
    let fit : c.fitting-n.result ≡ min (length c.args.out.now / 2) (length (g.R.Reel.samples c.args.reel.now) - c.args.start) = omega arith in
    let end : min (c.loop-done.done + 512) c.fitting-n.result ≡ c.fitting-n.result = omega arith in
    let all = block_step (g.R.Reel.samples c.args.reel.now) c.args.start c.fitting-n.result c.loop-done.done c.args.out.now c.loop-done.out fit c.loop-done-test.true c.loop-done.invariant c.write_block.ensures in
    record { count = fit; bytes = rw end at all }
