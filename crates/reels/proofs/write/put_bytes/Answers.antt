use Rattle.std.proofs.Common.{get_or, pos, arith, w16, SFits, rules}
use Rattle.std.proofs.lemmas.Int.{to_z-of_z}
use Rattle.reels.proofs.Bytes.{put_pair, high_fits}
use Rattle.reels.proofs.write.put_bytes.Goals as goal

pub loop-i-preserved : goal.loop-i-preserved
loop-i-preserved c =
    let f : SFits w16 (get_or c.args.block.now c.loop-i.i (pos 0)) = search rules in
    let high = high_fits (get_or c.args.block.now c.loop-i.i (pos 0)) f in
    let put = put_pair c.args.block.now c.args.out.now c.loop-i.i c.loop-i-test.true c.requires in
    grind (arith, to_z-of_z)
