use Rattle.std.proofs.Common.{map, get_or, take, pos, arith, rules, w16, SFits, length-take}
use lib.ListN.{length-map}
use Rattle.std.proofs.lemmas.Int.{to_z-of_z}
use Rattle.std.proofs.lemmas.List.{map_more}
use Rattle.reels.specs.Gain.{scaled}
use Rattle.reels.proofs.Lists.{over_next, over_step}
use Rattle.reels.proofs.gain.amplify.Goals as goal

pub loop-s-preserved : goal.loop-s-preserved
loop-s-preserved c =
    let old = c.args.block.now in
    let i = c.loop-s.s-index in
    let f : SFits w16 (get_or c.loop-s.block c.loop-s.s-index (pos 0)) = search rules in
    let r : SFits w16 c.scale.result = search rules in
    let was = over_next (map (scaled c.args.n) (take i old)) old i (pos 0) (simp (length-map, length-take) (omega arith)) c.loop-s-test.true in
    let more = map_more (scaled c.args.n) old i (pos 0) c.loop-s-test.true in
    grind (arith, over_step, to_z-of_z, length-map, length-take)
