use Rattle.std.proofs.Common.{◌≡◌, get_or, pos, ap, arith, w16, SFits, to_z, of_z, rules}
use Rattle.std.proofs.ByRecursion.{All-get_or}
use Rattle.std.proofs.lemmas.Int.{to_z-of_z}
use Rattle.audio.specs.Audio.{count_at_end, joined_levels}
use Rattle.audio.specs.Levels.{at_end_le}
use Rattle.audio.proofs.Sums.{total_more}
use Rattle.audio.proofs.measure.levels_of.Goals as goal

pub loop-s-preserved : goal.loop-s-preserved
unfolding joined_levels
loop-s-preserved c =
    let xs = c.args.block.now in
    let i = c.loop-s.s-index in
    let f : SFits w16 (get_or c.args.block.now c.loop-s.s-index (pos 0)) = All-get_or (SFits w16) xs i (pos 0) c.loop-s-test.true c.requires.fit in
    let m = total_more xs xs i c.loop-s-test.true c.requires.fit f in
    let s : to_z w16 (of_z w16 (get_or c.args.block.now c.loop-s.s-index (pos 0))) ≡ get_or c.args.block.now c.loop-s.s-index (pos 0) = to_z-of_z w16 _ f in
    let lf : SFits w16 c.min-low.result = search rules in
    let hf : SFits w16 c.max-high.result = search rules in
    record { so_far = grind (arith, to_z-of_z); few = omega (arith, at_end_le (get_or xs i (pos 0)), ap count_at_end s) }
