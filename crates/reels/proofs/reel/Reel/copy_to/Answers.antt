use Rattle.std.proofs.Common.{sym, arith, rules, w16, SFits}
use Rattle.std.proofs.lemmas.Int.{to_z-of_z}
use Rattle.std.proofs.lemmas.List.{set-get_or}
use Rattle.std.proofs.lemmas.Option.{slice_get_within}
use Rattle.reels.proofs.Copies.{length_stretch, nth_end, stretch_more}
use Rattle.reels.proofs.Lists.{over_step}
use Rattle.reels.proofs.reel.Reel.copy_to.Goals as goal

pub returns-in-None : goal.returns-in-None
returns-in-None g c =
    let end = nth_end (g.Self.Reel.samples c.args.self.now) _ c.in-None.ensures in
    record { count = omega (arith, end, c.loop-i.invariant.there); block = rw set-get_or c.loop-i.invariant.copied }

pub loop-i-preserved : goal.loop-i-preserved
loop-i-preserved g c =
    let samples = g.Self.Reel.samples c.args.self.now in
    let f : SFits w16 c.in-Some.sample = search rules in
    let within = slice_get_within samples _ _ (sym c.in-Some.ensures) in
    let more = stretch_more samples c.args.start c.loop-i.i c.in-Some.sample c.in-Some.ensures in
    let long = length_stretch samples c.args.start c.loop-i.i c.loop-i.invariant.there in
    record { there = omega (arith, within); copied = grind (arith, over_step, to_z-of_z) }
