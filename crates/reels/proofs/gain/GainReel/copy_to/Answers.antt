use Rattle.std.proofs.Common.{drop, arith}
use lib.ListN.{length-map}
use Rattle.std.proofs.lemmas.List.{take_at, drop_at}
use Rattle.reels.specs.Gain.{scaled}
use Rattle.reels.specs.Samples.{stretch}
use Rattle.reels.proofs.Copies.{length_stretch}
use Rattle.reels.proofs.Lists.{stretch_map}
use Rattle.reels.proofs.gain.GainReel.copy_to.Goals as goal

pub returns : goal.returns
returns g c =
    let below = g.R.Reel.samples c.args.self.now.below in
    let n = c.copy_to-n.result in
    let copied = c.copy_to-n.ensures in
    let some = stretch below c.args.start n in
    let rest = drop n c.args.block.now in
    let long = length_stretch below c.args.start n (omega (arith, copied.count)) in
    let front = take_at some rest n long in
    let back = drop_at some rest n long in
    let by = stretch_map (scaled c.args.self.now.n) below c.args.start n in
    record { count = rw length-map copied.count; block = grind arith }
