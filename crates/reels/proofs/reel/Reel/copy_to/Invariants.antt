use Rattle.std.proofs.Common.{◌≡◌, ◌-◌, ◌≤◌, ◌++◌, length, drop}
use Rattle.reels.specs.Samples.{stretch}
use Rattle.reels.proofs.reel.Reel.copy_to.Given as goal

abbrev pub invariant-loop-i : goal.invariant-loop-i
invariant-loop-i g l =
    let samples = g.Self.Reel.samples l.self in
    record {
      there : l.i ≤ length samples - l.start;
      copied : l.block ≡ stretch samples l.start l.i ++ drop l.i l.initial.block;
    }
