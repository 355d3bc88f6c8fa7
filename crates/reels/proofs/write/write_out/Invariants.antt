use Rattle.std.proofs.Common.{◌≡◌, ◌*◌, min, ◌++◌, drop}
use Rattle.reels.specs.Samples.{bytes_of, stretch}
use Rattle.reels.proofs.write.write_out.Given as goal

abbrev pub invariant-loop-done : goal.invariant-loop-done
invariant-loop-done g l =
    let samples = g.R.Reel.samples l.reel in
    l.out ≡ bytes_of (stretch samples l.start (min l.done l.n)) ++ drop (2 * min l.done l.n) l.initial.out
