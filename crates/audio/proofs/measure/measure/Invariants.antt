use Rattle.std.proofs.Common.{◌≡◌, ◌-◌, ◌≤◌, min}
use Rattle.kinds.specs.Kinds.{total}
use Rattle.reels.specs.Samples.{stretch}
use Rattle.audio.specs.Audio.{audio}
use Rattle.audio.proofs.measure.measure.Given as goal

abbrev pub invariant-loop-at : goal.invariant-loop-at
invariant-loop-at g l =
    let samples = g.R.Reel.samples l.reel in
    record { begun : l.start ≤ l.at; so_far : l.sum ≡ total (audio samples) (stretch samples l.start (min l.at l.end - l.start)) }
