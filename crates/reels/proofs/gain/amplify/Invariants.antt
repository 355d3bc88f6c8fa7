use Rattle.std.proofs.Common.{◌≡◌, ◌++◌, map, take, drop}
use Rattle.reels.specs.Gain.{scaled}
use Rattle.reels.proofs.gain.amplify.Given as goal

abbrev pub invariant-loop-s : goal.invariant-loop-s
invariant-loop-s l = l.block ≡ map (scaled l.n) (take l.s-index l.initial.block) ++ drop l.s-index l.initial.block
