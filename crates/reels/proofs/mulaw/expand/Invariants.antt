use Rattle.std.proofs.Common.{◌≡◌, ◌++◌, map, take, drop}
use Rattle.reels.specs.MuLaw.{decoded}
use Rattle.reels.proofs.mulaw.expand.Given as goal

abbrev pub invariant-loop-i : goal.invariant-loop-i
invariant-loop-i l = l.block ≡ map decoded (take l.i l.bytes) ++ drop l.i l.initial.block
