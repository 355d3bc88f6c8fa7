use Rattle.std.proofs.Common.{sym}
use Rattle.std.proofs.lemmas.List.FromFn.{length-map-range_with_len}
use Rattle.vectors.specs.Ramp.{ramp, ramp_samples}
use Rattle.vectors.proofs.ramp.RampReel.len.Goals as goal

pub returns : goal.returns
unfolding ramp_samples
returns c = sym (length-map-range_with_len ramp 0 c.args.self.now.frames)
