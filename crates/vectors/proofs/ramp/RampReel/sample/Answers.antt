use Rattle.std.proofs.Common.{◌<◌, length, pos, Some, sym, ap, ◌∙◌, arith, w16}
use Rattle.std.proofs.lemmas.List.FromFn.{length-map-range_with_len, get_or-map-range_with_len}
use Rattle.std.proofs.lemmas.Option.{slice_get-get_or, slice_get_past}
use Rattle.std.proofs.lemmas.Int.{to_z_pos}
use Rattle.vectors.specs.Ramp.{ramp, ramp_samples}
use Rattle.vectors.proofs.ramp.RampReel.sample.Goals as goal

pub returns-then-i-self : goal.returns-then-i-self
unfolding ramp_samples
returns-then-i-self c =
    let frames = c.args.self.now.frames in
    let i = c.args.i in
    let below : c.args.i < length (ramp_samples c.args.self.now.frames) = rw length-map-range_with_len (omega arith) in
    let at = slice_get-get_or (ramp_samples frames) i (pos 0) below ∙ ap Some (get_or-map-range_with_len ramp 0 frames i i (pos 0) (omega arith) (omega arith)) in
    ap Some (to_z_pos w16 _ (omega arith)) ∙ sym at

pub returns-else-i-self : goal.returns-else-i-self
unfolding ramp_samples
returns-else-i-self c = sym (slice_get_past _ c.args.i (rw length-map-range_with_len (omega arith)))
