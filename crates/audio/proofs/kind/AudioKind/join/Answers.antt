use Rattle.std.proofs.Common.{ap, arith}
use Rattle.audio.specs.Lawfulness.{atoms_measured}
use Rattle.audio.proofs.kind.AudioKind.join.Goals as goal

pub returns : goal.returns
returns g c j =
    let samples = g.R.Reel.samples c.args.self.now.reel in
    let bounds = g.R.Reel.bounds c.args.self.now.reel in
    let left = atoms_measured samples bounds j.left j.sums_left.atomic in
    let right = atoms_measured samples bounds j.right j.sums_right.atomic in
    let s = j.sums_left.summed in
    let t = j.sums_right.summed in
    c.louder.ensures
    (omega (arith, ap (λ l. l.frames) s, ap (λ l. l.frames) t, left.frames, right.frames, j.few))
    (omega (arith, ap (λ l. l.clipped) s, ap (λ l. l.clipped) t, left.clipped, right.clipped, j.few))
