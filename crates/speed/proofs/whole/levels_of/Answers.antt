use Rattle.std.proofs.Common.{length, sym, ap, ◌∙◌, arith}
use Rattle.kinds.specs.Kinds.{of_numbers}
use Rattle.audio.specs.Audio.{audio_reel, clip_made}
use Rattle.speed.specs.Summaries.{levels_of_samples}
use Rattle.speed.proofs.Elements.{whole_levels}
use Rattle.speed.proofs.whole.levels_of.Goals as goal

pub returns-in-Ok : goal.returns-in-Ok
returns-in-Ok g c =
    let samples = g.R.Reel.samples in
    let there = audio_reel c.new-kind.result in
    let is = sym c.in-Ok.ensures in
    let lawful = of_numbers 0 c.len-frames.result c.in-Ok.all (omega arith) (omega arith) is in
    let all = ap (clip_made (samples there) 0) (sym (c.len-frames.ensures ∙ ap (λ r. length (samples r)) (sym c.new-kind.ensures))) ∙ is in
    c.summary.ensures lawful
    ∙ whole_levels (samples there) c.in-Ok.all all
    ∙ ap (λ r. levels_of_samples (samples r)) c.new-kind.ensures
