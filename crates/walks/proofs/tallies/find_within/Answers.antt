use Rattle.std.proofs.Common.{◌≡◌, ℕ, ◌/◌, ap, ◌∙◌, subst, arith}
use Rattle.kinds.specs.Kinds.{Within}
use Rattle.walks.proofs.Sums.{few_element, part_sum}
use Rattle.walks.proofs.Halving.{Halved, halved_low, halved_high, halved_end}
use Rattle.walks.proofs.tallies.find_within.Goals as goal

pub loop-len-preserved-then-rest-tally : goal.loop-len-preserved-then-rest-tally
loop-len-preserved-then-rest-tally g c =
    let k = g.K.Kind.meaning c.args.kind.now in
    let laws = g.K.Kind.laws c.args.kind.now in
    let tally = g.K.Tally.tallied c.args.kind.now in
    let within : Within k c.args.element c.loop-len.from (c.loop-len.len / 2) = record { some = omega arith; inside = omega (arith, c.loop-len.invariant.within) } in
    halved_low k laws tally c.requires.adds (k.atoms c.args.element) c.args.t _ c.loop-len.len _ (c.loop-len.len / 2) c.tally-tally.result c.loop-len.invariant
    (c.tally-tally.ensures.value ∙ ap tally (part_sum k laws c.args.element c.part.result _ _ c.summary.result c.requires.lawful within (c.part.ensures c.requires.lawful within) c.summary.ensures))
    (omega arith) (omega arith) c.if-rest-tally.true

pub loop-len-preserved : goal.loop-len-preserved
loop-len-preserved g c =
    let k = g.K.Kind.meaning c.args.kind.now in
    let laws = g.K.Kind.laws c.args.kind.now in
    let tally = g.K.Tally.tallied c.args.kind.now in
    let within : Within k c.args.element c.loop-len.from (c.loop-len.len / 2) = record { some = omega arith; inside = omega (arith, c.loop-len.invariant.within) } in
    halved_high k laws tally c.requires.adds (k.atoms c.args.element) c.args.t _ c.loop-len.len _ (c.loop-len.len / 2) c.tally-tally.result c.loop-len.invariant
    (c.tally-tally.ensures.value ∙ ap tally (part_sum k laws c.args.element c.part.result _ _ c.summary.result c.requires.lawful within (c.part.ensures c.requires.lawful within) c.summary.ensures))
    (few_element k laws c.args.element c.requires.lawful) (omega arith) c.if-rest-tally.false

pub returns : goal.returns
returns g c =
    let k = g.K.Kind.meaning c.args.kind.now in
    let laws = g.K.Kind.laws c.args.kind.now in
    let tally = g.K.Tally.tallied c.args.kind.now in
    let one : c.loop-len.len ≡ 1 = omega (arith, c.loop-len.invariant.some) in
    halved_end k laws tally c.requires.adds (k.atoms c.args.element) c.args.t c.loop-len.from c.loop-len.rest (few_element k laws c.args.element c.requires.lawful)
    (subst (λ (n : ℕ). Halved k tally (k.atoms c.args.element) c.args.t c.loop-len.from n c.loop-len.rest) one c.loop-len.invariant)
