use Rattle.walks.proofs.Sums.{part_sum}
use Rattle.walks.proofs.ranges.piece.Goals as goal

pub returns-else-len-extent : goal.returns-else-len-extent
returns-else-len-extent g c =
    part_sum (g.K.Kind.meaning c.args.kind.now) (g.K.Kind.laws c.args.kind.now) c.args.c.element c.part.result c.args.from c.args.len c.summary.result c.requires.lawful c.requires.within
    (c.part.ensures c.requires.lawful c.requires.within) c.summary.ensures
