use Rattle.links.proofs.Sinks.{sinking_start, x_inside, lighter, sinking_more, sunk}
use Rattle.links.proofs.sinking.sink.Goals as goal

pub loop-path-init : goal.loop-path-init
loop-path-init g c = sinking_start c.args.flip c.requires.sound c.args.left c.requires.live.0 c.args.right c.requires.live.1 c.requires.few.1 c.clear.ensures

pub cell_at-requires : goal.cell_at-requires
cell_at-requires g c = x_inside c.args.flip c.requires.sound c.args.left c.requires.live.0 c.args.right c.requires.deep c.loop-path.invariant c.count_at-light.ensures c.count_at.ensures c.outweighs.ensures c.loop-path-test.true

pub loop-path-smaller : goal.loop-path-smaller
loop-path-smaller g c = lighter c.args.flip c.requires.sound c.args.left c.requires.live.0 c.args.right c.requires.deep c.loop-path.invariant c.count_at-light.ensures c.count_at.ensures c.outweighs.ensures c.loop-path-test.true c.cell_at.ensures c.near_of-x.ensures

pub loop-path-preserved : goal.loop-path-preserved
loop-path-preserved g c = sinking_more c.args.flip c.requires.sound c.args.left c.requires.live.0 c.args.right c.requires.deep c.loop-path.invariant c.count_at-light.ensures c.count_at.ensures c.outweighs.ensures c.loop-path-test.true c.cell_at.ensures c.near_of-x.ensures c.push.ensures.items

pub returns : goal.returns
returns g c = sunk c.args.flip c.requires.sound c.args.left c.requires.live.0 c.args.right c.requires.deep c.loop-path.invariant c.count_at-light.ensures c.count_at.ensures c.outweighs.ensures c.loop-path-test.false
