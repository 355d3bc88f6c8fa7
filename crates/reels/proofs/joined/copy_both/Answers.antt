use Rattle.std.proofs.Common.{◌-◌, subst, arith, length-append}
use Rattle.reels.specs.Samples.{Copied}
use Rattle.reels.proofs.Copies.{filled_both, filled_back}
use Rattle.reels.proofs.joined.copy_both.Goals as goal

pub returns-then-start-before : goal.returns-then-start-before
returns-then-start-before g c =
    let xs = g.P.Reel.samples c.args.first.now in
    let ys = g.Q.Reel.samples c.args.second.now in
    filled_both xs ys c.args.start c.args.block.now (rw length-append at c.requires) c.copy_to-n.new.block c.copy_to.new.block c.copy_to-n.result c.copy_to.result (omega arith) c.copy_to-n.ensures c.copy_to.ensures

pub returns-else-start-before : goal.returns-else-start-before
returns-else-start-before g c =
    let xs = g.P.Reel.samples c.args.first.now in
    let ys = g.Q.Reel.samples c.args.second.now in
    let copied = subst (λ n. Copied ys (c.args.start - n) c.args.block.now c.copy_to-else-start-before.new.block c.copy_to-else-start-before.result) c.len-before.ensures c.copy_to-else-start-before.ensures in
    filled_back xs ys c.args.start c.args.block.now (rw length-append at c.requires) c.copy_to-else-start-before.new.block c.copy_to-else-start-before.result (omega arith) copied
