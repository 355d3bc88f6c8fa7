use Rattle.std.proofs.Common.{arith}
use Rattle.splits.proofs.Facing.{linkable_turned, cost_turned, grows_turned, grows_plain}
use Rattle.splits.proofs.regrowing.link_facing.Goals as goal

pub link-requires-clause-linkable : goal.link-requires-clause-linkable
link-requires-clause-linkable g c = linkable_turned c.requires.holds c.if-flip.true c.requires.linkable

pub link-requires-clause-some : goal.link-requires-clause-some
link-requires-clause-some g c = omega (arith, c.requires.some, cost_turned c.requires.holds c.if-flip.true)

pub returns-then-flip-clause-grows : goal.returns-then-flip-clause-grows
returns-then-flip-clause-grows g c = grows_turned c.requires.holds c.if-flip.true c.args.item.element c.link.new.store.cells.now c.link.new.store.pool c.link.result c.link.ensures.yields

pub returns-clause-grows : goal.returns-clause-grows
returns-clause-grows g c = grows_plain c.requires.holds c.if-flip.false c.args.item.element c.link-2.new.store.cells.now c.link-2.new.store.pool c.link-2.result c.link-2.ensures.yields
