use Rattle.std.proofs.Common.{arith}
use Rattle.links.proofs.Turns.{x_fits, y_fits, sits_once, sits_twice, inner_heavy, yields_once, yields_twice}
use Rattle.links.proofs.rebalancing.rotate.Goals as goal

pub overflow_add-inner : goal.overflow_add-inner
overflow_add-inner g c = let fits = y_fits c.args.flip c.args.parts.item c.args.item c.requires.holds c.requires.sits in omega (arith, c.count_at-inner.ensures)

pub overflow_add-outer : goal.overflow_add-outer
overflow_add-outer g c = let fits = x_fits c.args.flip c.args.parts.item c.args.item c.requires.holds c.requires.sits in omega (arith, c.count_at-outer.ensures)

pub rotate_once-requires-clause-sits : goal.rotate_once-requires-clause-sits
rotate_once-requires-clause-sits g c = sits_once c.args.flip c.args.parts.item c.args.item c.requires.holds c.requires.sits c.count_at-inner.ensures c.count_at-outer.ensures c.rotates_once.ensures c.if-rotates_once.true

pub returns-then-rotates_once-clause-yields : goal.returns-then-rotates_once-clause-yields
returns-then-rotates_once-clause-yields g c =
    yields_once c.args.flip c.args.parts.item c.args.item c.requires.holds c.requires.sits c.count_at-inner.ensures c.count_at-outer.ensures c.rotates_once.ensures c.if-rotates_once.true c.rotate_once.ensures.yields

pub rotate_twice-requires-clause-inner : goal.rotate_twice-requires-clause-inner
rotate_twice-requires-clause-inner g c = inner_heavy c.args.flip c.args.parts.item c.args.item c.requires.holds c.requires.sits c.count_at-inner.ensures c.count_at-outer.ensures c.rotates_once.ensures c.if-rotates_once.false

pub rotate_twice-requires-clause-sits : goal.rotate_twice-requires-clause-sits
rotate_twice-requires-clause-sits g c = sits_twice c.args.flip c.args.parts.item c.args.item c.requires.holds c.requires.sits c.count_at-inner.ensures c.count_at-outer.ensures c.rotates_once.ensures c.if-rotates_once.false

pub returns-clause-yields : goal.returns-clause-yields
returns-clause-yields g c =
    yields_twice c.args.flip c.args.parts.item c.args.item c.requires.holds c.requires.sits c.count_at-inner.ensures c.count_at-outer.ensures c.rotates_once.ensures c.if-rotates_once.false c.rotate_twice.ensures.yields
