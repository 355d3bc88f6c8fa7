use Rattle.std.proofs.Common.{arith}
use Rattle.links.proofs.Wholes.{x_fits, y_fits, holds_turned, linkable_turned, right_heavy_is, right_some, linked_right, left_heavy_is, left_some, linked_left, even_fits, even_some, linked_even}
use Rattle.links.proofs.linking.link.Goals as goal

pub overflow_add-before : goal.overflow_add-before
overflow_add-before g c = let fits = x_fits c.args.item c.requires.holds c.requires.linkable in omega (arith, c.count_at-before.ensures)

pub overflow_add-behind : goal.overflow_add-behind
overflow_add-behind g c = let fits = y_fits c.args.item c.requires.holds c.requires.linkable in omega (arith, c.count_at-behind.ensures)

pub hang-requires-clause-heavy : goal.hang-requires-clause-heavy
hang-requires-clause-heavy g c = right_heavy_is c.args.item c.requires.holds c.requires.linkable c.count_at-before.ensures c.count_at-behind.ensures c.outweighs.ensures c.if-outweighs.true

pub hang-requires-clause-some : goal.hang-requires-clause-some
hang-requires-clause-some g c = right_some c.args.item c.requires.holds c.requires.linkable c.count_at-before.ensures c.count_at-behind.ensures c.outweighs.ensures c.if-outweighs.true c.requires.some

pub hang-requires-then-outweighs-2 : goal.hang-requires-then-outweighs-2
hang-requires-then-outweighs-2 g c = record {
  holds = holds_turned c.args.item c.requires.holds c.requires.linkable;
  linkable = linkable_turned c.args.item c.requires.holds c.requires.linkable;
  heavy = left_heavy_is c.args.item c.requires.holds c.requires.linkable c.count_at-before.ensures c.count_at-behind.ensures c.outweighs.ensures c.outweighs-2.ensures c.if-outweighs-2.true;
  whole = c.requires.whole;
  some = left_some c.args.item c.requires.holds c.requires.linkable c.count_at-before.ensures c.count_at-behind.ensures c.outweighs.ensures c.outweighs-2.ensures c.if-outweighs-2.true c.requires.some;
}

pub make-requires-clause-fits : goal.make-requires-clause-fits
make-requires-clause-fits g c = even_fits c.args.item c.requires.holds c.requires.linkable c.count_at-before.ensures c.count_at-behind.ensures c.outweighs.ensures c.outweighs-2.ensures c.if-outweighs.false c.if-outweighs-2.false c.requires.whole

pub make-requires-clause-some : goal.make-requires-clause-some
make-requires-clause-some g c = even_some c.args.item c.requires.holds c.requires.linkable c.count_at-before.ensures c.count_at-behind.ensures c.outweighs.ensures c.outweighs-2.ensures c.if-outweighs.false c.if-outweighs-2.false c.requires.some

pub returns-then-outweighs : goal.returns-then-outweighs
returns-then-outweighs g c =
    let done = linked_right c.args.item c.requires.holds c.requires.linkable c.count_at-before.ensures c.count_at-behind.ensures c.outweighs.ensures c.if-outweighs.true c.hang.ensures.yields in
    record { same = c.hang.ensures.same; yields = done.yields; order = done.order }

pub returns-then-outweighs-2 : goal.returns-then-outweighs-2
returns-then-outweighs-2 g c =
    let done = linked_left c.args.item c.requires.holds c.requires.linkable c.count_at-before.ensures c.count_at-behind.ensures c.outweighs.ensures c.outweighs-2.ensures c.if-outweighs-2.true c.hang-then-outweighs-2.ensures.yields in
    record { same = c.hang-then-outweighs-2.ensures.same; yields = done.yields; order = done.order }

pub returns : goal.returns
returns g c =
    let done = linked_even c.args.item c.requires.holds c.requires.linkable c.count_at-before.ensures c.count_at-behind.ensures c.outweighs.ensures c.outweighs-2.ensures c.if-outweighs.false c.if-outweighs-2.false c.make.ensures.yields in
    record { same = c.make.ensures.same; yields = done.yields; order = done.order }
