use Rattle.std.proofs.Common.{sym, ap, arith}
use Rattle.std.proofs.lemmas.Option.{slice_get-get_or, slice_get_past}
use Rattle.cells.specs.Moves.{retained_at}
use Rattle.cells.proofs.Arenas.{refs_room, one_more, retains}
use Rattle.cells.proofs.store.Store.retain.Goals as goal

pub overflow_add-self : goal.overflow_add-self
overflow_add-self g c =
    let h = c.requires.holds.1 in
    let at = slice_get-get_or c.args.self.now.cells.now c.args.i c.index-self-i.result c.if-i-self.true in
    let room = refs_room (g.K.Kind.meaning c.args.self.now.kind.now) c.args.self.now.cells.now c.requires.holds.0 h.rest h.arena c.args.i _ at h.few in
    omega arith

pub returns-then-i-self-clause-exact : goal.returns-then-i-self-clause-exact
returns-then-i-self-clause-exact g c =
    one_more c.args.self.now.cells.now c.args.i _ c.index-self-i.result c.index-self-i-then-i-self.result (slice_get-get_or c.args.self.now.cells.now c.args.i c.index-self-i.result c.if-i-self.true)

pub returns-then-i-self-clause-retains : goal.returns-then-i-self-clause-retains
returns-then-i-self-clause-retains g c =
    retains (one_more c.args.self.now.cells.now c.args.i _ c.index-self-i.result c.index-self-i-then-i-self.result (slice_get-get_or c.args.self.now.cells.now c.args.i c.index-self-i.result c.if-i-self.true)) c.requires.live

pub returns-else-i-self-clause-retains : goal.returns-else-i-self-clause-retains
returns-else-i-self-clause-retains g c =
    retains (sym (ap (retained_at c.args.self.now.cells.now c.args.i) (slice_get_past c.args.self.now.cells.now c.args.i c.if-i-self.false))) c.requires.live
