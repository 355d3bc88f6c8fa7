use Rattle.std.proofs.Common.{rules, refl, ap, arith}
use Rattle.std.proofs.lemmas.Option.{slice_get_within, get_or_from_slice_get}
use Rattle.cells.proofs.Arenas.{one_fewer, owned_refs, given_up_one, given_up_last}
use Rattle.cells.proofs.store.Store.give_up.Goals as goal

pub bounds-self-i : goal.bounds-self-i
bounds-self-i g c = slice_get_within c.args.self.now.cells.now c.args.i _ c.in_ok-c.ensures

pub bounds-self-i-then-c-gt1 : goal.bounds-self-i-then-c-gt1
bounds-self-i-then-c-gt1 g c = slice_get_within c.args.self.now.cells.now c.args.i _ c.in_ok-c.ensures

pub bounds-self-i-then-c-gt1-2 : goal.bounds-self-i-then-c-gt1-2
bounds-self-i-then-c-gt1-2 g c = slice_get_within c.args.self.now.cells.now c.args.i _ c.in_ok-c.ensures

pub bounds-self-i-2 : goal.bounds-self-i-2
bounds-self-i-2 g c = slice_get_within c.args.self.now.cells.now c.args.i _ c.in_ok-c.ensures

pub offset_bounds-self-i : goal.offset_bounds-self-i
offset_bounds-self-i g c = let h = slice_get_within c.args.self.now.cells.now c.args.i _ c.in_ok-c.ensures in search rules

pub offset_bounds-self-i-2 : goal.offset_bounds-self-i-2
offset_bounds-self-i-2 g c = let h = slice_get_within c.args.self.now.cells.now c.args.i _ c.in_ok-c.ensures in search rules

pub overflow_sub-self : goal.overflow_sub-self
overflow_sub-self g c = let same = ap (λ d. d.refs) (get_or_from_slice_get c.args.self.now.cells.now c.args.i _ c.index-self-i.result c.in_ok-c.ensures) in omega (arith, c.if-c-gt1.true)

pub returns-then-c-gt1-clause-given : goal.returns-then-c-gt1-clause-given
returns-then-c-gt1-clause-given g c =
    given_up_one c.in_ok-c.ensures (one_fewer c.args.self.now.cells.now c.args.i _ _ _ c.in_ok-c.ensures) c.if-c-gt1.true

pub returns-clause-given : goal.returns-clause-given
returns-clause-given g c =
    let live = owned_refs (g.K.Kind.meaning c.args.self.now.kind.now) c.args.self.now.cells.now c.args.self.now.pool c.args.i _ c.in_ok-c.ensures c.requires.0 c.requires.1 in
    given_up_last c.in_ok-c.ensures refl (omega (arith, c.if-c-gt1.false))
