use Rattle.std.proofs.Common.{sym, subst}
use Rattle.std.proofs.lemmas.List.{length_push}
use Rattle.std.proofs.lemmas.Iterator.Adapters.{YieldsList-from_rev_slice}
use Rattle.std.proofs.lemmas.Iterator.Consumers.{YieldsList-turn, YieldsList-end}
use Rattle.cells.specs.Lent.{same_loan_trans}
use Rattle.links.proofs.Climbs.{Climbing, turn, climbing_end}
use Rattle.links.proofs.climbing.climb.Goals as goal

pub raise-x-requires : goal.raise-x-requires
raise-x-requires g c =
    let at = YieldsList-turn (YieldsList-from_rev_slice c.args.path.now.items cc) c.loop-i.yielded _ c.loop-i.yielded_by _ _ c.in-Some.field-0 c.in-Some.is c.next.ensures.steps in
    let t = turn c.requires.holds c.requires.tabled c.loop-i.invariant.1 c.in-Some.field-0.now at in
    rw c.loop-i.invariant.0.kind (record { above = t.above; inside = t.inside; sits = t.sits; some = t.some c.requires.some })

pub loop-i-preserved : goal.loop-i-preserved
loop-i-preserved g c =
    let at = YieldsList-turn (YieldsList-from_rev_slice c.args.path.now.items cc) c.loop-i.yielded _ c.loop-i.yielded_by _ _ c.in-Some.field-0 c.in-Some.is c.next.ensures.steps in
    let t = turn c.requires.holds c.requires.tabled c.loop-i.invariant.1 c.in-Some.field-0.now at in
    let e = length_push c.loop-i.yielded c.in-Some.field-0 in (
      same_loan_trans c.loop-i.invariant.0 c.raise-x.ensures.same,
      subst (Climbing (g.K.Kind.meaning c.args.store.now.kind.now) c.args.flip c.args.store.now.cells.now c.args.store.now.pool c.args.low c.args.right c.args.path.now.items c.raise-x.new.store.cells.now c.raise-x.new.store.pool c.raise-x.result) (sym e)
          (t.next c.raise-x.new.store.cells.now c.raise-x.new.store.pool c.raise-x.result (rw c.loop-i.invariant.0.kind at c.raise-x.ensures.yields)),
    )

pub returns-clause-raises : goal.returns-clause-raises
returns-clause-raises g c =
    let all = YieldsList-end (YieldsList-from_rev_slice c.args.path.now.items cc) c.loop-i.yielded _ c.loop-i.yielded_by _ _ c.in-None.is c.next.ensures.steps in
    climbing_end c.loop-i.invariant.1 all.1
