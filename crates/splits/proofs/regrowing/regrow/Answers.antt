use Rattle.cells.specs.Lent.{same_loan_refl, same_loan_trans}
use Rattle.splits.proofs.Loops.{regrowing_start, joinable, regrowing_more, regrowing_end}
use Rattle.splits.proofs.regrowing.regrow.Goals as goal

pub loop-i-init : goal.loop-i-init
loop-i-init g c = (same_loan_refl _, λ grows. regrowing_start grows _ cc)

pub regrow_one-x-requires : goal.regrow_one-x-requires
regrow_one-x-requires g c = rw c.loop-i.invariant.0.kind (joinable c.requires (c.loop-i.invariant.1 c.requires) _ c.in-Some.field-0.now c.in-Some.ensures.steps)

pub loop-i-preserved : goal.loop-i-preserved
loop-i-preserved g c = (
  same_loan_trans c.loop-i.invariant.0 c.regrow_one-x.ensures.same,
  λ grows. regrowing_more grows (c.loop-i.invariant.1 grows) _ c.in-Some.field-0.now c.in-Some.ensures.steps (rw c.loop-i.invariant.0.kind at c.regrow_one-x.ensures.grown),
)

pub returns-clause-regrown : goal.returns-clause-regrown
returns-clause-regrown g c = regrowing_end c.requires (c.loop-i.invariant.1 c.requires) c.in-None.ensures.steps.0
