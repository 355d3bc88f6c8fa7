use Rattle.std.proofs.Common.{◌≡◌, ℕ, ◌*◌, Bool, true, false, cond, eqb, ltb, IfOk, Ok, Err}
use Rattle.faults.specs.Limits.{limit}
use Rattle.faults.specs.declared.causes.Cause.TheVariants.{NoExtent, NoTempo, TempoAboveLimit, ExtentAboveLimit}
use Rattle.tempo.specs.Tempo.{tempo, span, beats}
use Rattle.tempo.specs.Lawfulness.{total_replicate}
use Rattle.profile.specs.Columns.{summary_of}
use Rattle.profile.proofs.pile.beats_of.Goals as goal

by_tests : (a b : ℕ) (none still slow long : Bool) → IfOk (summary_of tempo (cond none (Err NoExtent) (cond still (Err NoTempo) (cond slow (Err TempoAboveLimit) (cond long (Err ExtentAboveLimit) (Ok (span a b))))))) (λ s. s ≡ beats a (a * b))
by_tests a b true still slow long = tt
by_tests a b false true slow long = tt
by_tests a b false false true long = tt
by_tests a b false false false true = tt
by_tests a b false false false false = total_replicate a b

pub returns-clause-sum : goal.returns-clause-sum
returns-clause-sum c =
    let a = c.args.ticks in
    let b = c.args.quarter in
    rw c.measure.ensures (by_tests a b (eqb a 0) (eqb b 0) (ltb 16777215 b) (ltb limit a))
