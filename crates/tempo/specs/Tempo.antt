-- Tempo elements: so many ticks at a tempo, 960 ticks a beat, the tempo in microseconds a beat.
use Rattle.std.specs.Prelude.{ℕ, ◌+◌, cond, replicate, Ok, Err, Result, ◌==◌, nat_lt}
use Rattle.faults.specs.Limits.{limit}
use Rattle.faults.specs.declared.causes.Cause.{Cause}
use Rattle.faults.specs.declared.causes.Cause.TheVariants.{NoExtent, NoTempo, TempoAboveLimit, ExtentAboveLimit}
use Rattle.kinds.specs.Kinds.{Meaning}
use Rattle.tempo.specs.declared.span.Span.{Span}
use Rattle.tempo.specs.declared.beats.Beats.{Beats}

abbrev pub span : ℕ → ℕ → Span
span ticks tempo = record { ticks = ticks; tempo = tempo }

-- two numbers make an element if it has a tick and a tempo, and neither is above its limit; of
-- several causes against them the smallest is told
abbrev pub span_made : ℕ → ℕ → Result Span Cause
span_made ticks tempo =
    cond (ticks == 0) (Err NoExtent)
    (cond (tempo == 0) (Err NoTempo)
    (cond (nat_lt 16777215 tempo) (Err TempoAboveLimit)
    (cond (nat_lt limit ticks) (Err ExtentAboveLimit) (Ok (span ticks tempo)))))

abbrev pub beats : ℕ → ℕ → Beats
beats ticks units = record { ticks = ticks; units = units }

-- an atom is a tick, which means its tempo and has as many units
abbrev pub tempo : Meaning Span ℕ Beats
tempo = record {
  made = span_made;
  first = λ e. e.ticks;
  second = λ e. e.tempo;
  atoms = λ e. replicate e.ticks e.tempo;
  part = λ e d m. span m e.tempo;
  single = λ t. beats 1 t;
  none = beats 0 0;
  plus = λ s t. beats (s.ticks + t.ticks) (s.units + t.units);
  width = λ s. s.ticks;
}
