-- Tempo is a lawful kind.
use Rattle.std.specs.Prelude.{◌≡◌, ℕ, zero, suc, ◌*◌, ◌≤◌, Bool, true, false, cond, List, [], ◌∷◌, length, take, replicate, Ok, Err, ◌==◌, nat_lt, refl}
use Rattle.std.proofs.Common.{sym, ap, ◌∙◌, suc-mul, arith, ltb-false}
use Rattle.std.proofs.lemmas.Bool.{eqb-false}
use Rattle.std.specs.List.{AllByRecursion}
use Rattle.std.proofs.ByRecursion.{all-has}
use Rattle.std.proofs.lemmas.List.{drop-replicate, take-replicate, length-replicate}
use Rattle.faults.specs.Limits.{limit}
use Rattle.faults.specs.Numbers.{cause_number}
use Rattle.faults.specs.declared.causes.Cause.{Cause}
use Rattle.faults.specs.declared.causes.Cause.TheVariants.{NoExtent, NoTempo, TempoAboveLimit, ExtentAboveLimit}
use Rattle.kinds.specs.Kinds.{Laws, Lawful, of_numbers, of_part, IsAtom, Tallies, total}
use Rattle.tempo.specs.declared.span.Span.{Span}
use Rattle.tempo.specs.declared.beats.Beats.{Beats}
use Rattle.tempo.specs.Tempo.{span, beats, tempo}

-- what holds of every element
pub record Timed (e : Span) : Type 0 where
  pub some : 1 ≤ e.ticks
  pub few : e.ticks ≤ limit
  pub quick : e.tempo ≤ 16777215

-- how two numbers were made into an element, by the four tests
module _ (a b : ℕ) where
  made_timed : (e : Span) (none still slow long : Bool) → (a == 0) ≡ none → nat_lt 16777215 b ≡ slow → nat_lt limit a ≡ long → cond none (Err NoExtent) (cond still (Err NoTempo) (cond slow (Err TempoAboveLimit) (cond long (Err ExtentAboveLimit) (Ok (span a b))))) ≡ Ok e → Timed e × (e.ticks ≡ a) × (e.tempo ≡ b)
  made_timed e true still slow long p q r h = let z : ◌≡◌ {A = ℕ} 0 1 = cc in absurd (omega arith)
  made_timed e false true slow long p q r h = let z : ◌≡◌ {A = ℕ} 0 1 = cc in absurd (omega arith)
  made_timed e false false true long p q r h = let z : ◌≡◌ {A = ℕ} 0 1 = cc in absurd (omega arith)
  made_timed e false false false true p q r h = let z : ◌≡◌ {A = ℕ} 0 1 = cc in absurd (omega arith)
  made_timed e false false false false p q r h =
      let same : span a b ≡ e = cc in
      let ticks : e.ticks ≡ a = sym (ap (λ s. s.ticks) same) in
      let quick : e.tempo ≡ b = sym (ap (λ s. s.tempo) same) in (
        record { some = omega (arith, eqb-false a 0 p, ticks); few = omega (arith, ltb-false limit a r, ticks); quick = omega (arith, ltb-false 16777215 b q, quick) },
        ticks,
        quick,
      )

  refused_cause : (c : Cause) (none still slow long : Bool) → cond none (Err NoExtent) (cond still (Err NoTempo) (cond slow (Err TempoAboveLimit) (cond long (Err ExtentAboveLimit) (Ok (span a b))))) ≡ Err c → 1 ≤ cause_number c
  refused_cause c true still slow long h = let same : c ≡ NoExtent = cc in rw same (omega arith)
  refused_cause c false true slow long h = let same : c ≡ NoTempo = cc in rw same (omega arith)
  refused_cause c false false true long h = let same : c ≡ TempoAboveLimit = cc in rw same (omega arith)
  refused_cause c false false false true h = let same : c ≡ ExtentAboveLimit = cc in rw same (omega arith)
  refused_cause c false false false false h = let z : ◌≡◌ {A = ℕ} 0 1 = cc in absurd (omega arith)

pub timed : {e : Span} → Lawful tempo e → Timed e
timed (of_numbers a b e p q h) = (made_timed a b e _ _ _ _ refl refl refl h).0
timed (of_part whole d m e l w h) =
    let i = timed l in
    let n = length-replicate whole.ticks whole.tempo in
    let ticks : e.ticks ≡ m = sym (ap (λ s. s.ticks) h) in
    let quick : e.tempo ≡ whole.tempo = sym (ap (λ s. s.tempo) h) in
    record { some = omega (arith, w.some, ticks); few = omega (arith, w.inside, n, i.few, ticks); quick = omega (arith, i.quick, quick) }

all_replicate : (P : ℕ → Type 0) (n x : ℕ) → P x → AllByRecursion P (replicate n x)
all_replicate P zero x p = tt
all_replicate P (suc n) x p = (p, all_replicate P n x p)

-- an atom is a tempo
atom_quick : (a : ℕ) → IsAtom tempo a → a ≤ 16777215
atom_quick a h =
    let e = h.element in
    all-has (λ t. t ≤ 16777215) (replicate e.ticks e.tempo) a (all_replicate (λ t. t ≤ 16777215) e.ticks e.tempo (timed h.lawful).quick) h.occurs

-- the beats of atoms
pub record Counted (n : ℕ) (s : Beats) : Type 0 where
  pub ticks : s.ticks ≡ n
  pub units : s.units ≤ n * 16777215

pub counted : (xs : List ℕ) → AllByRecursion (IsAtom tempo) xs → Counted (length xs) (total tempo xs)
counted [] h = record { ticks = refl; units = omega arith }
counted (x ∷ xs) h =
    let r = counted xs h.1 in
    record { ticks = omega (arith, r.ticks); units = omega (arith, r.units, atom_quick x h.0) }

pub same_beats : (s t : Beats) → s.ticks ≡ t.ticks → s.units ≡ t.units → s ≡ t
same_beats s t p q = ap (λ n. beats n s.units) p ∙ ap (λ n. beats t.ticks n) q

none_before : (s : Beats) → tempo.plus (beats 0 0) s ≡ s
none_before s = same_beats _ s (omega arith) (omega arith)

none_after : (s : Beats) → tempo.plus s (beats 0 0) ≡ s
none_after s = same_beats _ s (omega arith) (omega arith)

-- all ticks of an element have its tempo
pub total_replicate : (n t : ℕ) → total tempo (replicate n t) ≡ beats n (n * t)
total_replicate zero t = same_beats _ _ refl (omega arith)
total_replicate (suc n) t = ap (tempo.plus (beats 1 t)) (total_replicate n t) ∙ same_beats _ _ (omega arith) (omega (arith, suc-mul n t))

pub tempo_laws : Laws tempo
tempo_laws = record {
  made_first = λ a b e p q h. (made_timed a b e _ _ _ _ refl refl refl h).1;
  made_second = λ a b e p q h. (made_timed a b e _ _ _ _ refl refl refl h).2;
  caused = λ a b c p q h. refused_cause a b c (a == 0) (b == 0) (nat_lt 16777215 b) (nat_lt limit a) h;
  some = λ e l. rw length-replicate (timed l).some;
  few = λ e l. rw length-replicate (timed l).few;
  part_atoms = λ e d m l w.
      let n = length-replicate e.ticks e.tempo in
      sym (ap (take m) (drop-replicate d e.ticks e.tempo) ∙ take-replicate m _ e.tempo (omega (arith, w.inside, n)));
  one_none = λ a h. none_after (beats 1 a);
  none_left = λ xs h n. none_before (total tempo xs);
  none_right = λ xs h n. none_after (total tempo xs);
  assoc = λ xs ys zs p q r n. same_beats _ _ (omega arith) (omega arith);
  total_width = λ xs h n. (counted xs h).ticks;
}

pub tempo_tallies : Tallies tempo (λ s. s.units)
tempo_tallies = record { none = refl; atom = λ a h. atom_quick a h; adds = λ s t j. refl }
