-- The summary of what was made of two numbers, and of a part.
use Rattle.std.proofs.Common.{◌≡◌, ℕ, ◌^◌, ◌<◌, Ok, Result, take, drop, sym, ap, ◌∙◌}
use Rattle.faults.specs.declared.session.SessionFault.{SessionFault}
use Rattle.kinds.specs.Kinds.{Meaning, Laws, Lawful, of_numbers, Within, total}
use Rattle.kinds.proofs.Totals.{part_lawful}
use Rattle.profile.specs.Columns.{summary_of}

module _ {E A S : Type 0} (k : Meaning E A S) where
  pub summary_made : (a b : ℕ) (e : E) → a < 2 ^ 32 → b < 2 ^ 32 → k.made a b ≡ Ok e
      → (s : S) → (Lawful k e → s ≡ total k (k.atoms e)) → ◌≡◌ {A = Result S SessionFault} (Ok s) (summary_of k (k.made a b))
  summary_made a b e low high is s told = ap Ok (told (of_numbers a b e low high is)) ∙ sym (ap (summary_of k) is)

  pub part_total : Laws k → (e : E) (d m : ℕ) → Lawful k e → Within k e d m → (p : E) → p ≡ k.part e d m
      → (s : S) → (Lawful k p → s ≡ total k (k.atoms p)) → s ≡ total k (take m (drop d (k.atoms e)))
  part_total laws e d m lawful within p is s told =
      told (rw is (part_lawful k laws e d m lawful within)) ∙ ap (λ x. total k (k.atoms x)) is ∙ ap (total k) (laws.part_atoms e d m lawful within)
