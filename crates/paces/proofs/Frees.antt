-- Where the same roots are owned and what they reach has stayed, as many cells are free.
use Rattle.std.proofs.Common.{◌≡◌, ℕ, suc, ◌<◌, min, List, [], ◌∷◌, length, refl, ⊎_elim, arith}
use Rattle.std.proofs.lemmas.Bool.{cases_lt}
use Rattle.kinds.specs.Kinds.{Meaning}
use Rattle.cells.specs.declared.cell.Cell.{Cell}
use Rattle.cells.specs.declared.pool.Pool.{Pool}
use Rattle.cells.specs.Cells.{refs_at}
use Rattle.cells.specs.Reach.{AllStay}
use Rattle.cells.specs.References.{used, Arena}
use Rattle.cells.specs.Moves.{Moves}
use Rattle.cells.proofs.Staying.{stays_sym}
use Rattle.cells.proofs.Lost.{none_lost}
use Rattle.splits.proofs.Tables.{reached_stays}
use Rattle.paces.specs.Rests.{Rests}

used_same : {E S : Type 0} (a b : List (Cell E S)) → length b ≡ length a → ((i : ℕ) → i < length a → min (refs_at b i) 1 ≡ min (refs_at a i) 1) → used b ≡ used a
used_same [] [] long same = refl
used_same [] (d ∷ b) long same = absurd (omega arith)
used_same (c ∷ a) [] long same = absurd (omega arith)
used_same (c ∷ a) (d ∷ b) long same =
    let first : min d.refs 1 ≡ min c.refs 1 = same 0 (omega arith) in
    let rest = used_same a b (omega arith) (λ i h. same (suc i) (omega arith)) in
    omega arith

module _ {E A S : Type 0} (k : Meaning E A S) (a : List (Cell E S)) (p : Pool) (b : List (Cell E S)) (q : Pool) (rs : List ℕ) (before : Arena k a p rs) (after : Arena k b q rs)
    (stay : AllStay a b rs) (long : length b ≡ length a) where
  on : (i : ℕ) → i < length a → 0 < refs_at a i → 0 < refs_at b i
  on i h used = (none_lost k b q rs after).reached_used i (omega arith) (reached_stays a b rs stay i ((none_lost k a p rs before).used_reached i used))

  back : (i : ℕ) → i < length a → 0 < refs_at b i → 0 < refs_at a i
  back i h used = (none_lost k a p rs before).reached_used i h (reached_stays b a rs (λ r among. stays_sym a b r (stay r among)) i ((none_lost k b q rs after).used_reached i used))

  pub same_free : q.free ≡ p.free
  same_free =
      let same = used_same a b long (λ i h. ⊎_elim
      (λ used. let x = on i h used in omega arith)
      (λ none. ⊎_elim (λ used. let x = back i h used in omega arith) (λ none'. omega arith) (cases_lt 0 (refs_at b i)))
      (cases_lt 0 (refs_at a i))) in
      omega (arith, before.all, after.all)

-- moves that end with what they began with
pub rests_moved : {E A S : Type 0} (k : Meaning E A S) (a : List (Cell E S)) (p : Pool) (b : List (Cell E S)) (q : Pool) (n : ℕ) → Moves k a p [] b q [] n → length b ≡ length a → Rests k a p b q
rests_moved k a p b q n moves long rs arena =
    let m = moves rs arena in
    record { arena = m.arena; stay = m.stay; free = same_free k a p b q rs arena m.arena m.stay long }
