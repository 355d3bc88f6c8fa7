-- The stack of links that are to be given up, one after the other.
use Rattle.std.proofs.Common.{◌≡◌, ℕ, ◌+◌, ◌*◌, ◌<◌, ◌≤◌, List, [], ◌∷◌, ◌++◌, length, get_or, Some, None, sym, ap, subst, ⊎_elim, arith, length-append}
use Rattle.std.proofs.lemmas.List.{get_or_append_left}
use Rattle.std.proofs.Math.Seq.{get_or-append_seam}
use Rattle.std.proofs.lemmas.Bool.{cases_lt}
use Rattle.kinds.specs.Kinds.{Meaning}
use Rattle.balance.specs.Levels.{Levels, most, deepest}
use Rattle.balance.proofs.Levels.{levels_none, levels_join, levels_narrower, levels_few}
use Rattle.cells.specs.declared.cell.Cell.{Cell}
use Rattle.cells.specs.declared.pool.Pool.{Pool}
use Rattle.cells.specs.Cells.{counted, cell_count}
use Rattle.cells.specs.Reach.{occurs, Takes}
use Rattle.cells.specs.References.{Arena}
use Rattle.cells.specs.Moves.{GivesUp, Releases}
use Rattle.cells.proofs.Staying.{occurs_append, takes_refl, takes_trans}
use Rattle.cells.proofs.Arenas.{rerooted, stay_back, kept_none, owned_refs}
use Rattle.cells.proofs.Lost.{none_lost}

-- a child is lighter than its cell by a quarter
lighter : (j n c y : ℕ) → 4 * (n + 1) ≤ 3 * (c + 1) → Levels j (c + 1) y → Levels j (n + 1) y × Levels (j + 1) (n + 1) y
lighter j n c y h s =
    let one : Levels 1 (n + 1) (c + 1) = omega arith in
    let none : Levels 0 (n + 1) (c + 1) = omega arith in
    let a = levels_join 0 j (n + 1) (c + 1) y none s in
    let b = levels_join 1 j (n + 1) (c + 1) y one s in
    let e : 0 + j ≡ j = omega arith in
    let f : 1 + j ≡ j + 1 = omega arith in
    (subst (λ m. Levels m (n + 1) y) e a, subst (λ m. Levels m (n + 1) y) f b)

-- The links get lighter from the foot of the stack up, so that it stays short.
pub Tapers : {E S : Type 0} → List (Cell E S) → List ℕ → Type 0
Tapers a owed = (j : ℕ) → j < length owed → Levels j (cell_count a (get_or owed j 0) + 1) (most + 1)

module _ {E S : Type 0} (a : List (Cell E S)) (s : List ℕ) (x : ℕ) where
  at_top : get_or (s ++ (x ∷ [])) (length s) 0 ≡ x
  at_top = get_or-append_seam s x [] 0

  tapers_pop : Tapers a (s ++ (x ∷ [])) → Tapers a s
  unfolding Tapers
  tapers_pop tapers j h = subst (λ i. Levels j (cell_count a i + 1) (most + 1)) (get_or_append_left s (x ∷ []) 0 j h) (tapers j (omega (arith, length-append s (x ∷ []))))

  tapers_top : Tapers a (s ++ (x ∷ [])) → Levels (length s) (cell_count a x + 1) (most + 1)
  unfolding Tapers
  tapers_top tapers = subst (λ i. Levels (length s) (cell_count a i + 1) (most + 1)) at_top (tapers (length s) (omega (arith, length-append s (x ∷ []))))

  tapers_push : Tapers a s → Levels (length s) (cell_count a x + 1) (most + 1) → Tapers a (s ++ (x ∷ []))
  unfolding Tapers
  tapers_push tapers top j h = ⊎_elim
      (λ lt. subst (λ i. Levels j (cell_count a i + 1) (most + 1)) (sym (get_or_append_left s (x ∷ []) 0 j lt)) (tapers j lt))
      (λ ge. let e : length s ≡ j = omega (arith, length-append s (x ∷ [])) in
      subst (λ i. Levels i (cell_count a (get_or (s ++ (x ∷ [])) i 0) + 1) (most + 1)) e
      (subst (λ i. Levels (length s) (cell_count a i + 1) (most + 1)) (sym at_top) top))
      (cases_lt j (length s))

  -- a stack has no more links than a tree has levels, and one
  tapers_low : Tapers a (s ++ (x ∷ [])) → length s ≤ deepest
  tapers_low tapers = levels_few (length s) (most + 1) (omega arith) (levels_narrower (length s) (cell_count a x + 1) (most + 1) (tapers_top tapers) (omega arith))

tapers_same : {E S : Type 0} (a b : List (Cell E S)) (s : List ℕ) → ((j : ℕ) → cell_count b j ≡ cell_count a j) → Tapers a s → Tapers b s
unfolding Tapers
tapers_same a b s same tapers j h = subst (λ m. Levels j (m + 1) (most + 1)) (sym (same (get_or s j 0))) (tapers j h)

tapers_one : {E S : Type 0} (a : List (Cell E S)) (x : ℕ) → cell_count a x ≤ most → Tapers a (x ∷ [])
unfolding Tapers
tapers_one a x few j h =
    let z : 0 ≡ j = omega arith in
    subst (λ i. Levels i (cell_count a (get_or (x ∷ []) i 0) + 1) (most + 1)) z (levels_none (cell_count a x + 1) (most + 1) (omega arith))

-- The loop has come from a and p, where the root was owned, to b and q, where the links of the stack are.
pub record Paying {E A S : Type 0} (k : Meaning E A S) (a : List (Cell E S)) (p : Pool) (root : ℕ) (b : List (Cell E S)) (q : Pool) (owed : List ℕ) : Type 0 where
  pub each : (rs : List ℕ) → Arena k a p (root ∷ rs) → Arena k b q (owed ++ rs)
  pub takes : Takes a b 0
  pub more : p.free ≤ q.free
  pub tapers : Tapers b owed

module _ {E A S : Type 0} {k : Meaning E A S} {a : List (Cell E S)} {p : Pool} {root : ℕ} {b : List (Cell E S)} {q : Pool} {t : List ℕ} where
  pub paying_end : Paying k a p root b q t → t ≡ [] → (rs : List ℕ) → Arena k a p (root ∷ rs) → Releases k a p rs b q
  paying_end paying e rs arena =
      let end : Arena k b q rs = subst (λ l. Arena k b q (l ++ rs)) e (paying.each rs arena) in
      record {
        moved = record {
          arena = end;
          stay = stay_back k a b q rs end (kept_none a b paying.takes);
          takes = paying.takes;
          free = omega (arith, paying.more);
        };
        none_lost = none_lost k b q rs end;
      }

  -- the link x is the topmost of t, and s is left without it
  module _ (paying : Paying k a p root b q t) (s : List ℕ) (x : ℕ) (e : t ≡ s ++ (x ∷ [])) where
    tapers : Tapers b (s ++ (x ∷ []))
    tapers = subst (Tapers b) e paying.tapers

    first : (rs : List ℕ) → Arena k a p (root ∷ rs) → Arena k b q (x ∷ (s ++ rs))
    first rs arena = rerooted k b q (t ++ rs) (paying.each rs arena) (x ∷ (s ++ rs))
        (λ i h. let o = ap (λ l. occurs (l ++ rs) i) e in omega (arith, occurs_append (s ++ (x ∷ [])) rs i, occurs_append s (x ∷ []) i, occurs_append s rs i))

    pub paying_owned : ((rs : List ℕ) × Arena k a p (root ∷ rs)) → ((rs : List ℕ) × Arena k b q (x ∷ rs))
    paying_owned h = (s ++ h.0, first h.0 h.1)

    pub paying_room : length s ≤ deepest
    paying_room = tapers_low b s x tapers

    module _ {c : List (Cell E S)} {o : Pool} where
      -- nothing is owed in its place
      pub paying_none : GivesUp k b q x c o None → Paying k a p root c o s
      paying_none gives = record {
        each = λ rs arena. gives.each (s ++ rs) (first rs arena);
        takes = takes_trans a b c 0 0 paying.takes gives.takes;
        more = omega (arith, gives.frees, paying.more);
        tapers = tapers_same b c s gives.same_counts (tapers_pop b s x tapers);
      }

      -- the cell d is free, and its children's links are owed
      pub paying_two : {d : Cell E S} → GivesUp k b q x c o (Some d) → ((rs : List ℕ) × Arena k a p (root ∷ rs))
          → (u : List ℕ) → u ≡ s ++ (d.left ∷ []) → (v : List ℕ) → v ≡ u ++ (d.right ∷ []) → Paying k a p root c o v
      paying_two {d} gives owned u ue v ve =
          let arena = first owned.0 owned.1 in
          let good = arena.sound x d gives.was (owned_refs k b q x d gives.was (s ++ owned.0) arena) in
          let here = tapers_top b s x tapers in
          let w = ap counted gives.was in
          let l = lighter (length s) (cell_count b d.left) (cell_count b x) (most + 1) (omega (arith, good.counts, good.left_light)) here in
          let r = lighter (length s) (cell_count b d.right) (cell_count b x) (most + 1) (omega (arith, good.counts, good.right_light)) here in
          let n : length s + 1 ≡ length u = let z = ap length ue in omega (arith, length-append s (d.left ∷ [])) in
          let low = subst (Tapers b) (sym ue) (tapers_push b s d.left (tapers_pop b s x tapers) l.0) in
          let high = tapers_push b u d.right low (subst (λ j. Levels j (cell_count b d.right + 1) (most + 1)) n r.1) in
          record {
            each = λ rs arena. rerooted k c o (d.left ∷ d.right ∷ (s ++ rs)) (gives.each (s ++ rs) (first rs arena)) (v ++ rs)
                (λ i h. let y = ap (λ l. occurs (l ++ rs) i) ve in let z = ap (λ l. occurs l i) ue in
                omega (arith, occurs_append (u ++ (d.right ∷ [])) rs i, occurs_append u (d.right ∷ []) i, occurs_append s (d.left ∷ []) i, occurs_append s rs i));
            takes = takes_trans a b c 0 0 paying.takes gives.takes;
            more = omega (arith, gives.frees, paying.more);
            tapers = subst (Tapers c) (sym ve) (tapers_same b c (u ++ (d.right ∷ [])) gives.same_counts high);
          }

pub paying_start : {E A S : Type 0} (k : Meaning E A S) (a : List (Cell E S)) (p : Pool) (root : ℕ) → cell_count a root ≤ most
    → (t : List ℕ) → t ≡ root ∷ [] → Paying k a p root a p t
paying_start k a p root few t e = record {
  each = λ rs arena. subst (λ l. Arena k a p (l ++ rs)) (sym e) arena;
  takes = takes_refl a 0;
  more = omega arith;
  tapers = subst (Tapers a) (sym e) (tapers_one a root few);
}
