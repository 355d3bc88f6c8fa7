-- What is in use is what the roots reach, and all else is free.
use Rattle.std.proofs.Common.{◌≡◌, ℕ, zero, suc, ◌+◌, ◌<◌, ◌≤◌, min, max, Bool, true, false, List, [], ◌∷◌, ◌++◌, length, take, Some, None, Option, refl, ap, ◌∙◌, subst, ⊎_elim, arith}
use Rattle.std.proofs.lemmas.Option.{slice_get_within}
use Rattle.std.specs.List.{slice_get}
use Rattle.std.proofs.lemmas.List.{take_all}
use Rattle.std.proofs.lemmas.Bool.{cases_lt}
use Rattle.kinds.specs.Kinds.{Meaning}
use Rattle.cells.specs.declared.cell.Cell.{Cell}
use Rattle.cells.specs.declared.pool.Pool.{Pool}
use Rattle.cells.specs.Cells.{counted, cell_count, referred, refs_at, linked, Live}
use Rattle.cells.specs.Reach.{occurs, child, Reached, HowMany, none, one, other}
use Rattle.cells.specs.References.{used, Arena, NoneLost}
use Rattle.cells.proofs.Lists.{none_past}
use Rattle.cells.proofs.Staying.{follow_more, reached_live}
use Rattle.cells.proofs.Names.{Parent, named_parent}
use Rattle.cells.proofs.Arenas.{rooted}

-- the largest count
biggest : {E S : Type 0} → List (Cell E S) → ℕ
biggest [] = 0
biggest (c ∷ a) = max c.count (biggest a)

count_biggest : {E S : Type 0} (a : List (Cell E S)) (j : ℕ) (c : Cell E S) → slice_get a j ≡ Some c → c.count ≤ biggest a
unfolding biggest
count_biggest [] j c e = absurd (let z : ◌≡◌ {A = ℕ} 0 1 = cc in omega arith)
count_biggest (x ∷ a) zero c e = let xc : x ≡ c = cc in let n = ap (λ y. y.count) xc in omega arith
count_biggest (x ∷ a) (suc j) c e = let h = count_biggest a j c e in omega arith

used_take : {E S : Type 0} (a : List (Cell E S)) (n : ℕ) → n < length a → used (take (suc n) a) ≡ used (take n a) + min (refs_at a n) 1
used_take [] n h = absurd (omega arith)
used_take (c ∷ a) zero h = omega arith
used_take (c ∷ a) (suc n) h = let k = used_take a n (omega arith) in omega arith

module _ {E A S : Type 0} (k : Meaning E A S) (a : List (Cell E S)) (p : Pool) (rs : List ℕ) (arena : Arena k a p rs) where
  child_count : (j : ℕ) (c : Cell E S) (side : Bool) → slice_get a j ≡ Some c → 0 < c.refs → cell_count a (child side j (Some c)) < c.count
  child_count j c false e live = omega (arith, (arena.sound j c e live).counts)
  child_count j c true e live = omega (arith, (arena.sound j c e live).counts)

  refs_in : (i : ℕ) (o : Option (Cell E S)) → slice_get a i ≡ o → 0 < referred o → i < length a
  refs_in i None e h = absurd (omega arith)
  refs_in i (Some c) e h = slice_get_within a i c e

  live_refs : (i : ℕ) (o : Option (Cell E S)) → slice_get a i ≡ o → i < length a → linked o → 0 < referred o
  live_refs i None e h live = absurd (omega (arith, none_past a i e))
  live_refs i (Some c) e h live = live

  from_parent : (i : ℕ) (up : Parent a i) → Reached a rs up.place → Reached a rs i
  from_parent i up r = record {
    root = r.root;
    among = r.among;
    path = r.path ++ (up.side ∷ []);
    leads = follow_more a r.root r.path up.side ∙ ap (λ j. child up.side j (slice_get a j)) r.leads ∙ ap (child up.side up.place) up.at ∙ up.is;
  }

  -- upwards counts grow, so that a root is found at last
  reached_in : (f i : ℕ) → biggest a < cell_count a i + f → 0 < refs_at a i → Reached a rs i
  reached_in zero i h refs = absurd (bounded (slice_get a i) refl)
    where
      bounded : (o : Option (Cell E S)) → slice_get a i ≡ o → ⊥
      bounded None e = let z = ap referred e in omega arith
      bounded (Some c) e = let z = ap counted e in omega (arith, count_biggest a i c e)
  reached_in (suc f) i h refs = ⊎_elim
      (λ l. record { root = i; among = l; path = []; leads = refl })
      (λ no. let n = arena.counts i (refs_in i (slice_get a i) refl refs) in
      let up = named_parent a i (omega arith) in
      let less = child_count up.place up.cell up.side up.at up.live in
      let same = ap (cell_count a) up.is in
      let here = ap counted up.at in
      let there = ap referred up.at in
      from_parent i up (reached_in f up.place (omega arith) (omega (arith, up.live))))
      (cases_lt 0 (occurs rs i))

  used_reached : (i : ℕ) → 0 < refs_at a i → Reached a rs i
  used_reached i refs = reached_in (suc (biggest a)) i (omega arith) refs

  reached_used : (i : ℕ) → i < length a → Reached a rs i → 0 < refs_at a i
  reached_used i within r =
      live_refs i (slice_get a i) refl within (subst (Live a) r.leads (reached_live k a arena.sound r.root r.path (rooted k a p rs arena r.root r.among)))

  how_many : (n : ℕ) → n ≤ length a → HowMany (Reached a rs) n (used (take n a))
  how_many zero h = none
  how_many (suc n) h =
      let before = how_many n (omega arith) in
      let u = used_take a n (omega arith) in
      ⊎_elim
      (λ l. let e : suc (used (take n a)) ≡ used (take (suc n) a) = omega arith in
      subst (HowMany (Reached a rs) (suc n)) e (one (used_reached n l) before))
      (λ z. let e : used (take n a) ≡ used (take (suc n) a) = omega arith in
      subst (HowMany (Reached a rs) (suc n)) e (other (λ r. let l = reached_used n (omega arith) r in omega arith) before))
      (cases_lt 0 (refs_at a n))

  pub none_lost : NoneLost k a p rs
  none_lost = record {
    used_reached = used_reached;
    reached_used = reached_used;
    reached = used a;
    counted = subst (λ x. HowMany (Reached a rs) (length a) (used x)) (take_all (length a) a (omega arith)) (how_many (length a) (omega arith));
    all = arena.all;
  }
