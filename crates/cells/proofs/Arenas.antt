-- The invariant over cells, pool and roots, before and after each write.
use Rattle.std.proofs.Common.{◌≡◌, ℕ, ◌+◌, ◌-◌, ◌^◌, ◌<◌, ◌≤◌, ◌≢◌, List, [], ◌∷◌, length, get_or, set, Some, None, Option, sym, refl, ap, ◌∙◌, subst, ⊎_elim, add-one, arith, length-set}
use Rattle.std.specs.List.{slice_get}
use Rattle.std.proofs.lemmas.Bool.{cases_eq}
use Rattle.std.proofs.lemmas.Option.{get_or_from_slice_get, slice_get_within}
use Rattle.kinds.specs.Kinds.{Meaning}
use Rattle.cells.specs.declared.cell.Cell.{Cell}
use Rattle.cells.specs.declared.pool.Pool.{Pool}
use Rattle.cells.specs.Cells.{counted, cell_count, referred, refs_at, linked, Live}
use Rattle.cells.specs.Reach.{hit, occurs, Among, SameCell, AllStay, Remains, Takes}
use Rattle.cells.specs.References.{links, Counted, Chain, Arena}
use Rattle.cells.specs.Moves.{with_refs, retained_at, retained, Retains, GivesUp}
use Rattle.cells.proofs.Lists.{none_past, nth_set_same, nth_set_other}
use Rattle.cells.proofs.Staying.{stays_sym, stays_refl, takes_none, takes_refl, remains_stays}
use Rattle.cells.proofs.Names.{hit_same, hit_other, links_live, links_set, used_set, names_few}
use Rattle.cells.proofs.Writes.{remains_recounted, remained_recounted, remained_freed, sound_recounted, sound_freed, chain_kept}

module _ {E A S : Type 0} (k : Meaning E A S) (a : List (Cell E S)) (p : Pool) (rs : List ℕ) (arena : Arena k a p rs) where
  rooted_at : (i : ℕ) (o : Option (Cell E S)) → slice_get a i ≡ o → Among rs i → linked o
  rooted_at i None e h = tt
  rooted_at i (Some c) e h = let n = arena.counts i (slice_get_within a i c e) in let r = ap referred e in omega arith

  -- what a root names is in use
  pub rooted : (i : ℕ) → Among rs i → Live a i
  rooted i h = rooted_at i (slice_get a i) refl h

  refs_at_lem : (i : ℕ) (o : Option (Cell E S)) → slice_get a i ≡ o → referred o ≤ 131070 + length rs
  refs_at_lem i None e = omega arith
  refs_at_lem i (Some c) e =
      let n = arena.counts i (slice_get_within a i c e) in let r = ap referred e in
      omega (arith, names_few a rs i, arena.all, arena.long)

  -- at most two links from each cell, and the roots
  pub refs_few : (i : ℕ) → refs_at a i ≤ 131070 + length rs
  refs_few i = refs_at_lem i (slice_get a i) refl

  pub refs_room : (i : ℕ) (c : Cell E S) → slice_get a i ≡ Some c → length rs ≤ 2 ^ 30 → c.refs + 1 < 2 ^ 32
  refs_room i c e few = let h = refs_at_lem i (Some c) e in omega arith

  -- roots counted alike are as good
  pub rerooted : (ys : List ℕ) → ((i : ℕ) → i < length a → occurs rs i ≡ occurs ys i) → Arena k a p ys
  rerooted ys same = record {
    sound = arena.sound;
    counts = λ i within. let s = same i within in let o = arena.counts i within in omega arith;
    chain = arena.chain;
    all = arena.all;
    long = arena.long;
  }

  -- the roots stay where what is in use remains, or where nothing is taken
  pub all_stay : (b : List (Cell E S)) → ((i : ℕ) → Live a i → Remains a b i) → AllStay a b rs
  all_stay b remains r among = remains_stays k a arena.sound b remains r (rooted r among)

-- a cell that is owned has a reference
pub owned_refs : {E A S : Type 0} (k : Meaning E A S) (a : List (Cell E S)) (p : Pool) (i : ℕ) (c : Cell E S) → slice_get a i ≡ Some c → (rs : List ℕ) → Arena k a p (i ∷ rs) → 0 < c.refs
owned_refs k a p i c at rs arena = subst linked at (rooted k a p (i ∷ rs) arena i (let h = hit_same i in omega arith))

pub stay_back : {E A S : Type 0} (k : Meaning E A S) (a b : List (Cell E S)) (q : Pool) (rs : List ℕ) → Arena k b q rs → ((i : ℕ) → Live b i → Remains b a i) → AllStay a b rs
stay_back k a b q rs arena remained r among = stays_sym b a r (all_stay k b q rs arena a remained r among)

no_new : (xs : List ℕ) (i : ℕ) → length xs ≤ 0 → Among xs i → ⊥
no_new [] i few h = omega arith
no_new (x ∷ xs) i few h = omega arith

-- where nothing is taken, all that is in use was
pub kept_none : {E S : Type 0} (a b : List (Cell E S)) → Takes a b 0 → (i : ℕ) → Live b i → Remains b a i
kept_none a b t i live = ⊎_elim (λ h. absurd (no_new t.new i t.few h)) (λ r. r) (t.old i live)

-- ---- the references of a cell in use change by one

module _ {E A S : Type 0} (k : Meaning E A S) (a : List (Cell E S)) (i : ℕ) (c : Cell E S) (at : slice_get a i ≡ Some c) (n : ℕ) where
  abbrev d : Cell E S
  d = with_refs c n

  pub same_cell : SameCell c d
  same_cell = record { element = refl; own = refl; left = refl; right = refl; count = refl; summary = refl }

  pub same_back : SameCell d c
  same_back = record { element = refl; own = refl; left = refl; right = refl; count = refl; summary = refl }

  links_kept : (j : ℕ) → 0 < c.refs → 0 < n → links (set a i d) j ≡ links a j
  links_kept j was now =
      let l = links_set a i c d j at in
      let lc = links_live c.refs c j was in
      let ld = links_live n d j now in
      omega arith

  -- a count of references that follows the roots from rs to ys
  recounted : (rs ys : List ℕ) → Counted a rs → 0 < c.refs → 0 < n → n + occurs rs i ≡ c.refs + occurs ys i
      → ((j : ℕ) → j ≢ i → occurs rs j ≡ occurs ys j) → Counted (set a i d) ys
  recounted rs ys counts was now change same j within =
      let l = links_kept j was now in
      let o = counts j (simp length-set at within) in
      ⊎_elim
      (λ q. let h = ap (refs_at (set a i d)) q ∙ ap referred (nth_set_same a i d (slice_get_within a i c at)) in
      let w = ap (refs_at a) q ∙ ap referred at in
      let x = ap (occurs rs) q in let y = ap (occurs ys) q in
      omega arith)
      (λ ne. let s = same j ne in let e = ap referred (nth_set_other a i j d ne) in omega arith)
      (cases_eq j i)

  pub arena_recounted : (p : Pool) (rs ys : List ℕ) → Arena k a p rs → 0 < c.refs → 0 < n → n + occurs rs i ≡ c.refs + occurs ys i
      → ((j : ℕ) → j ≢ i → occurs rs j ≡ occurs ys j) → Arena k (set a i d) p ys
  arena_recounted p rs ys arena was now change same =
      let u = used_set a i c d at in
      let l = length-set a i d in
      record {
        sound = sound_recounted k a i c at d arena.sound same_cell was now;
        counts = recounted rs ys arena.counts was now change same;
        chain = chain_kept a i d c at was p.free p.head arena.chain;
        all = omega (arith, arena.all);
        long = omega (arith, arena.long);
      }

-- the references of the cell i are written in place
written : {E S : Type 0} (a : List (Cell E S)) (i : ℕ) (c x y : Cell E S) (f : ℕ → ℕ) → slice_get a i ≡ Some c
    → set a i (with_refs (get_or a i y) (f (get_or a i x).refs)) ≡ set a i (with_refs c (f c.refs))
written a i c x y f at = ap (λ d. set a i (with_refs d (f (get_or a i x).refs))) (get_or_from_slice_get a i c y at) ∙ ap (λ d. set a i (with_refs c (f d.refs))) (get_or_from_slice_get a i c x at)

pub one_fewer : {E S : Type 0} (a : List (Cell E S)) (i : ℕ) (c x y : Cell E S) → slice_get a i ≡ Some c
    → set a i (with_refs (get_or a i y) ((get_or a i x).refs - 1)) ≡ set a i (with_refs c (c.refs - 1))
one_fewer a i c x y at = written a i c x y (λ n. n - 1) at

pub one_more : {E S : Type 0} (a : List (Cell E S)) (i : ℕ) (c x y : Cell E S) → slice_get a i ≡ Some c
    → set a i (with_refs (get_or a i y) ((get_or a i x).refs + 1)) ≡ retained a i
one_more a i c x y at = written a i c x y (λ n. n + 1) at ∙ sym (ap (retained_at a i) at)

-- ---- retaining

module _ {E A S : Type 0} {k : Meaning E A S} {a : List (Cell E S)} {i : ℕ} where
  retains_at : (o : Option (Cell E S)) → slice_get a i ≡ o → linked o → Retains k a i (retained_at a i o)
  retains_at None e live = record {
    each = λ p rs arena. record {
      arena = rerooted k a p rs arena (i ∷ rs) (λ j within. let h = hit_other i j (λ q. omega (arith, none_past a i e)) in omega arith);
      stay = λ r among. stays_refl a r;
      takes = takes_refl a 0;
      free = omega arith;
    };
    here = λ p rs arena. stays_refl a i;
  }
  retains_at (Some c) e live =
      let n : ℕ = c.refs + 1 in
      let remains = remains_recounted k a i c e (with_refs c n) (same_cell k a i c e n) (omega arith) in
      record {
        each = λ p rs arena. record {
          arena = arena_recounted k a i c e n p rs (i ∷ rs) arena live (omega arith) (let h = hit_same i in omega arith) (λ j ne. let h = hit_other i j ne in omega arith);
          stay = all_stay k a p rs arena (set a i (with_refs c n)) remains;
          takes = takes_none a (set a i (with_refs c n)) (remained_recounted k a i c e (with_refs c n) (same_back k a i c e n) live) 0;
          free = omega arith;
        };
        here = λ p rs arena. remains_stays k a arena.sound (set a i (with_refs c n)) remains i (subst linked (sym e) live);
      }

  pub retains : {b : List (Cell E S)} → b ≡ retained a i → Live a i → Retains k a i b
  retains e live = subst (Retains k a i) (sym e) (retains_at (slice_get a i) refl live)

-- ---- giving up

count_set : {E S : Type 0} (a : List (Cell E S)) (x : ℕ) (c d : Cell E S) → slice_get a x ≡ Some c → d.count ≡ c.count → (j : ℕ) → cell_count (set a x d) j ≡ cell_count a j
count_set a x c d at same j = ⊎_elim
    (λ q. ap (cell_count (set a x d)) q ∙ ap counted (nth_set_same a x d (slice_get_within a x c at)) ∙ same ∙ sym (ap counted at) ∙ sym (ap (cell_count a) q))
    (λ ne. ap counted (nth_set_other a x j d ne))
    (cases_eq j x)

-- the link names no cell
pub given_up_none : {E A S : Type 0} {k : Meaning E A S} {a : List (Cell E S)} {p : Pool} {i : ℕ} → length a ≤ i → GivesUp k a p i a p None
given_up_none {k} {a} {p} {i} past = record {
  was = tt;
  each = λ rs arena. rerooted k a p (i ∷ rs) arena rs (λ j h. let o = hit_other i j (λ q. omega arith) in omega arith);
  takes = takes_refl a 0;
  same_counts = λ j. refl;
  uses = omega arith;
  frees = omega arith;
}

-- the cell c as the first free one, before those of the pool
abbrev first_free : {E S : Type 0} → Pool → Cell E S → Cell E S
first_free p c = record { element = c.element; own = c.own; left = p.head; right = c.right; count = c.count; summary = c.summary; refs = 0 }

module _ {E A S : Type 0} (k : Meaning E A S) (a : List (Cell E S)) (p : Pool) (i : ℕ) (c : Cell E S) (at : slice_get a i ≡ Some c) where
  counted_freed : (rs : List ℕ) → c.refs ≡ 1 → Counted a (i ∷ rs) → Counted (set a i (first_free p c)) (c.left ∷ c.right ∷ rs)
  counted_freed rs one counts j within =
      let l = links_set a i c (first_free p c) j at in
      let lc = links_live c.refs c j (omega arith) in
      let o = counts j (simp length-set at within) in
      ⊎_elim
      (λ q. let h = ap (λ x. hit x j) (sym q) ∙ hit_same j in
      let now = ap (refs_at (set a i (first_free p c))) q ∙ ap referred (nth_set_same a i (first_free p c) (slice_get_within a i c at)) in
      let was = ap (refs_at a) q ∙ ap referred at in
      omega arith)
      (λ ne. let h = hit_other i j ne in let same = ap referred (nth_set_other a i j (first_free p c) ne) in omega arith)
      (cases_eq j i)

  arena_freed : (rs : List ℕ) → c.refs ≡ 1 → Arena k a p (i ∷ rs) → Arena k (set a i (first_free p c)) (record { head = i; free = p.free + 1 }) (c.left ∷ c.right ∷ rs)
  arena_freed rs one arena =
      let u = used_set a i c (first_free p c) at in
      let l = length-set a i (first_free p c) in
      let n = arena.counts i (slice_get_within a i c at) in
      let r = ap referred at in
      let h = hit_same i in
      record {
        sound = sound_freed k a i c at (first_free p c) arena.sound (omega arith) refl;
        counts = counted_freed rs one arena.counts;
        chain = subst (λ m. Chain m (set a i (first_free p c)) i) (sym (add-one p.free))
            (first_free p c, nth_set_same a i (first_free p c) (slice_get_within a i c at), refl, chain_kept a i (first_free p c) c at (omega arith) p.free p.head arena.chain);
        all = omega (arith, arena.all);
        long = omega (arith, arena.long);
      }

module _ {E A S : Type 0} {k : Meaning E A S} {a : List (Cell E S)} {p : Pool} {i : ℕ} {c : Cell E S} (at : slice_get a i ≡ Some c) where
  -- the cell has another reference
  pub given_up_one : {b : List (Cell E S)} → b ≡ set a i (with_refs c (c.refs - 1)) → 1 < c.refs → GivesUp k a p i b p None
  given_up_one e more =
      let n : ℕ = c.refs - 1 in
      subst (λ x. GivesUp k a p i x p None) (sym e) (record {
        was = tt;
        each = λ rs arena. arena_recounted k a i c at n p (i ∷ rs) rs arena (omega arith) (omega arith) (let h = hit_same i in omega arith) (λ j ne. let h = hit_other i j ne in omega arith);
        takes = takes_none a (set a i (with_refs c n)) (remained_recounted k a i c at (with_refs c n) (same_back k a i c at n) (omega arith)) 0;
        same_counts = count_set a i c (with_refs c n) at refl;
        uses = let u = used_set a i c (with_refs c n) at in omega arith;
        frees = omega arith;
      })

  -- it was the last
  pub given_up_last : {b : List (Cell E S)} → b ≡ set a i (first_free p c) → c.refs ≡ 1 → GivesUp k a p i b (record { head = i; free = p.free + 1 }) (Some c)
  given_up_last e one =
      subst (λ x. GivesUp k a p i x (record { head = i; free = p.free + 1 }) (Some c)) (sym e) (record {
        was = at;
        each = λ rs arena. arena_freed k a p i c at rs one arena;
        takes = takes_none a (set a i (first_free p c)) (remained_freed k a i c at (first_free p c) refl) 0;
        same_counts = count_set a i c (first_free p c) at refl;
        uses = let u = used_set a i c (first_free p c) at in omega arith;
        frees = omega arith;
      })
