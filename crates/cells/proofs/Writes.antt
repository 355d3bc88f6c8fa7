-- One cell is written: a free one is made, the references of one in use change, or one that nothing names is freed.
use Rattle.std.proofs.Common.{◌≡◌, ℕ, zero, suc, ◌+◌, ◌<◌, ◌≤◌, Bool, true, false, ◌≢◌, List, [], ◌∷◌, length, set, Some, None, Option, sym, refl, ap, ◌∙◌, subst, ⊎_elim, arith}
use Rattle.std.proofs.lemmas.Option.{slice_get_within}
use Rattle.std.specs.List.{slice_get, AllByRecursion}
use Rattle.std.proofs.lemmas.Bool.{cases_eq}
use Rattle.faults.specs.Limits.{limit}
use Rattle.kinds.specs.Kinds.{Meaning, Lawful, IsAtom, total}
use Rattle.balance.specs.Trees.{node}
use Rattle.cells.specs.declared.cell.Cell.{Cell}
use Rattle.cells.specs.Cells.{counted, cell_count, around, tree_to, tree, linked, Live, meant, Good, Sound}
use Rattle.cells.specs.Reach.{child, follow, SameCell, Alike, Stays, Remains}
use Rattle.cells.specs.References.{links, Chain}
use Rattle.cells.proofs.Lists.{none_some, nth_set_same, nth_set_other}
use Rattle.cells.proofs.Trees.{deep_enough}
use Rattle.cells.proofs.Staying.{same_refl, alike_refl, tree_to_lem, tree_stays, count_stays, child_stays, reached_live, remains_stays}
use Rattle.cells.proofs.Names.{child_named}

-- a cell whose tree stays, and whose children are still in use, is as good as before
pub good_stays : {E A S : Type 0} (k : Meaning E A S) (a b : List (Cell E S)) (j : ℕ) (c d : Cell E S) → slice_get a j ≡ Some c → SameCell c d → Stays a b j
    → Live b c.left → Live b c.right → Good k a j c → Good k b j d
good_stays k a b j c d at same stays ll rl good =
    let l = count_stays a b c.left (child_stays a b j c false at stays) ∙ ap (cell_count b) same.left in
    let r = count_stays a b c.right (child_stays a b j c true at stays) ∙ ap (cell_count b) same.right in
    let t = tree_stays a b j stays in
    record {
      left_live = subst (Live b) same.left ll;
      right_live = subst (Live b) same.right rl;
      counts = omega (arith, same.count, good.counts);
      left_light = omega (arith, good.left_light);
      right_light = omega (arith, good.right_light);
      lawful = subst (Lawful k) same.element good.lawful;
      owns = sym same.own ∙ good.owns ∙ ap (λ e. total k (k.atoms e)) same.element;
      sums = sym same.summary ∙ good.sums ∙ ap (λ x. total k (meant k x)) t;
      few = subst (λ x. length (meant k x) ≤ limit) t good.few;
      atomic = subst (λ x. AllByRecursion (IsAtom k) (meant k x)) t good.atomic;
    }

module _ {E A S : Type 0} (k : Meaning E A S) (a : List (Cell E S)) (i : ℕ) (c : Cell E S) (at : slice_get a i ≡ Some c) (d : Cell E S) where
  abbrev b : List (Cell E S)
  b = set a i d

  pub here : slice_get b i ≡ Some d
  here = nth_set_same a i d (slice_get_within a i c at)

  elsewhere : (j : ℕ) → j ≢ i → slice_get b j ≡ slice_get a j
  elsewhere j ne = nth_set_other a i j d ne

  remains_elsewhere : (j : ℕ) → j ≢ i → Live a j → Remains a b j
  remains_elsewhere j ne live = record { alike = subst (Alike (slice_get a j)) (sym (elsewhere j ne)) (alike_refl (slice_get a j)); live = subst linked (sym (elsewhere j ne)) live }

  not_free : (j : ℕ) → c.refs ≡ 0 → Live a j → j ≢ i
  not_free j free live q = let l = subst linked at (subst (Live a) q live) in omega arith

  -- what is in use is not touched where a free cell is made
  pub remains_made : c.refs ≡ 0 → (j : ℕ) → Live a j → Remains a b j
  remains_made free j live = remains_elsewhere j (not_free j free live) live

  pub remains_recounted : SameCell c d → 0 < d.refs → (j : ℕ) → Live a j → Remains a b j
  remains_recounted same more j live = ⊎_elim
      (λ q. subst (Remains a b) (sym q) (record {
        alike = subst (λ o. Alike o (slice_get b i)) (sym at) (subst (Alike (Some c)) (sym here) same);
        live = subst linked (sym here) more;
      }))
      (λ ne. remains_elsewhere j ne live)
      (cases_eq j i)

  -- what is in use was in use, but for the cell that is written
  pub remained : (j : ℕ) → j ≢ i → Live b j → Remains b a j
  remained j ne live = record { alike = subst (λ o. Alike o (slice_get a j)) (sym (elsewhere j ne)) (alike_refl (slice_get a j)); live = subst linked (elsewhere j ne) live }

  pub remained_recounted : SameCell d c → 0 < c.refs → (j : ℕ) → Live b j → Remains b a j
  remained_recounted same was j live = ⊎_elim
      (λ q. subst (Remains b a) (sym q) (record {
        alike = subst (λ o. Alike (slice_get b i) o) (sym at) (subst (λ o. Alike o (Some c)) (sym here) same);
        live = subst linked (sym at) was;
      }))
      (λ ne. remained j ne live)
      (cases_eq j i)

  gone : d.refs ≡ 0 → (j : ℕ) → Live b j → j ≢ i
  gone none j live q = let l = subst linked here (subst (Live b) q live) in omega arith

  pub remained_freed : d.refs ≡ 0 → (j : ℕ) → Live b j → Remains b a j
  remained_freed none j live = remained j (gone none j live) live

  sound_by : Sound k a → (0 < d.refs → Good k b i d)
      → ((j : ℕ) (f : Cell E S) → slice_get a j ≡ Some f → 0 < f.refs → j ≢ i → Stays a b j × Live b f.left × Live b f.right) → Sound k b
  sound_by sound new old j f e live = ⊎_elim
      (λ q. let fd : Some d ≡ Some f = sym here ∙ ap (slice_get b) (sym q) ∙ e in
      let df : d ≡ f = cc in
      let is : Good k b i d = new (let r = ap (λ x. x.refs) df in omega arith) in
      subst (λ n. Good k b n f) (sym q) (subst (Good k b i) df is))
      (λ ne. let ea : slice_get a j ≡ Some f = sym (elsewhere j ne) ∙ e in
      let o = old j f ea live ne in
      good_stays k a b j f f ea (same_refl f) o.0 o.1 o.2 (sound j f ea live))
      (cases_eq j i)

  sound_remaining : Sound k a → ((j : ℕ) → Live a j → Remains a b j) → (0 < d.refs → Good k b i d) → Sound k b
  sound_remaining sound remains new = sound_by sound new (λ j f e live ne. let good = sound j f e live in
      (remains_stays k a sound b remains j (subst linked (sym e) live), (remains f.left good.left_live).live, (remains f.right good.right_live).live))

  pub sound_recounted : Sound k a → SameCell c d → 0 < c.refs → 0 < d.refs → Sound k b
  sound_recounted sound same was more =
      let remains = remains_recounted same more in
      let good = sound i c at was in
      sound_remaining sound remains (λ _. good_stays k a b i c d at same (remains_stays k a sound b remains i (subst linked (sym at) was))
      (remains c.left good.left_live).live (remains c.right good.right_live).live good)

  -- no path leads to a cell that nothing names
  past : (r : ℕ) (path : List Bool) → Sound k a → Live a r → links a i ≡ 0 → r ≢ i → follow a r path ≢ i
  past r [] sound live none ne = ne
  past r (side ∷ path) sound live none ne = past (child side r (slice_get a r)) path sound (reached_live k a sound r (side ∷ []) live) none (next (slice_get a r) refl live)
    where
      next : (o : Option (Cell E S)) → slice_get a r ≡ o → linked o → child side r o ≢ i
      next None e l = ne
      next (Some f) e l = λ q. let n = child_named a r f side e l in let m = ap (links a) q in omega arith

  pub stays_freed : Sound k a → links a i ≡ 0 → (r : ℕ) → Live a r → r ≢ i → Stays a b r
  stays_freed sound none r live ne path = (remains_elsewhere (follow a r path) (past r path sound live none ne) (reached_live k a sound r path live)).alike

  pub sound_freed : Sound k a → links a i ≡ 0 → d.refs ≡ 0 → Sound k b
  sound_freed sound none free = sound_by sound (λ h. absurd (omega arith)) (λ j f e live ne.
      let good = sound j f e live in
      let l : (side : Bool) → child side j (Some f) ≢ i = λ side q. let n = child_named a j f side e live in let m = ap (links a) q in omega arith in (
        stays_freed sound none j (subst linked (sym e) live) ne,
        subst linked (sym (elsewhere f.left (l false))) good.left_live,
        subst linked (sym (elsewhere f.right (l true))) good.right_live,
      ))

  -- a new cell over two trees
  tree_at : (n : ℕ) → d.count ≡ suc n → tree b i ≡ node (tree_to n b d.left) d.element (tree_to n b d.right)
  unfolding tree_to
  tree_at n q = ap (λ f. tree_to f b i) (ap counted here ∙ q) ∙ ap (λ o. around o (tree_to n b)) here

  pub tree_made : Sound k a → c.refs ≡ 0 → Live a d.left → Live a d.right → d.count ≡ cell_count a d.left + 1 + cell_count a d.right
      → tree b i ≡ node (tree a d.left) d.element (tree a d.right)
  tree_made sound free ll rl counts =
      let n : ℕ = cell_count a d.left + cell_count a d.right in
      let q : d.count ≡ suc n = omega arith in
      let stays = remains_stays k a sound b (remains_made free) in
      let t = tree_at n q in
      let l1 = tree_to_lem n a b d.left (stays d.left ll) in
      let r1 = tree_to_lem n a b d.right (stays d.right rl) in
      let l2 = deep_enough k a sound n (cell_count a d.left) d.left (omega arith) (omega arith) ll in
      let r2 = deep_enough k a sound n (cell_count a d.right) d.right (omega arith) (omega arith) rl in
      cc

  pub sound_made : Sound k a → c.refs ≡ 0 → Good k b i d → Sound k b
  sound_made sound free good = sound_remaining sound (remains_made free) (λ _. good)

-- ---- the chain of free cells

-- a chain's length is determined by where it begins
chain_unique : {E S : Type 0} (a : List (Cell E S)) (n m h : ℕ) → Chain n a h → Chain m a h → n ≡ m
chain_unique a zero zero h p q = refl
chain_unique a zero (suc m) h p q = absurd (none_some (slice_get a h) q.0 p q.1)
chain_unique a (suc n) zero h p q = absurd (none_some (slice_get a h) p.0 q p.1)
chain_unique a (suc n) (suc m) h p q =
    let e : Some p.0 ≡ Some q.0 = sym p.1 ∙ q.1 in
    let d : q.0 ≡ p.0 = cc in
    ap suc (chain_unique a n m p.0.left p.3 (subst (λ c. Chain m a c.left) d q.3))

module _ {E S : Type 0} (a : List (Cell E S)) (i : ℕ) (d : Cell E S) where
  -- a chain survives a write at the head of a longer one
  pub chain_popped : (n m h : ℕ) → Chain n a h → Chain m a i → n < m → Chain n (set a i d) h
  chain_popped zero m h p q less =
      let ne : h ≢ i = λ e. let u = chain_unique a zero m i (subst (Chain zero a) e p) q in omega arith in
      nth_set_other a i h d ne ∙ p
  chain_popped (suc n) m h p q less =
      let ne : h ≢ i = λ e. let u = chain_unique a (suc n) m i (subst (Chain (suc n) a) e p) q in omega arith in
      (p.0, nth_set_other a i h d ne ∙ p.1, p.2, chain_popped n m p.0.left p.3 q (omega arith))

  -- and a write at a cell in use
  pub chain_kept : (c : Cell E S) → slice_get a i ≡ Some c → 0 < c.refs → (n h : ℕ) → Chain n a h → Chain n (set a i d) h
  chain_kept c at live zero h p =
      let ne : h ≢ i = λ e. none_some (slice_get a h) c p (ap (slice_get a) e ∙ at) in
      nth_set_other a i h d ne ∙ p
  chain_kept c at live (suc n) h p =
      let ne : h ≢ i = λ e.
      let s : Some p.0 ≡ Some c = sym p.1 ∙ ap (slice_get a) e ∙ at in
      let r : p.0.refs ≡ c.refs = cc in omega (arith, p.2) in
      (p.0, nth_set_other a i h d ne ∙ p.1, p.2, chain_kept c at live n p.0.left p.3)
