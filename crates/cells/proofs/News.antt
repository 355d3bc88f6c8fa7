-- A free cell becomes one over two trees.
use Rattle.std.proofs.Common.{◌≡◌, ℕ, zero, suc, ◌+◌, ◌-◌, ◌^◌, ◌<◌, ◌≤◌, false, List, [], ◌∷◌, length, set, Some, sym, refl, ap, ◌∙◌, subst, inl, inr, ⊎_elim, arith, length-set}
use Rattle.std.proofs.lemmas.Option.{slice_get_within}
use Rattle.std.specs.List.{slice_get, AllByRecursion}
use Rattle.std.proofs.lemmas.Bool.{cases_eq}
use Rattle.faults.specs.Limits.{limit}
use Rattle.kinds.specs.Kinds.{Meaning, Laws, IsAtom, Joinable, total}
use Rattle.balance.specs.Trees.{Tree, node}
use Rattle.cells.specs.declared.cell.Cell.{Cell}
use Rattle.cells.specs.declared.item.Item.{Item}
use Rattle.cells.specs.declared.pool.Pool.{Pool}
use Rattle.cells.specs.Cells.{cell_count, referred, refs_at, tree, Live, meant, sum_at, Good}
use Rattle.cells.specs.Reach.{hit, Remains, Takes}
use Rattle.cells.specs.References.{Counted, Chain, Arena}
use Rattle.cells.specs.Moves.{Fits, Yields}
use Rattle.cells.proofs.Lists.{nth_set_same, nth_set_other}
use Rattle.cells.proofs.Trees.{Known, known}
use Rattle.cells.proofs.Staying.{count_stays, remains_stays}
use Rattle.cells.proofs.Names.{hit_same, hit_other, links_live, links_free, links_set, used_set}
use Rattle.cells.proofs.Writes.{remains_made, remained, tree_made, sound_made, chain_popped}
use Rattle.cells.proofs.Arenas.{rooted, all_stay}
use Rattle.cells.proofs.Sums.{Told, told, joins_behind, joins_all, node_total, node_atomic, node_few}

-- the first free cell, and the chain of the others
pub record First {E S : Type 0} (a : List (Cell E S)) (p : Pool) : Type 0 where
  pub cell : Cell E S
  pub at : slice_get a p.head ≡ Some cell
  pub free : cell.refs ≡ 0
  pub rest : Chain (p.free - 1) a cell.left

first_at : {E S : Type 0} (n : ℕ) (a : List (Cell E S)) (p : Pool) → p.free ≡ n → 0 < n → Chain n a p.head → First a p
first_at zero a p e some c = absurd (omega arith)
first_at (suc n) a p e some c =
    record { cell = c.0; at = c.1; free = c.2; rest = let m : n ≡ p.free - 1 = omega arith in subst (λ m. Chain m a c.0.left) m c.3 }

pub first : {E A S : Type 0} (k : Meaning E A S) (a : List (Cell E S)) (p : Pool) (rs : List ℕ) → Arena k a p rs → 0 < p.free → First a p
first k a p rs arena some = first_at p.free a p refl some arena.chain

pub first_inside : {E A S : Type 0} {k : Meaning E A S} {a : List (Cell E S)} {p : Pool} {rs : List ℕ} → Arena k a p rs → 0 < p.free → p.head < length a
first_inside {k} {a} {p} {rs} arena some = let f = first k a p rs arena some in slice_get_within a p.head f.cell f.at

-- the links of the new cell were roots
counted_made : {E S : Type 0} (a : List (Cell E S)) (i : ℕ) (f d : Cell E S) (rs : List ℕ) → slice_get a i ≡ Some f → f.refs ≡ 0 → d.refs ≡ 1
    → Counted a (d.left ∷ d.right ∷ rs) → Counted (set a i d) (i ∷ rs)
counted_made a i f d rs at free one counts j within =
    let l = links_set a i f d j at in
    let lf = links_free f.refs f j free in
    let ld = links_live d.refs d j (omega arith) in
    let o = counts j (simp length-set at within) in
    ⊎_elim
    (λ q. let h = ap (λ x. hit x j) (sym q) ∙ hit_same j in
    let now = ap (refs_at (set a i d)) q ∙ ap referred (nth_set_same a i d (slice_get_within a i f at)) in
    let was = ap (refs_at a) q ∙ ap referred at in
    omega arith)
    (λ ne. let h = hit_other i j ne in let same = ap referred (nth_set_other a i j d ne) in omega arith)
    (cases_eq j i)

module _ {E A S : Type 0} {k : Meaning E A S} (laws : Laws k) {a : List (Cell E S)} {p : Pool} {left right : ℕ} {item : Item E S}
    {rs : List ℕ} (arena : Arena k a p (left ∷ right ∷ rs)) (fits : Fits k (tree a left) item (tree a right)) where
  abbrev e : E
  e = item.element

  abbrev own : S
  own = item.own

  abbrev l : Tree E
  l = tree a left

  abbrev r : Tree E
  r = tree a right

  left_live : Live a left
  left_live = rooted k a p (left ∷ right ∷ rs) arena left (let h = hit_same left in omega arith)

  right_live : Live a right
  right_live = rooted k a p (left ∷ right ∷ rs) arena right (let h = hit_same right in omega arith)

  pub left_known : Known a left
  left_known = known k a arena.sound left left_live

  pub right_known : Known a right
  right_known = known k a arena.sound right right_live

  left_told : Told k a left
  left_told = told k a arena.sound left left_live

  right_told : Told k a right
  right_told = told k a arena.sound right right_live

  -- the two joins are of summaries of few atoms
  pub joins_right : (sr : S) → sr ≡ sum_at k a right → Joinable k own sr
  joins_right sr e2 = subst (λ s. Joinable k own s) (sym (e2 ∙ right_told.sums)) (subst (λ s. Joinable k s (total k (meant k r))) (sym fits.owns)
      (joins_behind k laws l e r left_told.atomic fits.lawful right_told.atomic fits.short))

  behind_is : (sr s : S) → sr ≡ sum_at k a right → s ≡ k.plus own sr → s ≡ k.plus (total k (k.atoms e)) (total k (meant k r))
  behind_is sr s e2 e1 = e1 ∙ ap (k.plus own) (e2 ∙ right_told.sums) ∙ ap (λ o. k.plus o (total k (meant k r))) fits.owns

  pub joins_left : (sl sr s : S) → sr ≡ sum_at k a right → s ≡ k.plus own sr → sl ≡ sum_at k a left → Joinable k sl s
  joins_left sl sr s e2 e1 e3 = subst (λ x. Joinable k sl x) (sym (behind_is sr s e2 e1)) (subst (λ x. Joinable k x (k.plus (total k (k.atoms e)) (total k (meant k r)))) (sym (e3 ∙ left_told.sums))
      (joins_all k laws l e r left_told.atomic fits.lawful right_told.atomic fits.short))

  summary_is : (sl sr s t : S) → sr ≡ sum_at k a right → s ≡ k.plus own sr → sl ≡ sum_at k a left → t ≡ k.plus sl s → t ≡ total k (meant k (node l e r))
  summary_is sl sr s t e2 e1 e3 e4 =
      e4 ∙ ap (k.plus sl) (behind_is sr s e2 e1) ∙ ap (λ x. k.plus x (k.plus (total k (k.atoms e)) (total k (meant k r)))) (e3 ∙ left_told.sums)
      ∙ sym (node_total k laws l e r left_told.atomic fits.lawful right_told.atomic fits.short)

  module _ (some : 0 < p.free) (n : ℕ) (s : S) (n_is : n ≡ cell_count a left + 1 + cell_count a right) (s_is : s ≡ total k (meant k (node l e r)))
      (f : Cell E S) (at : slice_get a p.head ≡ Some f) where
    abbrev d : Cell E S
    d = record { element = e; own = own; left = left; right = right; count = n; summary = s; refs = 1 }

    abbrev b : List (Cell E S)
    b = set a p.head d

    abbrev q : Pool
    q = record { head = f.left; free = p.free - 1 }

    same_first : (first k a p (left ∷ right ∷ rs) arena some).cell ≡ f
    same_first = let x = first k a p (left ∷ right ∷ rs) arena some in let e : Some x.cell ≡ Some f = sym x.at ∙ at in cc

    was_free : f.refs ≡ 0
    was_free = let x = first k a p (left ∷ right ∷ rs) arena some in sym (ap (λ c. c.refs) same_first) ∙ x.free

    others : Chain (p.free - 1) a f.left
    others = let x = first k a p (left ∷ right ∷ rs) arena some in subst (λ c. Chain (p.free - 1) a c.left) same_first x.rest

    remains : (j : ℕ) → Live a j → Remains a b j
    remains = remains_made k a p.head f at d was_free

    tree_new : tree b p.head ≡ node l e r
    tree_new = tree_made k a p.head f at d arena.sound was_free left_live right_live n_is

    good : Good k b p.head d
    good =
        let sl = count_stays a b left (remains_stays k a arena.sound b remains left left_live) in
        let sr = count_stays a b right (remains_stays k a arena.sound b remains right right_live) in
        let kl = left_known.counts in
        let kr = right_known.counts in
        record {
          left_live = (remains left left_live).live;
          right_live = (remains right right_live).live;
          counts = omega arith;
          left_light = omega (arith, fits.left_light);
          right_light = omega (arith, fits.right_light);
          lawful = fits.lawful;
          owns = fits.owns;
          sums = s_is ∙ ap (λ x. total k (meant k x)) (sym tree_new);
          few = subst (λ x. length (meant k x) ≤ limit) (sym tree_new) (node_few k laws l e r left_told.atomic fits.lawful right_told.atomic fits.short);
          atomic = subst (λ x. AllByRecursion (IsAtom k) (meant k x)) (sym tree_new) (node_atomic k laws l e r left_told.atomic fits.lawful right_told.atomic fits.short);
        }

    taken_one : Takes a b 1
    taken_one = record {
      new = p.head ∷ [];
      few = omega arith;
      old = λ i live. ⊎_elim
          (λ e. inl (let h = ap (λ x. hit x i) (sym e) ∙ hit_same i in omega arith))
          (λ ne. inr (remained k a p.head f at d i ne live))
          (cases_eq i p.head);
    }

    pub made : Yields k false a p rs b q p.head (node l e r) 1
    made =
        let u = used_set a p.head f d at in
        let len = length-set a p.head d in
        let z = was_free in
        record {
          moved = record {
            arena = record {
              sound = sound_made k a p.head f at d arena.sound was_free good;
              counts = counted_made a p.head f d rs at was_free refl arena.counts;
              chain = chain_popped a p.head d (p.free - 1) p.free f.left others arena.chain (omega (arith, some));
              all = omega (arith, arena.all, some);
              long = omega (arith, arena.long);
            };
            stay = λ i among. all_stay k a p (left ∷ right ∷ rs) arena b remains i (omega arith);
            takes = taken_one;
            free = omega (arith, some);
          };
          tree_is = tree_new;
        }

  -- the same of what the code computes
  pub made_by : (some : 0 < p.free) {cl cr : ℕ} {sr s sl t : S} {f : Cell E S} {b : List (Cell E S)} → cl ≡ cell_count a left → cr ≡ cell_count a right
      → sr ≡ sum_at k a right → (Joinable k own sr → s ≡ k.plus own sr) → sl ≡ sum_at k a left → (Joinable k sl s → t ≡ k.plus sl s) → slice_get a p.head ≡ Some f
      → b ≡ set a p.head (record { element = e; own = own; left = left; right = right; count = cl + 1 + cr; summary = t; refs = 1 })
      → Yields k false a p rs b (record { head = f.left; free = p.free - 1 }) p.head (node l e r) 1
  made_by some {cl} {cr} {sr} {s} {sl} {t} {f} cl_is cr_is sr_is s_is sl_is t_is at b_is =
      let s1 = s_is (joins_right sr sr_is) in
      let t1 = t_is (joins_left sl sr s sr_is s1 sl_is) in
      subst (λ x. Yields k false a p rs x (record { head = f.left; free = p.free - 1 }) p.head (node l e r) 1) (sym b_is)
      (made some (cl + 1 + cr) t (omega arith) (summary_is sl sr s t sr_is s1 sl_is t1) f at)

  pub counts_fit : {cl cr : ℕ} → cl ≡ cell_count a left → cr ≡ cell_count a right → cl + 1 + cr < 2 ^ 32
  counts_fit el er = omega (arith, fits.few, left_known.counts, right_known.counts)
