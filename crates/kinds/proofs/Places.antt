-- What lies before a place and after it: as lists of elements, and as the atoms that they mean.
use Rattle.std.proofs.Common.{◌≡◌, ℕ, ◌+◌, ◌-◌, ◌<◌, ◌≤◌, eqb, leb, List, [], ◌∷◌, ◌++◌, length, take, drop, sym, refl, ap, ◌∙◌, append_assoc, append-nil, zero-add, arith, length-append, length-drop, length-take, take_all}
use lib.Seq.{take-append-le, drop-append-le, take-append-add, drop-append-add}
use Rattle.std.specs.List.{AllByRecursion}
use Rattle.std.proofs.ByRecursion.{All-append}
use Rattle.std.proofs.lemmas.List.{drop_all, drop-drop, take_at, drop_at, take-append-drop}
use Rattle.std.proofs.lemmas.Bool.{leb-true, leb-false, eqb-true, eqb-false, le-leb, lt-leb, ne_eqb, cond-true, cond-false, cond_both}
use Rattle.kinds.specs.Kinds.{Meaning, Laws, Lawful, Within}
use Rattle.kinds.specs.Places.{extent, extent_of, atoms_of, before, after, divided, put_at, taken, without}
use Rattle.kinds.proofs.Totals.{part_lawful}

module _ {E A S : Type 0} (k : Meaning E A S) where
  pub extent_append : (xs ys : List E) → extent_of k (xs ++ ys) ≡ extent_of k xs + extent_of k ys
  extent_append [] ys = sym (zero-add (extent_of k ys))
  extent_append (x ∷ xs) ys = omega (arith, extent_append xs ys)

  pub atoms_append : (xs ys : List E) → atoms_of k (xs ++ ys) ≡ atoms_of k xs ++ atoms_of k ys
  atoms_append [] ys = refl
  atoms_append (x ∷ xs) ys =
      ap (λ l. k.atoms x ++ l) (atoms_append xs ys) ∙ sym (append_assoc (k.atoms x) (atoms_of k xs) (atoms_of k ys))

  pub extent_counts : (es : List E) → extent_of k es ≡ length (atoms_of k es)
  extent_counts [] = refl
  extent_counts (e ∷ es) = rw length-append (omega (arith, extent_counts es))

  -- A place falls behind the first element of a list, before it or inside it.
  pub before_behind : (e : E) (es : List E) (p : ℕ) → extent k e ≤ p → before k p (e ∷ es) ≡ e ∷ before k (p - extent k e) es
  unfolding before
  before_behind e es p h = cond-true _ _ _ (le-leb (extent k e) p h)

  before_start : (e : E) (es : List E) → 1 ≤ extent k e → before k 0 (e ∷ es) ≡ []
  unfolding before
  before_start e es h = cond-false _ _ _ (lt-leb (extent k e) 0 h)

  pub before_inside : (e : E) (es : List E) (p : ℕ) → 1 ≤ p → p < extent k e → before k p (e ∷ es) ≡ k.part e 0 p ∷ []
  unfolding before
  before_inside e es p some h =
      cond-false _ _ _ (lt-leb (extent k e) p h) ∙ cond-false _ _ _ (ne_eqb p 0 (λ z. omega arith))

  before_cases : (P : List E → Type 0) (e : E) (es : List E) (p : ℕ) → (extent k e ≤ p → P (e ∷ before k (p - extent k e) es))
      → (p ≡ 0 → P []) → (1 ≤ p → p < extent k e → P (k.part e 0 p ∷ [])) → P (before k p (e ∷ es))
  unfolding before
  before_cases P e es p behind start inside =
      cond_both (leb (extent k e) p) _ _ P
      (λ t. behind (leb-true (extent k e) p t))
      (λ f. cond_both (eqb p 0) _ _ P
      (λ t. start (eqb-true p 0 t))
      (λ n. let some : p ≡ 0 → ⊥ = eqb-false p 0 n in inside (omega arith) (leb-false (extent k e) p f)))

  pub after_behind : (e : E) (es : List E) (p : ℕ) → extent k e ≤ p → after k p (e ∷ es) ≡ after k (p - extent k e) es
  unfolding after
  after_behind e es p h = cond-true _ _ _ (le-leb (extent k e) p h)

  after_start : (e : E) (es : List E) → 1 ≤ extent k e → after k 0 (e ∷ es) ≡ e ∷ es
  unfolding after
  after_start e es h = cond-false _ _ _ (lt-leb (extent k e) 0 h)

  pub after_inside : (e : E) (es : List E) (p : ℕ) → 1 ≤ p → p < extent k e → after k p (e ∷ es) ≡ k.part e p (extent k e - p) ∷ es
  unfolding after
  after_inside e es p some h =
      cond-false _ _ _ (lt-leb (extent k e) p h) ∙ cond-false _ _ _ (ne_eqb p 0 (λ z. omega arith))

  after_cases : (P : List E → Type 0) (e : E) (es : List E) (p : ℕ) → (extent k e ≤ p → P (after k (p - extent k e) es))
      → (p ≡ 0 → P (e ∷ es)) → (1 ≤ p → p < extent k e → P (k.part e p (extent k e - p) ∷ es)) → P (after k p (e ∷ es))
  unfolding after
  after_cases P e es p behind start inside =
      cond_both (leb (extent k e) p) _ _ P
      (λ t. behind (leb-true (extent k e) p t))
      (λ f. cond_both (eqb p 0) _ _ P
      (λ t. start (eqb-true p 0 t))
      (λ n. let some : p ≡ 0 → ⊥ = eqb-false p 0 n in inside (omega arith) (leb-false (extent k e) p f)))

  -- whole elements before the place are passed over
  pub before_skip : (xs ys : List E) (d : ℕ) → before k (extent_of k xs + d) (xs ++ ys) ≡ xs ++ before k d ys
  before_skip [] ys d = ap (λ (n : ℕ). before k n ys) (zero-add d)
  before_skip (x ∷ xs) ys d =
      let rest : extent_of k (x ∷ xs) + d - extent k x ≡ extent_of k xs + d = omega arith in
      before_behind x (xs ++ ys) (extent_of k (x ∷ xs) + d) (omega arith)
      ∙ ap (λ l. x ∷ l) (ap (λ (n : ℕ). before k n (xs ++ ys)) rest ∙ before_skip xs ys d)

  pub after_skip : (xs ys : List E) (d : ℕ) → after k (extent_of k xs + d) (xs ++ ys) ≡ after k d ys
  after_skip [] ys d = ap (λ (n : ℕ). after k n ys) (zero-add d)
  after_skip (x ∷ xs) ys d =
      let rest : extent_of k (x ∷ xs) + d - extent k x ≡ extent_of k xs + d = omega arith in
      after_behind x (xs ++ ys) (extent_of k (x ∷ xs) + d) (omega arith)
      ∙ (ap (λ (n : ℕ). after k n (xs ++ ys)) rest ∙ after_skip xs ys d)

  pub divides_inside : (xs ys : List E) (e : E) (d : ℕ) → 1 ≤ d → d < extent k e
      → (before k (extent_of k xs + d) (xs ++ (e ∷ ys)) ≡ xs ++ (k.part e 0 d ∷ []))
      × (after k (extent_of k xs + d) (xs ++ (e ∷ ys)) ≡ k.part e d (extent k e - d) ∷ ys)
  divides_inside xs ys e d some h = (
    before_skip xs (e ∷ ys) d ∙ ap (λ l. xs ++ l) (before_inside e ys d some h),
    after_skip xs (e ∷ ys) d ∙ after_inside e ys d some h,
  )

  -- on either side of a place there are no more elements than there were
  pub before_fewer : (es : List E) (p : ℕ) → length (before k p es) ≤ length es
  unfolding before
  before_fewer [] p = omega arith
  before_fewer (e ∷ es) p =
      before_cases (λ l. length l ≤ length (e ∷ es)) e es p
      (λ h. omega (arith, before_fewer es (p - extent k e))) (λ z. omega arith) (λ some h. omega arith)

  pub after_fewer : (es : List E) (p : ℕ) → length (after k p es) ≤ length es
  unfolding after
  after_fewer [] p = omega arith
  after_fewer (e ∷ es) p =
      after_cases (λ l. length l ≤ length (e ∷ es)) e es p
      (λ h. omega (arith, after_fewer es (p - extent k e))) (λ z. omega arith) (λ some h. omega arith)

  pub taken_fewer : (es : List E) (from len : ℕ) → length (taken k from len es) ≤ length es
  unfolding taken
  taken_fewer es from len = omega (arith, before_fewer (after k from es) len, after_fewer es from)

  -- the two parts of a divided element
  front_within : (e : E) (p : ℕ) → 1 ≤ p → p < extent k e → Within k e 0 p
  front_within e p some h = record { some = some; inside = omega arith }

  back_within : (e : E) (p : ℕ) → p < extent k e → Within k e p (extent k e - p)
  back_within e p h = record { some = omega arith; inside = omega arith }

  module _ (laws : Laws k) where
    before_none : (es : List E) → AllByRecursion (Lawful k) es → before k 0 es ≡ []
    unfolding before
    before_none [] l = refl
    before_none (e ∷ es) l = before_start e es (laws.some e l.0)

    after_none : (es : List E) → AllByRecursion (Lawful k) es → after k 0 es ≡ es
    unfolding after
    after_none [] l = refl
    after_none (e ∷ es) l = after_start e es (laws.some e l.0)

    -- at a place between two elements nothing is divided
    pub divides_nothing : (xs ys : List E) (p : ℕ) → extent_of k xs ≡ p → AllByRecursion (Lawful k) ys
        → (before k p (xs ++ ys) ≡ xs) × (after k p (xs ++ ys) ≡ ys)
    divides_nothing xs ys p h l =
        let here : p ≡ extent_of k xs + 0 = omega arith in (
          ap (λ (n : ℕ). before k n (xs ++ ys)) here ∙ before_skip xs ys 0 ∙ ap (λ r. xs ++ r) (before_none ys l) ∙ append-nil xs,
          ap (λ (n : ℕ). after k n (xs ++ ys)) here ∙ after_skip xs ys 0 ∙ after_none ys l,
        )

    pub before_lawful : (es : List E) (p : ℕ) → AllByRecursion (Lawful k) es → AllByRecursion (Lawful k) (before k p es)
    unfolding before
    before_lawful [] p l = tt
    before_lawful (e ∷ es) p l =
        before_cases (AllByRecursion (Lawful k)) e es p
        (λ h. (l.0, before_lawful es (p - extent k e) l.1))
        (λ z. tt)
        (λ some h. (part_lawful k laws e 0 p l.0 (front_within e p some h), tt))

    pub after_lawful : (es : List E) (p : ℕ) → AllByRecursion (Lawful k) es → AllByRecursion (Lawful k) (after k p es)
    unfolding after
    after_lawful [] p l = tt
    after_lawful (e ∷ es) p l =
        after_cases (AllByRecursion (Lawful k)) e es p
        (λ h. after_lawful es (p - extent k e) l.1)
        (λ z. l)
        (λ some h. (part_lawful k laws e p (extent k e - p) l.0 (back_within e p h), l.1))

    -- before the place p lie the first p atoms
    pub before_atoms : (es : List E) (p : ℕ) → AllByRecursion (Lawful k) es → atoms_of k (before k p es) ≡ take p (atoms_of k es)
    unfolding before
    before_atoms [] p l = sym (take_all p [] (omega arith))
    before_atoms (e ∷ es) p l =
        let own = k.atoms e in
        let rest = atoms_of k es in
        before_cases (λ r. atoms_of k r ≡ take p (own ++ rest)) e es p
        (λ h. let sum : extent k e + (p - extent k e) ≡ p = omega arith in
        ap (λ r. own ++ r) (before_atoms es (p - extent k e) l.1)
        ∙ sym (take-append-add own rest (p - extent k e))
        ∙ ap (λ (n : ℕ). take n (own ++ rest)) sum)
        (λ z. sym (ap (λ (n : ℕ). take n (own ++ rest)) z))
        (λ some h. append-nil (k.atoms (k.part e 0 p))
        ∙ laws.part_atoms e 0 p l.0 (front_within e p some h)
        ∙ sym (take-append-le p own rest (omega arith)))

    -- and after it the others
    pub after_atoms : (es : List E) (p : ℕ) → AllByRecursion (Lawful k) es → atoms_of k (after k p es) ≡ drop p (atoms_of k es)
    unfolding after
    after_atoms [] p l = sym (drop_all p [] (omega arith))
    after_atoms (e ∷ es) p l =
        let own = k.atoms e in
        let rest = atoms_of k es in
        after_cases (λ r. atoms_of k r ≡ drop p (own ++ rest)) e es p
        (λ h. let sum : extent k e + (p - extent k e) ≡ p = omega arith in
        after_atoms es (p - extent k e) l.1
        ∙ sym (drop-append-add own rest (p - extent k e))
        ∙ ap (λ (n : ℕ). drop n (own ++ rest)) sum)
        (λ z. sym (ap (λ (n : ℕ). drop n (own ++ rest)) z))
        (λ some h. let left : length (drop p own) ≤ extent k e - p = simp length-drop (omega arith) in
        ap (λ r. r ++ rest) (laws.part_atoms e p (extent k e - p) l.0 (back_within e p h)
        ∙ take_all (extent k e - p) (drop p own) left)
        ∙ sym (drop-append-le p own rest (omega arith)))

    pub divided_atoms : (es : List E) (p : ℕ) → AllByRecursion (Lawful k) es → atoms_of k (divided k p es) ≡ atoms_of k es
    divided_atoms es p l =
        atoms_append (before k p es) (after k p es)
        ∙ simp (before_atoms es p l, after_atoms es p l) (take-append-drop p (atoms_of k es))

    pub before_extent : (es : List E) (p : ℕ) → AllByRecursion (Lawful k) es → p ≤ extent_of k es → extent_of k (before k p es) ≡ p
    before_extent es p l h =
        extent_counts (before k p es) ∙ ap length (before_atoms es p l) ∙ simp length-take (omega (arith, extent_counts es))

    pub after_extent : (es : List E) (p : ℕ) → AllByRecursion (Lawful k) es → extent_of k (after k p es) ≡ extent_of k es - p
    after_extent es p l =
        extent_counts (after k p es) ∙ ap length (after_atoms es p l) ∙ simp length-drop (omega (arith, extent_counts es))

    -- ## Ranges

    -- The three parts of a list around a range: joined they are the list divided at both its ends, and
    -- at those ends they come apart again.
    pub divides_twice : (es : List E) (from len : ℕ) → AllByRecursion (Lawful k) es → from + len ≤ extent_of k es
        → let twice : List E = divided k (from + len) (divided k from es) in
        (taken k from len es ≡ after k from (before k (from + len) twice))
        × (without k from len es ≡ before k from twice ++ after k (from + len) twice)
    unfolding taken without
    divides_twice es from len l h =
        let front = before k from es in
        let rest = after k from es in
        let range = before k len rest in
        let end = after k len rest in
        let twice = divided k (from + len) (front ++ rest) in
        let rest_lawful = after_lawful es from l in
        let range_lawful = before_lawful rest len rest_lawful in
        let end_lawful = after_lawful rest len rest_lawful in
        let front_extent : extent_of k front ≡ from = before_extent es from l (omega arith) in
        let range_extent : extent_of k range ≡ len = before_extent rest len rest_lawful (omega (arith, after_extent es from l)) in
        let both_extent : extent_of k (front ++ range) ≡ from + len = extent_append front range ∙ omega arith in
        let there : from + len ≡ extent_of k front + len = omega arith in
        let two : twice ≡ (front ++ range) ++ end =
        ap (λ (n : ℕ). divided k n (front ++ rest)) there ∙ simp (before_skip front rest len, after_skip front rest len) in
        let three : twice ≡ front ++ (range ++ end) = two ∙ append_assoc front range end in
        let at_from = divides_nothing front (range ++ end) from front_extent (All-append (Lawful k) range end range_lawful end_lawful) in
        let at_end_lem = divides_nothing (front ++ range) end (from + len) both_extent end_lawful in
        let range_alone = divides_nothing front range from front_extent range_lawful in
        let front_again : before k from twice ≡ front = ap (before k from) three ∙ at_from.0 in
        let end_again : after k (from + len) twice ≡ end = ap (after k (from + len)) two ∙ at_end_lem.1 in
        let both_again : before k (from + len) twice ≡ front ++ range = ap (before k (from + len)) two ∙ at_end_lem.0 in
        (sym (ap (after k from) both_again ∙ range_alone.1), sym (simp (front_again, end_again)))

    -- elements put at a place put their atoms there
    pub puts_atoms : (es new : List E) (p : ℕ) → AllByRecursion (Lawful k) es
        → atoms_of k (put_at k p new es) ≡ take p (atoms_of k es) ++ (atoms_of k new ++ drop p (atoms_of k es))
    unfolding put_at
    puts_atoms es new p l =
        atoms_append (before k p es) (new ++ after k p es)
        ∙ simp (atoms_append new (after k p es), before_atoms es p l, after_atoms es p l)

    pub taken_atoms : (es : List E) (from len : ℕ) → AllByRecursion (Lawful k) es
        → atoms_of k (taken k from len es) ≡ take len (drop from (atoms_of k es))
    unfolding taken
    taken_atoms es from len l =
        before_atoms (after k from es) len (after_lawful es from l) ∙ ap (take len) (after_atoms es from l)

    pub without_atoms : (es : List E) (from len : ℕ) → AllByRecursion (Lawful k) es
        → atoms_of k (without k from len es) ≡ take from (atoms_of k es) ++ drop (from + len) (atoms_of k es)
    unfolding without
    without_atoms es from len l =
        atoms_append (before k from es) (after k len (after k from es))
        ∙ simp (before_atoms es from l, after_atoms (after k from es) len (after_lawful es from l), after_atoms es from l, drop-drop)

    pub put_lawful : (es new : List E) (p : ℕ) → AllByRecursion (Lawful k) es → AllByRecursion (Lawful k) new → AllByRecursion (Lawful k) (put_at k p new es)
    unfolding put_at
    put_lawful es new p l n =
        All-append (Lawful k) (before k p es) (new ++ after k p es) (before_lawful es p l)
        (All-append (Lawful k) new (after k p es) n (after_lawful es p l))

    pub taken_lawful : (es : List E) (from len : ℕ) → AllByRecursion (Lawful k) es → AllByRecursion (Lawful k) (taken k from len es)
    unfolding taken
    taken_lawful es from len l = before_lawful (after k from es) len (after_lawful es from l)

    pub without_lawful : (es : List E) (from len : ℕ) → AllByRecursion (Lawful k) es → AllByRecursion (Lawful k) (without k from len es)
    unfolding without
    without_lawful es from len l =
        All-append (Lawful k) (before k from es) (after k len (after k from es)) (before_lawful es from l)
        (after_lawful (after k from es) len (after_lawful es from l))

    pub put_extent : (es new : List E) (p : ℕ) → AllByRecursion (Lawful k) es → extent_of k (put_at k p new es) ≡ extent_of k es + extent_of k new
    put_extent es new p l =
        extent_counts (put_at k p new es)
        ∙ ap length (puts_atoms es new p l)
        ∙ simp (length-append, length-take, length-drop) (omega (arith, extent_counts es, extent_counts new))

    pub taken_extent : (es : List E) (from len : ℕ) → AllByRecursion (Lawful k) es → from + len ≤ extent_of k es
        → extent_of k (taken k from len es) ≡ len
    taken_extent es from len l h =
        extent_counts (taken k from len es)
        ∙ ap length (taken_atoms es from len l)
        ∙ simp (length-take, length-drop) (omega (arith, extent_counts es))

    pub without_extent : (es : List E) (from len : ℕ) → AllByRecursion (Lawful k) es → from + len ≤ extent_of k es
        → extent_of k (without k from len es) ≡ extent_of k es - len
    without_extent es from len l h =
        extent_counts (without k from len es)
        ∙ ap length (without_atoms es from len l)
        ∙ simp (length-append, length-take, length-drop) (omega (arith, extent_counts es))

    -- a paste of a cut at its place gives the same atoms back
    pub paste_of_cut : (es : List E) (from len : ℕ) → AllByRecursion (Lawful k) es → from + len ≤ extent_of k es
        → atoms_of k (put_at k from (taken k from len es) (without k from len es)) ≡ atoms_of k es
    paste_of_cut es from len l h =
        let all = atoms_of k es in
        let front = take from all in
        let end = drop (from + len) all in
        let count : length front ≡ from = simp length-take (omega (arith, extent_counts es)) in
        puts_atoms (without k from len es) (taken k from len es) from (without_lawful es from len l)
        ∙ simp (without_atoms es from len l, taken_atoms es from len l, take_at front end from count, drop_at front end from count)
        (ap (λ r. front ++ (take len (drop from all) ++ r)) (sym (drop-drop len from all))
        ∙ ap (λ r. front ++ r) (take-append-drop len (drop from all))
        ∙ take-append-drop from all)
