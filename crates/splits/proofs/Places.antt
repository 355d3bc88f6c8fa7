-- Dividing at a place, in the words of trees and in those of kinds: the same lists, of which nothing is lost.
use Rattle.std.proofs.Common.{◌≡◌, ℕ, ◌+◌, ◌-◌, ◌≤◌, eqb, ltb, List, [], ◌∷◌, length, sym, refl, ap, ◌∙◌, subst, arith}
use Rattle.std.specs.List.{AllByRecursion}
use Rattle.std.proofs.ByRecursion.{All-weaker}
use Rattle.std.proofs.lemmas.Bool.{lt-leb, cond-false}
use Rattle.kinds.specs.Kinds.{Meaning, Laws, Lawful}
use Rattle.kinds.specs.Places.{extent, extent_of, before, after, divided, put_at, taken, without}
use Rattle.kinds.proofs.Places.{before_behind, after_behind, extent_append, extent_counts, after_lawful, divided_atoms}
use Rattle.balance.specs.Trees.{Tree, elements}
use Rattle.balance.specs.Lists.{extents, Solid, front, back, put_in, between}
use Rattle.balance.specs.Lists as lists
use Rattle.balance.specs.Ways.{span}
use Rattle.balance.specs.Edits.{Rest, listed, parted, parted_rest}
use Rattle.balance.proofs.Tests.{tests, by_test, cond_ap}
use Rattle.balance.proofs.Ways.{span_extents}
use Rattle.balance.proofs.Edits.{parted_divides, parted_rest_divides}
use Rattle.cells.specs.Cells.{shape}

module _ {E A S : Type 0} (k : Meaning E A S) where
  pub same_extent : (es : List E) → extents (shape k) es ≡ extent_of k es
  same_extent [] = refl
  same_extent (e ∷ es) = ap (λ n. extent k e + n) (same_extent es)

  pub same_before : (p : ℕ) (es : List E) → front (shape k) p es ≡ before k p es
  unfolding before
  same_before p [] = refl
  same_before p (e ∷ es) =
      by_test (λ l. l ≡ before k p (e ∷ es)) (ltb p (extent k e)) _ _
      (λ low. sym (cond-false _ _ _ (lt-leb (extent k e) p (omega tests))))
      (λ past. ap (λ l. e ∷ l) (same_before (p - extent k e) es) ∙ sym (before_behind k e es p (omega tests)))

  pub same_after : (p : ℕ) (es : List E) → back (shape k) p es ≡ after k p es
  unfolding after
  same_after p [] = refl
  same_after p (e ∷ es) =
      by_test (λ l. l ≡ after k p (e ∷ es)) (ltb p (extent k e)) _ _
      (λ low. cond_ap (λ f. f ∷ es) (eqb p 0) _ _ ∙ sym (cond-false _ _ _ (lt-leb (extent k e) p (omega tests))))
      (λ past. same_after (p - extent k e) es ∙ sym (after_behind k e es p (omega tests)))

  pub same_put : (p : ℕ) (new es : List E) → put_in (shape k) es p new ≡ put_at k p new es
  unfolding put_at
  same_put p new es = simp (same_before p es, same_after p es)

  pub same_taken : (from len : ℕ) (es : List E) → between (shape k) es from len ≡ taken k from len es
  unfolding taken
  same_taken from len es = ap (front (shape k) len) (same_after from es) ∙ same_before len (after k from es)

  pub same_without : (from len : ℕ) (es : List E) → lists.without (shape k) es from len ≡ without k from len es
  unfolding without
  same_without from len es = simp (same_before from es, same_after from es, same_after len (after k from es))

  module _ (laws : Laws k) where
    pub all_solid : (es : List E) → AllByRecursion (Lawful k) es → Solid (shape k) es
    all_solid es l = All-weaker (Lawful k) (λ e. 1 ≤ extent k e) laws.some es l

    pub back_lawful : (p : ℕ) (es : List E) → AllByRecursion (Lawful k) es → AllByRecursion (Lawful k) (back (shape k) p es)
    back_lawful p es l = subst (AllByRecursion (Lawful k)) (sym (same_after p es)) (after_lawful k laws es p l)

    -- both sides of a place have the extent of the whole
    pub both_extents : (p : ℕ) (es : List E) → AllByRecursion (Lawful k) es
        → extents (shape k) (front (shape k) p es) + extents (shape k) (back (shape k) p es) ≡ extents (shape k) es
    both_extents p es l =
        let x = ap (extents (shape k)) (same_before p es) ∙ same_extent (before k p es) in
        let y = ap (extents (shape k)) (same_after p es) ∙ same_extent (after k p es) in
        let whole = extent_counts k (divided k p es) ∙ ap length (divided_atoms k laws es p l) ∙ sym (extent_counts k es) in
        omega (arith, extent_append k (before k p es) (after k p es), same_extent es)

    -- so of a tree that is taken apart, and of a rest
    pub parted_extents : (t : Tree E) (p : ℕ) → AllByRecursion (Lawful k) (elements t)
        → span (shape k) (parted (shape k) t p).before + extents (shape k) (listed (parted (shape k) t p).rest) ≡ span (shape k) t
    parted_extents t p l =
        let s = parted_divides (shape k) t p in
        omega (
          arith,
          both_extents p (elements t) l,
          span_extents (shape k) (parted (shape k) t p).before ∙ ap (extents (shape k)) s.fore,
          ap (extents (shape k)) s.aft,
          span_extents (shape k) t,
        )

    pub rest_extents : (s : Rest E) (p : ℕ) → AllByRecursion (Lawful k) (listed s)
        → span (shape k) (parted_rest (shape k) s p).before + extents (shape k) (listed (parted_rest (shape k) s p).rest) ≡ extents (shape k) (listed s)
    rest_extents s p l =
        let d = parted_rest_divides (shape k) s p in
        omega (
          arith,
          both_extents p (listed s) l,
          span_extents (shape k) (parted_rest (shape k) s p).before ∙ ap (extents (shape k)) d.fore,
          ap (extents (shape k)) d.aft,
        )
