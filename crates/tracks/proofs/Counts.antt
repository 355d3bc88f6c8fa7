-- Lists divided at a place: how many elements they have then, and what is put at the end.
use Rattle.std.proofs.Common.{◌≡◌, ℕ, ◌+◌, ◌-◌, ◌≤◌, Bool, true, false, cond, eqb, leb, List, [], ◌∷◌, ◌++◌, length, refl, ap, ◌∙◌, append-nil, arith, length-append}
use Rattle.kinds.specs.Kinds.{Meaning}
use Rattle.kinds.specs.Places.{extent, extent_of, before, after, put_at, without}
use Rattle.kinds.proofs.Places.{before_behind, after_behind, after_fewer}

-- x is at least n, and at most one more
pub record OneMore (n x : ℕ) : Type 0 where
  pub least : n ≤ x
  pub most : x ≤ n + 1

module _ {E A S : Type 0} (k : Meaning E A S) where
  one_more : (past start : Bool) (xs ys es : List E) (e y z : E) → OneMore (length es) (length xs + length ys)
      → OneMore (length (e ∷ es)) (length (cond past (e ∷ xs) (cond start [] (y ∷ []))) + length (cond past ys (cond start (e ∷ es) (z ∷ es))))
  one_more true start xs ys es e y z h = record { least = omega (arith, h.least); most = omega (arith, h.most) }
  one_more false true xs ys es e y z h = record { least = omega arith; most = omega arith }
  one_more false false xs ys es e y z h = record { least = omega arith; most = omega arith }

  pub divided_count : (es : List E) (p : ℕ) → OneMore (length es) (length (before k p es) + length (after k p es))
  unfolding before after
  divided_count [] p = record { least = omega arith; most = omega arith }
  divided_count (e ∷ es) p =
      one_more (leb (extent k e) p) (eqb p 0) (before k (p - extent k e) es) (after k (p - extent k e) es) es e (k.part e 0 p) (k.part e p (extent k e - p))
      (divided_count es (p - extent k e))

  -- a list put in at a place, and a range taken out
  pub put_count : (es new : List E) (p : ℕ) → OneMore (length es + length new) (length (put_at k p new es))
  unfolding put_at
  put_count es new p =
      let d = divided_count es p in
      let x = length-append (before k p es) (new ++ after k p es) in
      let y = length-append new (after k p es) in
      record { least = omega (arith, d.least); most = omega (arith, d.most) }

  pub without_count : (es : List E) (from len : ℕ) → length (without k from len es) ≤ length es + 1
  unfolding without
  without_count es from len =
      let d = divided_count es from in
      let x = length-append (before k from es) (after k len (after k from es)) in
      omega (arith, d.most, after_fewer k (after k from es) len)

  before_all : (es : List E) → before k (extent_of k es) es ≡ es
  unfolding before
  before_all [] = refl
  before_all (e ∷ es) =
      let rest : extent k e + extent_of k es - extent k e ≡ extent_of k es = omega arith in
      before_behind k e es (extent k e + extent_of k es) (omega arith) ∙ ap (λ n. e ∷ before k n es) rest ∙ ap (λ l. e ∷ l) (before_all es)

  after_all : (es : List E) → after k (extent_of k es) es ≡ []
  unfolding after
  after_all [] = refl
  after_all (e ∷ es) =
      let rest : extent k e + extent_of k es - extent k e ≡ extent_of k es = omega arith in
      after_behind k e es (extent k e + extent_of k es) (omega arith) ∙ ap (λ n. after k n es) rest ∙ after_all es

  pub put_end : (es new : List E) → put_at k (extent_of k es) new es ≡ es ++ new
  unfolding put_at
  put_end es new =
      ap (λ b. b ++ (new ++ after k (extent_of k es) es)) (before_all es)
      ∙ ap (λ b. es ++ (new ++ b)) (after_all es) ∙ ap (λ b. es ++ b) (append-nil new)
