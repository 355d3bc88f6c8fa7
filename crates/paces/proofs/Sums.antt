-- One round more.
use Rattle.std.proofs.Common.{◌≡◌, ℕ, ◌+◌, ◌-◌, ◌%◌, ◌^◌, ◌<◌, ◌≤◌, cond, List, [], ◌∷◌, ◌++◌, length, take, drop, sym, ap, ◌∙◌, add-one, arith, length-take, length-drop, lt-ltb, le-ltb}
use Rattle.kinds.specs.Kinds.{Meaning, Laws, total}
use Rattle.kinds.specs.Places.{extent, extent_of, put_at, without}
use Rattle.balance.specs.Lists.{extents}
use Rattle.balance.specs.Ways.{span}
use Rattle.cells.specs.declared.cell.Cell.{Cell}
use Rattle.cells.specs.Cells.{shape, tree, meant, Live, Sound}
use Rattle.walks.specs.Holding.{AtomOf}
use Rattle.walks.specs.declared.answers.Reading.{Reading}
use Rattle.walks.specs.Holding.{Reads}
use Rattle.walks.proofs.Sums.{few_take, few_drop, few_tree}
use Rattle.cells.proofs.Trees.{meant_span}
use Rattle.edits.specs.Edits.{list}
use Rattle.paces.specs.Sums.{step, place_in, left_by, summed, offset_in, offset_from, length_from, put_from, cut_from}

module _ (after gives : ℕ → ℕ) (n : ℕ) {s : ℕ} (state : s ≡ left_by after n) where
  pub left_more : {t : ℕ} → t ≡ after s → t ≡ left_by after (n + 1)
  left_more next = rw add-one (next ∙ ap after state)

  pub sum_more : {sum d : ℕ} → sum ≡ summed after gives n → d ≡ gives s → (sum + d) % 2 ^ 64 ≡ summed after gives (n + 1)
  sum_more {sum} {d} so_far here = rw add-one (ap (λ x. (x + d) % 2 ^ 64) so_far ∙ ap (λ x. (summed after gives n + x) % 2 ^ 64) (here ∙ ap gives state))

module _ {E A S : Type 0} (k : Meaning E A S) where
  first_holds : (e : E) (es : List E) (p : ℕ) → p < extent k e → offset_in k (e ∷ es) p ≡ p
  unfolding offset_in
  first_holds e es p h = ap (λ b. cond b p (offset_in k es (p - extent k e))) (lt-ltb p (extent k e) h)

  later_holds : (e : E) (es : List E) (p : ℕ) → extent k e ≤ p → offset_in k (e ∷ es) p ≡ offset_in k es (p - extent k e)
  unfolding offset_in
  later_holds e es p h = ap (λ b. cond b p (offset_in k es (p - extent k e))) (le-ltb p (extent k e) h)

  offset_is : (before behind : List E) (e : E) (d : ℕ) → d < extent k e → offset_in k (before ++ (e ∷ behind)) (extents (shape k) before + d) ≡ d
  offset_is [] behind e d inside = let first : 0 + d ≡ d = omega arith in ap (offset_in k (e ∷ behind)) first ∙ first_holds e behind d inside
  offset_is (b ∷ bs) behind e d inside =
      let rest : extent k b + extents (shape k) bs + d - extent k b ≡ extents (shape k) bs + d = omega arith in
      later_holds b (bs ++ (e ∷ behind)) (extents (shape k) (b ∷ bs) + d) (omega arith)
      ∙ ap (offset_in k (bs ++ (e ∷ behind))) rest ∙ offset_is bs behind e d inside

  offset_found : {es : List E} {p d : ℕ} {e : E} → AtomOf (shape k) es p e d → offset_in k es p ≡ d
  offset_found {es} {p} {d} {e} at = ap (λ l. offset_in k l p) at.listed ∙ ap (offset_in k (at.before ++ (e ∷ at.behind))) (sym at.reached) ∙ offset_is at.before at.behind e d at.inside

  -- what a round tells that reads, and one that asks for an overview
  module _ (cells : List (Cell E S)) (root : ℕ) {end : ℕ} (is : end ≡ extent_of k (list cells root) - 1) (s : ℕ) {t p : ℕ} (state : t ≡ step s) (place : p ≡ place_in t end) where
    from_is : p ≡ place_in (step s) (extent_of k (list cells root) - 1)
    from_is = place ∙ ap (place_in t) is ∙ ap (λ x. place_in x (extent_of k (list cells root) - 1)) state

    pub offset_told : {r : Reading} → Reads k cells root p r → r.offset ≡ offset_from k (list cells root) s
    offset_told reads = sym (offset_found reads.holds) ∙ ap (offset_in k (list cells root)) from_is

    pub length_told : {u l : ℕ} → u ≡ step t → l ≡ place_in u (end - p) → l + 1 ≡ length_from k (list cells root) s
    length_told {u} next behind =
        ap (λ x. x + 1) (behind ∙ ap (λ x. place_in u (x - p)) is ∙ ap (λ x. place_in u (extent_of k (list cells root) - 1 - x)) from_is
        ∙ ap (λ x. place_in x (extent_of k (list cells root) - 1 - place_in (step s) (extent_of k (list cells root) - 1))) (next ∙ ap step state))

-- what a round tells that puts in, and one that cuts out, while the lists stay
module _ {E A S : Type 0} (k : Meaning E A S) {es fs : List E} (same : fs ≡ es) {end : ℕ} (is : end ≡ extent_of k es) (s : ℕ) {t p : ℕ} (state : t ≡ step s) (place : p ≡ place_in t end) where
  pub put_told : {clip old : List E} {n : ℕ} → old ≡ clip → n ≡ length (put_at k p old fs) → n ≡ put_from k es clip s
  put_told kept count = cc

  pub cut_told : {u l n : ℕ} → u ≡ step t → l ≡ place_in u (end - p) → n ≡ length (without k p l fs) → n ≡ cut_from k es s
  cut_told next behind count = cc

-- the width of an overview is the length of its range
pub width_found : {E A S : Type 0} (k : Meaning E A S) (laws : Laws k) (cells : List (Cell E S)) → Sound k cells → (root : ℕ) → Live cells root → (from len : ℕ) → from + len ≤ span (shape k) (tree cells root)
    → k.width (total k (take len (drop from (meant k (tree cells root))))) ≡ len
width_found k laws cells sound root live from len within =
    let f = few_take k len (drop from (meant k (tree cells root))) (few_drop k from (meant k (tree cells root)) (few_tree k cells sound root live)) in
    laws.total_width (take len (drop from (meant k (tree cells root)))) f.atomic f.few ∙ simp (length-take, length-drop) (omega (arith, meant_span k (tree cells root)))
