-- Tables of cell numbers and what they stand for.
use Rattle.std.proofs.Common.{◌≡◌, ℕ, suc, ◌+◌, ◌<◌, Bool, List, [], ◌∷◌, ◌++◌, length, take, drop, set, sym, refl, ap, ◌∙◌, add-one, arith, length-append, length-drop, length-set, take-suc-set}
use lib.Seq.{take-append_seam}
use Rattle.balance.specs.Trees.{Tree}
use Rattle.cells.specs.declared.cell.Cell.{Cell}
use Rattle.walks.specs.Walks.{Passed, Table}

module _ {E S : Type 0} (flip : Bool) (cells : List (Cell E S)) where
  pub table_length : (is : List ℕ) (ss : List (E × Tree E)) → Table flip cells is ss → length is ≡ length ss
  table_length [] [] t = refl
  table_length [] (s ∷ ss) t = absurd t
  table_length (i ∷ is) [] t = absurd t
  table_length (i ∷ is) (s ∷ ss) t = ap suc (table_length is ss t.1)

  -- one cell more
  pub table_last : (is : List ℕ) (ss : List (E × Tree E)) (i : ℕ) (s : E × Tree E)
      → Table flip cells is ss → Passed flip cells i s → Table flip cells (is ++ (i ∷ [])) (ss ++ (s ∷ []))
  table_last [] [] i s t p = (p, tt)
  table_last [] (x ∷ ss) i s t p = absurd t
  table_last (j ∷ is) [] i s t p = absurd t
  table_last (j ∷ is) (x ∷ ss) i s t p = (t.0, table_last is ss i s t.1 p)

-- a path at the front of an array, and one cell more behind it
pub laid : (path new old : List ℕ) (n i : ℕ) → n ≡ length path → new ≡ path → length path < length old
    → (length (set (new ++ drop n old) n i) ≡ length old) × (take (n + 1) (set (new ++ drop n old) n i) ≡ path ++ (i ∷ []))
laid path new old n i n_is new_is room =
    let both : length (new ++ drop n old) ≡ length old = omega (arith, ap (λ (l : List ℕ). length l) new_is, length-append new (drop n old), length-drop n old) in (
      length-set (new ++ drop n old) n i ∙ both,
      rw add-one (take-suc-set (new ++ drop n old) n i (omega arith))
          ∙ ap (λ l. l ++ (i ∷ [])) (ap (λ (m : ℕ). take m (new ++ drop n old)) (n_is ∙ ap (λ (l : List ℕ). length l) (sym new_is)) ∙ take-append_seam new (drop n old) ∙ new_is),
    )
