-- What edits do with trees over cells, in the words of lists.
use Rattle.std.specs.Prelude.{◌≡◌, ℕ, List, [], ◌∷◌}
use Rattle.kinds.specs.Kinds.{Meaning}
use Rattle.kinds.specs.Places.{taken, without}
use Rattle.balance.specs.Trees.{elements}
use Rattle.cells.specs.declared.cell.Cell.{Cell}
use Rattle.cells.specs.declared.pool.Pool.{Pool}
use Rattle.cells.specs.Cells.{tree}
use Rattle.cells.specs.Moves.{Moves}
use Rattle.edits.specs.declared.removal.Removal.{Removal}

-- So many free cells are enough, and no more are taken: by putting in a list and by cutting out, by copying, and by
-- putting in an element.
abbrev pub edit_takes : ℕ
edit_takes = 562

abbrev pub copy_takes : ℕ
copy_takes = 477

abbrev pub insert_takes : ℕ
insert_takes = 563

-- the list under a root
abbrev pub list : {E S : Type 0} → List (Cell E S) → ℕ → List E
list cells root = elements (tree cells root)

module _ {E A S : Type 0} (k : Meaning E A S) (a : List (Cell E S)) (p : Pool) where
  -- Whatever is owned stays so, what it reaches stays, and beside it r is owned, whose list is es.
  pub record Makes (b : List (Cell E S)) (q : Pool) (r : ℕ) (es : List E) (n : ℕ) : Type 0 where
    pub each : Moves k a p [] b q (r ∷ []) n
    pub listed : list b r ≡ es

  -- so with two roots: what is left of the list es without the range, and the range
  pub record Cuts (b : List (Cell E S)) (q : Pool) (r : Removal) (es : List E) (from len n : ℕ) : Type 0 where
    pub each : Moves k a p [] b q (r.left ∷ r.taken ∷ []) n
    pub left : list b r.left ≡ without k from len es
    pub range : list b r.taken ≡ taken k from len es
