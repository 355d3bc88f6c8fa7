-- Who names a cell: links of cells in use, and the roots that someone owns. One invariant holds them together.
use Rattle.std.specs.Prelude.{◌≡◌, ℕ, zero, suc, ◌+◌, ◌<◌, ◌≤◌, min, List, [], ◌∷◌, ◌++◌, length, Some, None}
use Rattle.std.specs.List.{slice_get}
use Rattle.kinds.specs.Kinds.{Meaning}
use Rattle.cells.specs.declared.cell.Cell.{Cell}
use Rattle.cells.specs.declared.pool.Pool.{Pool}
use Rattle.cells.specs.Cells.{Sound, refs_at}
use Rattle.cells.specs.Reach.{hit, occurs, Reached, HowMany}

-- how many links to the cell i the cells in use have
abbrev pub links_if : {E S : Type 0} → ℕ → Cell E S → ℕ → ℕ
links_if zero c i = 0
links_if (suc n) c i = hit c.left i + hit c.right i

unfoldable pub links : {E S : Type 0} → List (Cell E S) → ℕ → ℕ
links [] i = 0
links (c ∷ cs) i = links_if c.refs c i + links cs i

-- each cell's references are the links that name it, of cells in use and of roots
abbrev pub Counted : {E S : Type 0} → List (Cell E S) → List ℕ → Type 0
Counted cells rs = (i : ℕ) → i < length cells → refs_at cells i ≡ links cells i + occurs rs i

-- the number of cells in use
abbrev pub used : {E S : Type 0} → List (Cell E S) → ℕ
used [] = 0
used (c ∷ cs) = min c.refs 1 + used cs

-- n free cells, one naming the next by its left link, from the link h on
abbrev pub Chain : {E S : Type 0} → ℕ → List (Cell E S) → ℕ → Type 0
Chain zero cells h = slice_get cells h ≡ None
Chain {E} {S} (suc n) cells h = (c : Cell E S) × (slice_get cells h ≡ Some c) × (c.refs ≡ 0) × Chain n cells c.left

-- The cells and the pool of free ones, where the roots rs are owned. A chain never comes back to a cell, so with `all` it
-- has exactly the free ones.
pub record Arena {E A S : Type 0} (k : Meaning E A S) (cells : List (Cell E S)) (pool : Pool) (rs : List ℕ) : Type 0 where
  pub sound : Sound k cells
  pub counts : Counted cells rs
  pub chain : Chain pool.free cells pool.head
  pub all : pool.free + used cells ≡ length cells
  pub long : length cells ≤ 65535

-- the roots xs are owned, and some others
abbrev pub Owned : {E A S : Type 0} → Meaning E A S → List (Cell E S) → Pool → List ℕ → Type 0
Owned k cells pool xs = (rs : List ℕ) × Arena k cells pool (xs ++ rs)

-- an arena whose owned roots are xs and some others, at most n
pub record Holds {E A S : Type 0} (k : Meaning E A S) (cells : List (Cell E S)) (pool : Pool) (xs : List ℕ) (n : ℕ) : Type 0 where
  pub rest : List ℕ
  pub arena : Arena k cells pool (xs ++ rest)
  pub few : length rest ≤ n

-- What is in use is what the roots reach, and all else is free.
pub record NoneLost {E A S : Type 0} (k : Meaning E A S) (cells : List (Cell E S)) (pool : Pool) (rs : List ℕ) : Type 0 where
  pub used_reached : (i : ℕ) → 0 < refs_at cells i → Reached cells rs i
  pub reached_used : (i : ℕ) → i < length cells → Reached cells rs i → 0 < refs_at cells i
  pub reached : ℕ
  pub counted : HowMany (Reached cells rs) (length cells) reached
  pub all : pool.free + reached ≡ length cells
