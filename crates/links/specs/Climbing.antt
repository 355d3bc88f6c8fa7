-- Down the side of a tree and up again.
use Rattle.std.specs.Prelude.{◌≡◌, ℕ, zero, suc, ◌*◌, ◌<◌, ◌≤◌, Bool, List, [], ◌∷◌, length, slice_index}
use Rattle.std.specs.List.{slice_get}
use Rattle.kinds.specs.Kinds.{Meaning}
use Rattle.balance.specs.Trees.{Tree, leaf, node, weight, Δ}
use Rattle.balance.specs.Links.{rebalanced, spine}
use Rattle.balance.specs.Levels.{deepest}
use Rattle.cells.specs.declared.cell.Cell.{Cell}
use Rattle.cells.specs.declared.pool.Pool.{Pool}
use Rattle.cells.specs.Cells.{seen}
use Rattle.cells.specs.Reach.{child, Reached, Stays}
use Rattle.cells.specs.References.{Arena}
use Rattle.cells.specs.Moves.{Moves}
use Rattle.links.specs.Sitting.{Sits}

-- the tree t with u in the place of its left child, rebalanced
abbrev pub raised : {E : Type 0} → Tree E → Tree E → Tree E
raised u leaf = u
raised u (node a x b) = rebalanced u x b

module _ {E S : Type 0} (flip : Bool) (cells : List (Cell E S)) (top : ℕ) where
  -- the link that n steps to the near side lead to
  unfoldable pub descent : ℕ → ℕ
  descent zero = top
  descent (suc n) = child flip (descent n) (slice_get cells (descent n))

  -- the tree u, raised through the n trees above it
  unfoldable pub climbed : ℕ → Tree E → Tree E
  climbed zero u = u
  climbed (suc n) u = climbed n (raised u (seen flip cells (descent n)))

  -- the path has the first links of a descent, each of a cell
  pub record Tabled (path : List ℕ) : Type 0 where
    pub low : length path ≤ deepest
    pub are : (j : ℕ) → j < length path → slice_index path j ≡ descent j
    pub inside : (j : ℕ) → j < length path → slice_index path j < length cells

-- each tree on the way up can stand in cells
unfoldable pub Climbs : {E A S : Type 0} → Meaning E A S → Bool → List (Cell E S) → ℕ → ℕ → Tree E → Type 0
Climbs k flip cells top zero u = Unit {0}
Climbs k flip cells top (suc n) u =
    Sits k (raised u (seen flip cells (descent flip cells top n))) × Climbs k flip cells top n (raised u (seen flip cells (descent flip cells top n)))

-- the root low is owned, and others that reach the cell i, at most n
pub record Above {E A S : Type 0} (k : Meaning E A S) (cells : List (Cell E S)) (pool : Pool) (low i n : ℕ) : Type 0 where
  pub rest : List ℕ
  pub arena : Arena k cells pool (low ∷ rest)
  pub reached : Reached cells rest i
  pub few : length rest ≤ n

-- The root low has become r, whose tree is t, beside the root top, which is owned still. At most n cells are taken.
pub record Raises {E A S : Type 0} (k : Meaning E A S) (flip : Bool) (a : List (Cell E S)) (p : Pool) (low top : ℕ) (b : List (Cell E S)) (q : Pool) (r : ℕ) (t : Tree E) (n : ℕ) : Type 0 where
  pub each : Moves k a p (low ∷ top ∷ []) b q (r ∷ top ∷ []) n
  pub stays : Stays a b top
  pub tree_is : seen flip b r ≡ t

-- A tree went down the near side of another while that outweighed it. The path has what it passed, and the foot is the
-- first that it can stand beside.
pub record Sunk {E A S : Type 0} (k : Meaning E A S) (flip : Bool) (cells : List (Cell E S)) (light : Tree E) (top : ℕ) (path : List ℕ) (foot : ℕ) : Type 0 where
  pub tabled : Tabled flip cells top path
  pub passed : (j : ℕ) → j < length path → Δ * weight light < weight (seen flip cells (descent flip cells top j))
  pub foot_is : foot ≡ descent flip cells top (length path)
  pub beside : weight (seen flip cells foot) ≤ Δ * weight light
  pub spine_is : length (spine light (seen flip cells top)) ≡ length path
