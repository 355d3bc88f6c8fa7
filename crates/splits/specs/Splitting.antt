-- Trees taken apart in cells, and put together.
use Rattle.std.specs.Prelude.{◌≡◌, ℕ, ◌+◌, ◌^◌, ◌<◌, ◌≤◌, Bool, List, [], ◌∷◌, length, Some, None, Option}
use Rattle.faults.specs.Limits.{limit}
use Rattle.kinds.specs.Kinds.{Meaning, Lawful, total}
use Rattle.kinds.specs.Places.{before, after}
use Rattle.balance.specs.Trees.{Tree, count, elements}
use Rattle.balance.specs.Ways.{span}
use Rattle.balance.specs.Edits.{Rest, done, more, listed, Parted}
use Rattle.balance.specs.Levels.{most}
use Rattle.balance.specs.Costs.{parted_rest_cost}
use Rattle.cells.specs.declared.cell.Cell.{Cell}
use Rattle.cells.specs.declared.pool.Pool.{Pool}
use Rattle.cells.specs.Cells.{shape, tree, seen}
use Rattle.cells.specs.Moves.{Moves}
use Rattle.splits.specs.declared.split.Loose.{Loose}
use Rattle.splits.specs.declared.split.Split.{Split}
use Rattle.splits.specs.Owning.{Owns}

-- what lies behind a place: nothing, or a loose element and the tree behind it
abbrev pub behind : {E S : Type 0} → List (Cell E S) → Option (Loose E S) → Rest E
behind cells None = done
behind cells (Some l) = more l.element (tree cells l.root)

-- the root that is owned with it
abbrev pub loose_roots : {E S : Type 0} → Option (Loose E S) → List ℕ
loose_roots None = []
loose_roots (Some l) = l.root ∷ []

module _ {E A S : Type 0} (k : Meaning E A S) where
  -- a loose element is one of the kind, and where its own summary is there already, it is right
  pub record Tied (l : Loose E S) : Type 0 where
    pub lawful : Lawful k l.element
    pub owns : (s : S) → l.own ≡ Some s → s ≡ total k (k.atoms l.element)

  abbrev pub AllTied : Option (Loose E S) → Type 0
  AllTied None = Unit {0}
  AllTied (Some l) = Tied l

  -- The given roots xs have become the root r, whose tree, as seen, is t; at most n cells are taken.
  pub record Grows (flip : Bool) (a : List (Cell E S)) (p : Pool) (xs : List ℕ) (b : List (Cell E S)) (q : Pool) (r : ℕ) (t : Tree E) (n : ℕ) : Type 0 where
    pub each : Moves k a p xs b q (r ∷ []) n
    pub tree_is : seen flip b r ≡ t

  -- The given roots xs have become the two sides of t, what lies before a place and what lies behind it.
  pub record Splits (a : List (Cell E S)) (p : Pool) (xs : List ℕ) (b : List (Cell E S)) (q : Pool) (r : Split E S) (t : Parted E) (n : ℕ) : Type 0 where
    pub each : Moves k a p xs b q (r.before ∷ loose_roots r.loose) n
    pub before_is : tree b r.before ≡ t.before
    pub rest_is : behind b r.loose ≡ t.rest
    pub tied : AllTied r.loose

  -- What lies behind a place was made: r stands for the rest t. At most n cells are taken.
  pub record Leaves (a : List (Cell E S)) (p : Pool) (b : List (Cell E S)) (q : Pool) (r : Option (Loose E S)) (t : Rest E) (n : ℕ) : Type 0 where
    pub each : Moves k a p [] b q (loose_roots r) n
    pub rest_is : behind b r ≡ t
    pub tied : AllTied r

  -- r has the list es divided at a place: what lies before it, and what lies after it.
  pub record Divided (cells : List (Cell E S)) (r : Split E S) (es : List E) (place : ℕ) : Type 0 where
    pub fore : elements (tree cells r.before) ≡ before k place es
    pub aft : listed (behind cells r.loose) ≡ after k place es

  -- A loose element and the tree behind it, both given away, can be taken apart at a place.
  pub record Partable (cells : List (Cell E S)) (pool : Pool) (l : Loose E S) (place : ℕ) : Type 0 where
    pub owns : Owns k cells pool (l.root ∷ []) [] (2 ^ 19)
    pub tied : Tied l
    pub few : count (tree cells l.root) < most
    pub short : length (k.atoms l.element) + span (shape k) (tree cells l.root) ≤ limit
    pub some : parted_rest_cost (shape k) (more l.element (tree cells l.root)) place ≤ pool.free
