-- What the functions do with cells: the owned roots before and after, the trees, and what stays.
use Rattle.std.specs.Prelude.{◌≡◌, ℕ, ◌+◌, ◌*◌, ◌^◌, ◌<◌, ◌≤◌, Bool, List, [], ◌∷◌, ◌++◌, Some, None, Option, IfSome, slice_set}
use Rattle.std.specs.List.{slice_get}
use Rattle.faults.specs.Limits.{limit}
use Rattle.kinds.specs.Kinds.{Meaning, Lawful, total}
use Rattle.balance.specs.Trees.{Tree, node, count, weight, Δ}
use Rattle.balance.specs.Ways.{span}
use Rattle.cells.specs.declared.cell.Cell.{Cell}
use Rattle.cells.specs.declared.item.Item.{Item}
use Rattle.cells.specs.declared.pool.Pool.{Pool}
use Rattle.cells.specs.Cells.{shape, cell_count, seen}
use Rattle.cells.specs.Reach.{Stays, AllStay, Takes}
use Rattle.cells.specs.References.{used, Arena, NoneLost}

-- the cell c with n references
abbrev pub with_refs : {E S : Type 0} → Cell E S → ℕ → Cell E S
with_refs c n =
    record { element = c.element; own = c.own; left = c.left; right = c.right; count = c.count; summary = c.summary; refs = n }

-- one reference more to what i names, if that is a cell
abbrev pub retained_at : {E S : Type 0} → List (Cell E S) → ℕ → Option (Cell E S) → List (Cell E S)
retained_at cells i None = cells
retained_at cells i (Some c) = slice_set cells i (with_refs c (c.refs + 1))

abbrev pub retained : {E S : Type 0} → List (Cell E S) → ℕ → List (Cell E S)
retained cells i = retained_at cells i (slice_get cells i)

module _ {E A S : Type 0} (k : Meaning E A S) where
  -- Where the arena (a, p) owned some roots and rs, (b, q) owns the roots ys and rs. What rs reach has stayed; at most n
  -- cells are taken, and at most n fewer are free.
  pub record Moved (a : List (Cell E S)) (p : Pool) (rs : List ℕ) (b : List (Cell E S)) (q : Pool) (ys : List ℕ) (n : ℕ) : Type 0 where
    pub arena : Arena k b q (ys ++ rs)
    pub stay : AllStay a b rs
    pub takes : Takes a b n
    pub free : p.free ≤ q.free + n

  -- so from the roots xs to the roots ys, whatever else is owned
  abbrev pub Moves : List (Cell E S) → Pool → List ℕ → List (Cell E S) → Pool → List ℕ → ℕ → Type 0
  Moves a p xs b q ys n = (rs : List ℕ) → Arena k a p (xs ++ rs) → Moved a p rs b q ys n

  -- one root more is owned
  pub record Retains (a : List (Cell E S)) (i : ℕ) (b : List (Cell E S)) : Type 0 where
    pub each : (p : Pool) (rs : List ℕ) → Arena k a p rs → Moved a p rs b p (i ∷ []) 0
    pub here : (p : Pool) (rs : List ℕ) → Arena k a p rs → Stays a b i

  -- An element with its own summary can stand between two trees.
  pub record Fits (l : Tree E) (item : Item E S) (r : Tree E) : Type 0 where
    pub lawful : Lawful k item.element
    pub owns : item.own ≡ total k (k.atoms item.element)
    pub left_light : weight l ≤ Δ * weight r
    pub right_light : weight r ≤ Δ * weight l
    pub few : count l + count r + 1 < 2 ^ 32
    pub short : span (shape k) (node l item.element r) ≤ limit

  -- The given roots have become the root r, whose tree, as seen, is t.
  pub record Yields (flip : Bool) (a : List (Cell E S)) (p : Pool) (rs : List ℕ) (b : List (Cell E S)) (q : Pool) (r : ℕ) (t : Tree E) (n : ℕ) : Type 0 where
    pub moved : Moved a p rs b q (r ∷ []) n
    pub tree_is : seen flip b r ≡ t

  -- so from the roots xs, whatever else is owned
  abbrev pub Makes : Bool → List (Cell E S) → Pool → List ℕ → List (Cell E S) → Pool → ℕ → Tree E → ℕ → Type 0
  Makes flip a p xs b q r t n = (rs : List ℕ) → Arena k a p (xs ++ rs) → Yields flip a p rs b q r t n

  -- the roots that are owned once a reference is given up: where it was the last to a cell, the cell's children
  abbrev pub owing : Option (Cell E S) → List ℕ → List ℕ
  owing None rs = rs
  owing (Some c) rs = c.left ∷ c.right ∷ rs

  -- how many cells that frees
  abbrev pub freed : Option (Cell E S) → ℕ
  freed None = 0
  freed (Some c) = 1

  -- A reference to what i names was given up. The cell that it freed, if any, is handed out as it was.
  pub record GivesUp (a : List (Cell E S)) (p : Pool) (i : ℕ) (b : List (Cell E S)) (q : Pool) (last : Option (Cell E S)) : Type 0 where
    pub was : IfSome last (λ c. slice_get a i ≡ Some c)
    pub each : (rs : List ℕ) → Arena k a p (i ∷ rs) → Arena k b q (owing last rs)
    pub takes : Takes a b 0
    pub same_counts : (j : ℕ) → cell_count b j ≡ cell_count a j
    pub uses : used b + freed last ≡ used a
    pub frees : q.free ≡ p.free + freed last

  -- A root is no longer owned. What only it reached is free: what the others reach, and no more, is in use.
  pub record Releases (a : List (Cell E S)) (p : Pool) (rs : List ℕ) (b : List (Cell E S)) (q : Pool) : Type 0 where
    pub moved : Moved a p rs b q [] 0
    pub none_lost : NoneLost k b q rs
