-- The tree under a cell, and what is true of every cell in use.
use Rattle.std.specs.Prelude.{◌≡◌, ℕ, zero, suc, ◌+◌, ◌*◌, ◌<◌, ◌≤◌, Bool, true, false, List, length, Some, None, Option}
use Rattle.std.specs.List.{slice_get, flat_map, AllByRecursion}
use Rattle.faults.specs.Limits.{limit}
use Rattle.kinds.specs.Kinds.{Meaning, Lawful, IsAtom, total}
use Rattle.balance.specs.Trees.{Tree, leaf, node, elements, mirror, Δ}
use Rattle.balance.specs.Lists.{Shape}
use Rattle.cells.specs.declared.cell.Cell.{Cell}
use Rattle.cells.specs.declared.item.Item.{Item}

-- what trees see of a kind: extents and parts
abbrev pub shape : {E A S : Type 0} → Meaning E A S → Shape E
shape k = record { extent = λ e. length (k.atoms e); part = k.part }

-- the count of the cell that a link names, and its references; 0 where it names none
abbrev pub counted : {E S : Type 0} → Option (Cell E S) → ℕ
counted None = 0
counted (Some c) = c.count

abbrev pub cell_count : {E S : Type 0} → List (Cell E S) → ℕ → ℕ
cell_count cells i = counted (slice_get cells i)

abbrev pub referred : {E S : Type 0} → Option (Cell E S) → ℕ
referred None = 0
referred (Some c) = c.refs

abbrev pub refs_at : {E S : Type 0} → List (Cell E S) → ℕ → ℕ
refs_at cells i = referred (slice_get cells i)

-- The tree under a link, to the depth f: under none a leaf, under a cell its children's trees with its element between.
abbrev pub around : {E S : Type 0} → Option (Cell E S) → (ℕ → Tree E) → Tree E
around None below = leaf
around (Some c) below = node (below c.left) c.element (below c.right)

unfoldable pub tree_to : {E S : Type 0} → ℕ → List (Cell E S) → ℕ → Tree E
tree_to zero cells i = leaf
tree_to (suc f) cells i = around (slice_get cells i) (tree_to f cells)

-- No tree is deeper than the number of its elements.
abbrev pub tree : {E S : Type 0} → List (Cell E S) → ℕ → Tree E
tree cells i = tree_to (cell_count cells i) cells i

-- the same tree, or its mirror image
abbrev pub facing : {E : Type 0} → Bool → Tree E → Tree E
facing false t = t
facing true t = mirror t

abbrev pub seen : {E S : Type 0} → Bool → List (Cell E S) → ℕ → Tree E
seen flip cells i = facing flip (tree cells i)

-- the child that is seen on the left, and the one on the right
abbrev pub near : {E S : Type 0} → Bool → Cell E S → ℕ
near false c = c.left
near true c = c.right

abbrev pub far : {E S : Type 0} → Bool → Cell E S → ℕ
far false c = c.right
far true c = c.left

-- a link names none, or a cell in use
abbrev pub linked : {E S : Type 0} → Option (Cell E S) → Type 0
linked None = Unit {0}
linked (Some c) = 0 < c.refs

abbrev pub Live : {E S : Type 0} → List (Cell E S) → ℕ → Type 0
Live cells i = linked (slice_get cells i)

module _ {E A S : Type 0} (k : Meaning E A S) where
  -- the atoms of a tree's elements, in order
  abbrev pub meant : Tree E → List A
  meant t = flat_map k.atoms (elements t)

  -- an element of the kind, with its own summary
  pub record Whole (item : Item E S) : Type 0 where
    pub lawful : Lawful k item.element
    pub owns : item.own ≡ total k (k.atoms item.element)

  -- the summary that a link tells
  abbrev pub summed : Option (Cell E S) → S
  summed None = k.none
  summed (Some c) = c.summary

  abbrev pub sum_at : List (Cell E S) → ℕ → S
  sum_at cells i = summed (slice_get cells i)

  -- What a cell in use tells is true: of its children, of its element, and of the tree under it.
  pub record Good (cells : List (Cell E S)) (i : ℕ) (c : Cell E S) : Type 0 where
    pub left_live : Live cells c.left
    pub right_live : Live cells c.right
    pub counts : c.count ≡ cell_count cells c.left + 1 + cell_count cells c.right
    pub left_light : cell_count cells c.left + 1 ≤ Δ * (cell_count cells c.right + 1)
    pub right_light : cell_count cells c.right + 1 ≤ Δ * (cell_count cells c.left + 1)
    pub lawful : Lawful k c.element
    pub owns : c.own ≡ total k (k.atoms c.element)
    pub sums : c.summary ≡ total k (meant (tree cells i))
    pub few : length (meant (tree cells i)) ≤ limit
    pub atomic : AllByRecursion (IsAtom k) (meant (tree cells i))

  abbrev pub Sound : List (Cell E S) → Type 0
  Sound cells = (i : ℕ) (c : Cell E S) → slice_get cells i ≡ Some c → 0 < c.refs → Good cells i c
