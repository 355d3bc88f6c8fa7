-- The first atoms of an element, behind a tree.
use Rattle.std.proofs.Common.{◌≡◌, ℕ, ◌-◌, ◌^◌, ◌<◌, ◌≤◌, false, eqb, List, [], ◌∷◌, length, Some, None, sym, ap, ◌∙◌, subst, arith}
use Rattle.std.proofs.lemmas.Bool.{eq-eqb, ne_eqb}
use Rattle.faults.specs.Limits.{limit}
use Rattle.kinds.specs.Kinds.{Meaning, Laws, Lawful, Within}
use Rattle.kinds.proofs.Totals.{part_lawful}
use Rattle.balance.specs.Trees.{Tree, leaf, count}
use Rattle.balance.specs.Lists.{Shape}
use Rattle.balance.specs.Links.{link}
use Rattle.balance.specs.Ways.{span}
use Rattle.balance.specs.Edits.{up_to, on_from}
use Rattle.balance.specs.Levels.{most}
use Rattle.balance.specs.Costs.{link_cost, up_to_cost}
use Rattle.balance.proofs.Tests.{test_true, test_false}
use Rattle.balance.proofs.Links.{link_count}
use Rattle.balance.proofs.Ways.{link_span}
use Rattle.cells.specs.declared.cell.Cell.{Cell}
use Rattle.cells.specs.declared.pool.Pool.{Pool}
use Rattle.cells.specs.Cells.{shape, tree}
use Rattle.cells.specs.References.{Arena}
use Rattle.cells.specs.Moves.{Moved, Moves, Makes}
use Rattle.cells.proofs.Arenas.{rerooted}
use Rattle.cells.proofs.Moving.{moves_none}
use Rattle.links.specs.Sitting.{Linkable}
use Rattle.splits.specs.Owning.{Owns}
use Rattle.splits.specs.Splitting.{Grows}
use Rattle.splits.proofs.Nones.{none, none_far, owning_none, none_leaf}

module _ {E : Type 0} (s : Shape E) (e : E) (d : ℕ) where
  pub up_to_none : (l : Tree E) → d ≡ 0 → up_to s l e d ≡ l
  unfolding up_to
  up_to_none l z = test_true (eqb d 0) _ _ (eq-eqb d 0 z)

  pub up_to_some : (l : Tree E) → (d ≡ 0 → ⊥) → up_to s l e d ≡ link l (s.part e 0 d) leaf
  unfolding up_to
  up_to_some l nz = test_false (eqb d 0) _ _ (ne_eqb d 0 nz)

  pub on_from_none : d ≡ 0 → on_from s e d ≡ e
  unfolding on_from
  on_from_none z = test_true (eqb d 0) _ _ (eq-eqb d 0 z)

  pub on_from_some : (d ≡ 0 → ⊥) → on_from s e d ≡ s.part e d (s.extent e - d)
  unfolding on_from
  on_from_some nz = test_false (eqb d 0) _ _ (ne_eqb d 0 nz)

pub up_to_cost_none : {E : Type 0} (l : Tree E) (d : ℕ) → d ≡ 0 → up_to_cost l d ≡ 0
unfolding up_to_cost
up_to_cost_none l d z = test_true (eqb d 0) _ _ (eq-eqb d 0 z)

up_to_cost_some : {E : Type 0} (l : Tree E) (d : ℕ) → (d ≡ 0 → ⊥) → up_to_cost l d ≡ link_cost l leaf
unfolding up_to_cost
up_to_cost_some l d nz = test_false (eqb d 0) _ _ (ne_eqb d 0 nz)

-- nothing of the element
pub grows_none : {E A S : Type 0} (k : Meaning E A S) (a : List (Cell E S)) (p : Pool) (left : ℕ) (e : E) (d : ℕ) → d ≡ 0 → Grows k false a p (left ∷ []) a p left (up_to (shape k) (tree a left) e d) (up_to_cost (tree a left) d)
grows_none k a p left e d z = record {
  each = subst (Moves k a p (left ∷ []) a p (left ∷ [])) (sym (up_to_cost_none (tree a left) d z)) (moves_none k a p (left ∷ []));
  tree_is = sym (up_to_none (shape k) e d (tree a left) z);
}

pub first_within : {E A S : Type 0} (k : Meaning E A S) (e : E) (d : ℕ) → d < length (k.atoms e) → (d ≡ 0 → ⊥) → Within k e 0 d
first_within k e d inside nz = record { some = omega (arith, nz); inside = omega arith }

module _ {E A S : Type 0} {k : Meaning E A S} {a : List (Cell E S)} {p : Pool} {left : ℕ} (owns : Owns k a p (left ∷ []) [] (2 ^ 22)) where
  abbrev L : Tree E
  L = tree a left

  with_none : (rs : List ℕ) → Arena k a p (left ∷ rs) → Arena k a p (left ∷ none ∷ rs)
  with_none rs arena = rerooted k a p (none ∷ left ∷ rs) (owning_none k a p none none_far (left ∷ rs) arena) (left ∷ none ∷ rs) (λ j h. omega arith)

  none_is : tree a none ≡ leaf
  none_is = none_leaf k a p none none_far (left ∷ owns.rest) owns.arena

  module _ (e : E) (d : ℕ) (nz : d ≡ 0 → ⊥) where
    cost_is : up_to_cost L d ≡ link_cost L (tree a none)
    cost_is = up_to_cost_some L d nz ∙ ap (link_cost L) (sym none_is)

    pub up_some : up_to_cost L d ≤ p.free → link_cost L (tree a none) ≤ p.free
    up_some some = omega (arith, cost_is)

    module _ {part : E} (part_is : part ≡ k.part e 0 d) where
      up_is : up_to (shape k) L e d ≡ link L part (tree a none)
      up_is = up_to_some (shape k) e d L nz ∙ ap (λ f. link L f leaf) (sym part_is) ∙ ap (link L part) (sym none_is)

      pub up_linkable : count (up_to (shape k) L e d) ≤ most → span (shape k) (up_to (shape k) L e d) ≤ limit → Linkable k L part (tree a none)
      up_linkable few short = record {
        few = omega (arith, ap count up_is, link_count L part (tree a none));
        short = omega (arith, ap (span (shape k)) up_is, link_span (shape k) L part (tree a none));
      }

      pub grows_some : (b : List (Cell E S)) (q : Pool) (r : ℕ) → Makes k false a p (left ∷ none ∷ []) b q r (link L part (tree a none)) (link_cost L (tree a none))
          → Grows k false a p (left ∷ []) b q r (up_to (shape k) L e d) (up_to_cost L d)
      grows_some b q r yields = record {
        each = λ rs arena. subst (Moved k a p rs b q (r ∷ [])) (sym cost_is) (yields rs (with_none rs arena)).moved;
        tree_is = (yields owns.rest (with_none owns.rest owns.arena)).tree_is ∙ sym up_is;
      }

-- ---- what is left of the element

module _ {E A S : Type 0} {k : Meaning E A S} (laws : Laws k) {e : E} (lawful : Lawful k e) (d : ℕ) (inside : d < length (k.atoms e)) {extent : ℕ} (extent_is : extent ≡ length (k.atoms e)) where
  pub rest_within : Within k e d (extent - d)
  rest_within = record { some = omega (arith, extent_is); inside = omega (arith, extent_is) }

  pub rest_lawful : Lawful k (k.part e d (extent - d))
  rest_lawful = part_lawful k laws e d (extent - d) lawful rest_within

  pub rest_is : (d ≡ 0 → ⊥) → k.part e d (extent - d) ≡ on_from (shape k) e d
  rest_is nz = ap (λ (n : ℕ). k.part e d (n - d)) extent_is ∙ sym (on_from_some (shape k) e d nz)

pub none_owns : {S : Type 0} (s : S) → None ≡ Some s → ⊥
none_owns s e = let z : ◌≡◌ {A = ℕ} 0 1 = cc in omega arith
