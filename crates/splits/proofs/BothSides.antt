-- The two sides of a place.
use Rattle.std.proofs.Common.{◌≡◌, ℕ, ◌+◌, ◌^◌, ◌≤◌, Bool, true, false, List, [], ◌∷◌, ◌++◌, sym, ap, ◌∙◌, subst, arith}
use Rattle.faults.specs.Limits.{limit}
use Rattle.kinds.specs.Kinds.{Meaning}
use Rattle.balance.specs.Trees.{Tree, count, mirror}
use Rattle.balance.specs.Links.{link, rebuilt}
use Rattle.balance.specs.Ways.{span}
use Rattle.balance.specs.Edits.{up_to}
use Rattle.balance.specs.Levels.{most}
use Rattle.balance.specs.Costs.{rebuilt_cost, up_to_cost}
use Rattle.balance.proofs.Mirrors.{mirror_count, mirror_span}
use Rattle.cells.specs.declared.cell.Cell.{Cell}
use Rattle.cells.specs.declared.pool.Pool.{Pool}
use Rattle.cells.specs.Cells.{shape, tree, seen}
use Rattle.cells.specs.Moves.{Moved, Moves, Retains}
use Rattle.cells.proofs.Staying.{occurs_append}
use Rattle.cells.proofs.Moving.{moves_then, seen_stays}
use Rattle.walks.specs.Walks.{Table}
use Rattle.splits.specs.Owning.{Owns}
use Rattle.splits.specs.Splitting.{Grows}
use Rattle.splits.specs.Regrowing.{Climbable, Growable, Regrown}
use Rattle.splits.specs.Sides.{Behind, Before}
use Rattle.splits.proofs.Tables.{reached_stays, stays_reached, live_reached, table_stays}

-- what passed cells stand for, and that they can be climbed, stays while the roots that reach them do
module _ {E A S : Type 0} {k : Meaning E A S} {a b : List (Cell E S)} {p q : Pool} {rest xs : List ℕ} {n : ℕ} (moved : Moved k a p rest b q xs n)
    {flip : Bool} {t : Tree E} {is : List ℕ} {free : ℕ} (climbs : Climbable k flip a rest t is free) where
  pub table_on : (ss : List (E × Tree E)) → Table flip a is ss → Table flip b is ss
  table_on ss passed =
      table_stays flip a b is ss passed
      (λ i among. stays_reached a b rest moved.stay i (climbs.reached i among))
      (λ i among. live_reached k b q (xs ++ rest) rest moved.arena (λ j h. omega (arith, occurs_append xs rest j)) i (reached_stays a b rest moved.stay i (climbs.reached i among)))

  pub climbs_on : (u : Tree E) → t ≡ u → (left : ℕ) → free ≤ left → Climbable k flip b rest u is left
  climbs_on u same left more = record {
    steps = climbs.steps;
    passed = table_on climbs.steps climbs.passed;
    reached = λ i among. reached_stays a b rest moved.stay i (climbs.reached i among);
    few = omega (arith, climbs.few, ap count same);
    short = omega (arith, climbs.short, ap (span (shape k)) same);
    some = omega (arith, climbs.some, ap (rebuilt_cost climbs.steps) same);
  }

module _ {E A S : Type 0} {k : Meaning E A S} {a : List (Cell E S)} {p : Pool} {c : Cell E S} {d : ℕ} {is : List ℕ} (h : Behind k a p c d is) where
  module _ {b : List (Cell E S)} (one : Retains k a c.right b) where
    kept : Moved k a p h.rest b p (c.right ∷ []) 0
    kept = one.each p h.rest h.arena

    same : tree b c.right ≡ tree a c.right
    same = seen_stays false a b c.right (one.here p h.rest h.arena)

    pub behind_grows : Growable k false b p c.right is
    behind_grows = record {
      rest = h.rest;
      arena = kept.arena;
      room = omega (arith, h.room);
      climbs = climbs_on kept h.climbs (tree b c.right) (sym same) p.free (omega arith);
    }

    pub behind_regrown : (z : List (Cell E S)) (o : Pool) (r : ℕ) → Regrown k false b p (c.right ∷ []) (tree b c.right) 0 is z o r → Regrown k false a p [] (tree a c.right) 0 is z o r
    behind_regrown z o r regrown ss passed =
        let grows = regrown ss (table_on kept h.climbs ss passed) in
        let cost : 0 + (0 + rebuilt_cost ss (tree b c.right)) ≡ 0 + rebuilt_cost ss (tree a c.right) = omega (arith, ap (rebuilt_cost ss) same) in
        record {
          each = subst (Moves k a p [] z o (r ∷ [])) cost
              (moves_then k a p [] b p (c.right ∷ []) 0 (one.each p) (c.right ∷ []) [] (λ i. omega arith) z o (r ∷ []) (0 + rebuilt_cost ss (tree b c.right)) grows.each (r ∷ []) (λ i. omega arith));
          tree_is = grows.tree_is ∙ ap (rebuilt link ss) same;
        }

module _ {E A S : Type 0} {k : Meaning E A S} {a : List (Cell E S)} {p : Pool} {f : Cell E S} {d : ℕ} {is : List ℕ} (h : Before k a p f d is) where
  abbrev U : Tree E
  U = up_to (shape k) (tree a f.left) f.element d

  abbrev cost : ℕ
  cost = up_to_cost (tree a f.left) d

  module _ {b : List (Cell E S)} (one : Retains k a f.left b) where
    kept_l : Moved k a p h.rest b p (f.left ∷ []) 0
    kept_l = one.each p h.rest h.arena

    same_l : tree b f.left ≡ tree a f.left
    same_l = seen_stays false a b f.left (one.here p h.rest h.arena)

    pub before_owns : Owns k b p (f.left ∷ []) [] (2 ^ 22)
    before_owns = record { rest = h.rest; arena = kept_l.arena; kept = λ i among. omega arith; few = omega (arith, h.room) }

    pub before_few : count (up_to (shape k) (tree b f.left) f.element d) ≤ most
    before_few = omega (arith, h.climbs.few, mirror_count U, ap (λ t. count (up_to (shape k) t f.element d)) same_l)

    pub before_short : span (shape k) (up_to (shape k) (tree b f.left) f.element d) ≤ limit
    before_short = omega (arith, h.climbs.short, mirror_span (shape k) U, ap (λ t. span (shape k) (up_to (shape k) t f.element d)) same_l)

    pub before_some : up_to_cost (tree b f.left) d ≤ p.free
    before_some = omega (arith, h.some, ap (λ t. up_to_cost t d) same_l)

    module _ {c : List (Cell E S)} {q : Pool} {low : ℕ} (two : Grows k false b p (f.left ∷ []) c q low (up_to (shape k) (tree b f.left) f.element d) (up_to_cost (tree b f.left) d)) where
      moved : Moved k b p h.rest c q (low ∷ []) (up_to_cost (tree b f.left) d)
      moved = two.each h.rest kept_l.arena

      first : Moves k a p [] c q (low ∷ []) (0 + up_to_cost (tree b f.left) d)
      first = moves_then k a p [] b p (f.left ∷ []) 0 (one.each p) (f.left ∷ []) [] (λ i. omega arith) c q (low ∷ []) (up_to_cost (tree b f.left) d) two.each (low ∷ []) (λ i. omega arith)

      all : Moved k a p h.rest c q (low ∷ []) (0 + up_to_cost (tree b f.left) d)
      all = first h.rest h.arena

      low_is : seen true c low ≡ mirror U
      low_is = ap mirror two.tree_is ∙ ap (λ t. mirror (up_to (shape k) t f.element d)) same_l

      pub before_grows : Growable k true c q low is
      before_grows = record {
        rest = h.rest;
        arena = moved.arena;
        room = omega (arith, h.room);
        climbs = climbs_on all h.climbs (seen true c low) (sym low_is) q.free (omega (arith, moved.free, ap (λ t. up_to_cost t d) same_l));
      }

      pub before_regrown : (z : List (Cell E S)) (o : Pool) (r : ℕ) → Regrown k true c q (low ∷ []) (seen true c low) 0 is z o r → Regrown k true a p [] (mirror U) cost is z o r
      before_regrown z o r regrown ss passed =
          let grows = regrown ss (table_on all h.climbs ss passed) in
          let sum : 0 + up_to_cost (tree b f.left) d + (0 + rebuilt_cost ss (seen true c low)) ≡ cost + rebuilt_cost ss (mirror U) = omega (arith, ap (rebuilt_cost ss) low_is, ap (λ t. up_to_cost t d) same_l) in
          record {
            each = subst (Moves k a p [] z o (r ∷ [])) sum
                (moves_then k a p [] c q (low ∷ []) (0 + up_to_cost (tree b f.left) d) first (low ∷ []) [] (λ i. omega arith) z o (r ∷ []) (0 + rebuilt_cost ss (seen true c low)) grows.each (r ∷ []) (λ i. omega arith));
            tree_is = grows.tree_is ∙ ap (rebuilt link ss) low_is;
          }
