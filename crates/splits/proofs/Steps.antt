-- One cell more.
use Rattle.std.proofs.Common.{◌≡◌, ℕ, ◌+◌, ◌^◌, ◌<◌, ◌≤◌, Bool, List, [], ◌∷◌, Some, sym, ap, ◌∙◌, subst, arith}
use Rattle.std.specs.List.{slice_get}
use Rattle.kinds.specs.Kinds.{Meaning}
use Rattle.balance.specs.Trees.{Tree}
use Rattle.balance.specs.Links.{link}
use Rattle.balance.specs.Costs.{link_cost}
use Rattle.cells.specs.declared.cell.Cell.{Cell}
use Rattle.cells.specs.declared.item.Item.{Item}
use Rattle.cells.specs.declared.pool.Pool.{Pool}
use Rattle.cells.specs.Cells.{seen, far, Live, Good, Whole}
use Rattle.cells.specs.References.{Arena, Holds}
use Rattle.cells.specs.Moves.{Moves, Retains}
use Rattle.cells.proofs.Names.{hit_same}
use Rattle.cells.proofs.Arenas.{rerooted}
use Rattle.cells.proofs.Moving.{moves_none, moves_then, seen_stays}
use Rattle.links.specs.Sitting.{Linkable}
use Rattle.links.proofs.Sides.{far_live}
use Rattle.splits.specs.Splitting.{Grows}
use Rattle.splits.specs.Regrowing.{Joinable, Grown}
use Rattle.splits.proofs.Tables.{passed_is}

module _ {E A S : Type 0} {k : Meaning E A S} {flip : Bool} {a : List (Cell E S)} {p : Pool} {low i : ℕ} (j : Joinable k flip a p low i) where
  module _ {c : Cell E S} (at : slice_get a i ≡ Some c) where
    live : 0 < c.refs
    live =
        let o : Some c ≡ Some j.passed.cell = sym at ∙ j.passed.at in
        let same : j.passed.cell ≡ c = cc in
        subst (λ d. 0 < d.refs) same j.passed.live

    good : Good k a i c
    good = j.arena.sound i c at live

    step_is : j.step ≡ (c.element, seen flip a (far flip c))
    step_is = passed_is flip a i j.step c j.passed at

    pub far_alive : {y : ℕ} → y ≡ far flip c → Live a y
    far_alive e = subst (Live a) (sym e) (far_live k flip a i c good)

    module _ {item : Item E S} (item_is : item ≡ record { element = c.element; own = c.own }) where
      pub whole : Whole k item
      whole = subst (Whole k) (sym item_is) (record { lawful = good.lawful; owns = good.owns })

      element_is : item.element ≡ c.element
      element_is = ap (λ m. m.element) item_is

      module _ {y : ℕ} (y_is : y ≡ far flip c) {b : List (Cell E S)} (one : Retains k a y b) where
        both : Arena k b p (low ∷ y ∷ j.rest)
        both = rerooted k b p (y ∷ low ∷ j.rest) (one.each p (low ∷ j.rest) j.arena).arena (low ∷ y ∷ j.rest) (λ n h. omega arith)

        pub both_hold : Holds k b p (low ∷ y ∷ []) (2 ^ 24)
        both_hold = record { rest = j.rest; arena = both; few = omega (arith, j.room) }

        low_is : seen flip b low ≡ seen flip a low
        low_is = seen_stays flip a b low ((one.each p (low ∷ j.rest) j.arena).stay low (let h = hit_same low in omega arith))

        far_is : seen flip b y ≡ seen flip a (far flip c)
        far_is = seen_stays flip a b y (one.here p (low ∷ j.rest) j.arena) ∙ ap (seen flip a) y_is

        pub linkable_b : Linkable k (seen flip b low) item.element (seen flip b y)
        linkable_b =
            subst (λ l. Linkable k l item.element (seen flip b y)) (sym low_is)
            (subst (λ e. Linkable k (seen flip a low) e (seen flip b y)) (sym element_is)
            (subst (Linkable k (seen flip a low) c.element) (sym far_is) (subst (λ s. Linkable k (seen flip a low) s.0 s.1) step_is j.linkable)))

        pub some_b : link_cost (seen flip b low) (seen flip b y) ≤ p.free
        some_b = omega (arith, j.some, ap (λ l. link_cost l (seen flip b y)) low_is, ap (link_cost (seen flip a low)) far_is, ap (λ (s : E × Tree E). link_cost (seen flip a low) s.1) step_is)

        module _ {d : List (Cell E S)} {q : Pool} {r : ℕ} (two : Grows k flip b p (low ∷ y ∷ []) d q r (link (seen flip b low) item.element (seen flip b y)) (link_cost (seen flip b low) (seen flip b y))) where
          -- the step that the cell stands for
          plain : Grows k flip a p (low ∷ []) d q r (link (seen flip a low) c.element (seen flip a (far flip c))) (link_cost (seen flip a low) (seen flip a (far flip c)))
          plain =
              let first : Moves k a p (low ∷ []) b p (low ∷ y ∷ []) 0 =
              moves_then k a p (low ∷ []) a p (low ∷ []) 0 (moves_none k a p (low ∷ [])) [] (low ∷ []) (λ n. omega arith) b p (y ∷ []) 0 (one.each p) (low ∷ y ∷ []) (λ n. omega arith) in
              let cost : 0 + link_cost (seen flip b low) (seen flip b y) ≡ link_cost (seen flip a low) (seen flip a (far flip c)) =
              omega (arith, ap (λ l. link_cost l (seen flip b y)) low_is, ap (link_cost (seen flip a low)) far_is) in
              record {
                each = subst (Moves k a p (low ∷ []) d q (r ∷ [])) cost
                    (moves_then k a p (low ∷ []) b p (low ∷ y ∷ []) 0 first (low ∷ y ∷ []) [] (λ n. omega arith) d q (r ∷ []) (link_cost (seen flip b low) (seen flip b y)) two.each (r ∷ []) (λ n. omega arith));
                tree_is = two.tree_is ∙ ap (λ l. link l item.element (seen flip b y)) low_is ∙ ap (λ e. link (seen flip a low) e (seen flip b y)) element_is ∙ ap (link (seen flip a low) c.element) far_is;
              }

          pub grown : Grown k flip a p low i d q r
          grown s passed =
              subst (λ (s : E × Tree E). Grows k flip a p (low ∷ []) d q r (link (seen flip a low) s.0 s.1) (link_cost (seen flip a low) s.1)) (sym (passed_is flip a i s c passed at)) plain
