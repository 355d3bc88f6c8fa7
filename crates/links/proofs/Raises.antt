-- A tree raised by one cell.
use Rattle.std.proofs.Common.{◌≡◌, ℕ, ◌^◌, ◌<◌, Bool, List, [], ◌∷◌, Some, sym, ap, ◌∙◌, subst, arith}
use Rattle.std.specs.List.{slice_get}
use Rattle.kinds.specs.Kinds.{Meaning}
use Rattle.balance.specs.Links.{rebalanced}
use Rattle.cells.specs.declared.cell.Cell.{Cell}
use Rattle.cells.specs.declared.item.Item.{Item}
use Rattle.cells.specs.declared.pool.Pool.{Pool}
use Rattle.cells.specs.Cells.{seen, far, linked, Live, Good, Whole}
use Rattle.cells.specs.References.{Arena, Holds}
use Rattle.cells.specs.Moves.{Moves, Retains, Makes}
use Rattle.cells.proofs.Staying.{reached_live}
use Rattle.cells.proofs.Names.{hit_same}
use Rattle.cells.proofs.Arenas.{rooted, rerooted}
use Rattle.cells.proofs.Moving.{moves_none, moves_then, seen_stays}
use Rattle.links.specs.Sitting.{Sits}
use Rattle.links.specs.Climbing.{raised, Above}
use Rattle.links.proofs.Sides.{seen_opened, far_live}

-- what owned roots reach is live
pub above_live : {E A S : Type 0} (k : Meaning E A S) (a : List (Cell E S)) (p : Pool) (low i n : ℕ) → Above k a p low i n → Live a i
above_live k a p low i n above =
    let r = above.reached in
    subst (Live a) r.leads (reached_live k a above.arena.sound r.root r.path
    (rooted k a p (low ∷ above.rest) above.arena r.root (omega (arith, r.among))))

module _ {E A S : Type 0} {k : Meaning E A S} (flip : Bool) {a : List (Cell E S)} {p : Pool} {low i : ℕ} (above : Above k a p low i (2 ^ 26)) {c : Cell E S} (at : slice_get a i ≡ Some c) where
  live : 0 < c.refs
  live = subst linked at (above_live k a p low i (2 ^ 26) above)

  good : Good k a i c
  good = above.arena.sound i c at live

  raised_is : raised (seen flip a low) (seen flip a i) ≡ rebalanced (seen flip a low) c.element (seen flip a (far flip c))
  raised_is = ap (raised (seen flip a low)) (seen_opened k flip a above.arena.sound i c at live)

  pub far_alive : {y : ℕ} → y ≡ far flip c → Live a y
  far_alive e = subst (Live a) (sym e) (far_live k flip a i c good)

  pub above_room : Holds k a p [] (2 ^ 30)
  above_room = record { rest = low ∷ above.rest; arena = above.arena; few = omega (arith, above.few) }

  pub passed_whole : {item : Item E S} → item ≡ record { element = c.element; own = c.own } → Whole k item
  passed_whole e = subst (Whole k) (sym e) (record { lawful = good.lawful; owns = good.owns })

  module _ {y : ℕ} {b : List (Cell E S)} (one : Retains k a y b) where
    both : Arena k b p (low ∷ y ∷ above.rest)
    both = rerooted k b p (y ∷ low ∷ above.rest) (one.each p (low ∷ above.rest) above.arena).arena (low ∷ y ∷ above.rest) (λ j h. omega arith)

    pub both_hold : Holds k b p (low ∷ y ∷ []) (2 ^ 27)
    both_hold = record { rest = above.rest; arena = both; few = omega (arith, above.few) }

    module _ (y_is : y ≡ far flip c) {item : Item E S} (item_is : item ≡ record { element = c.element; own = c.own }) where
      same_tree : raised (seen flip a low) (seen flip a i) ≡ rebalanced (seen flip b low) item.element (seen flip b y)
      same_tree =
          let l = seen_stays flip a b low ((one.each p (low ∷ above.rest) above.arena).stay low (let h = hit_same low in omega arith)) in
          let r = seen_stays flip a b y (one.here p (low ∷ above.rest) above.arena) in
          raised_is ∙ ap (λ t. rebalanced t c.element (seen flip a (far flip c))) (sym l) ∙ ap (rebalanced (seen flip b low) c.element) (ap (seen flip a) (sym y_is) ∙ sym r)
          ∙ ap (λ x. rebalanced (seen flip b low) x.element (seen flip b y)) (sym item_is)

      pub both_sit : Sits k (raised (seen flip a low) (seen flip a i)) → Sits k (rebalanced (seen flip b low) item.element (seen flip b y))
      both_sit sits = subst (Sits k) same_tree sits

      pub raises : {d : List (Cell E S)} {q : Pool} {r : ℕ} → (Makes k flip b p (low ∷ y ∷ []) d q r (rebalanced (seen flip b low) item.element (seen flip b y)) 3)
          → Makes k flip a p (low ∷ []) d q r (raised (seen flip a low) (seen flip a i)) 3
      raises {d} {q} {r} two rs arena =
          let first : Moves k a p (low ∷ []) b p (low ∷ y ∷ []) 0 =
          moves_then k a p (low ∷ []) a p (low ∷ []) 0 (moves_none k a p (low ∷ [])) [] (low ∷ []) (λ j. omega arith) b p (y ∷ []) 0 (one.each p) (low ∷ y ∷ []) (λ j. omega arith) in
          record {
            moved = moves_then k a p (low ∷ []) b p (low ∷ y ∷ []) 0 first (low ∷ y ∷ []) [] (λ j. omega arith) d q (r ∷ []) 3 (λ rs ar. (two rs ar).moved) (r ∷ []) (λ j. omega arith) rs arena;
            tree_is = (two above.rest both).tree_is ∙ sym same_tree;
          }
