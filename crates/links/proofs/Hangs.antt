-- Hanging: down, a cell at the foot, and up.
use Rattle.std.proofs.Common.{◌≡◌, ℕ, ◌+◌, ◌*◌, ◌^◌, ◌<◌, ◌≤◌, Bool, List, [], ◌∷◌, length, sym, ap, ◌∙◌, subst, arith}
use Rattle.kinds.specs.Kinds.{Meaning}
use Rattle.balance.specs.Trees.{Tree, node, count, weight, Balanced, Δ}
use Rattle.balance.specs.Links.{hung, spine}
use Rattle.balance.specs.Costs.{passes, link_cost}
use Rattle.balance.specs.Levels.{most, deepest}
use Rattle.balance.proofs.Links.{weighed_right}
use Rattle.balance.proofs.Costs.{link_cost_lem}
use Rattle.cells.specs.declared.cell.Cell.{Cell}
use Rattle.cells.specs.declared.item.Item.{Item}
use Rattle.cells.specs.declared.pool.Pool.{Pool}
use Rattle.cells.specs.Cells.{cell_count, seen, Live}
use Rattle.cells.specs.Reach.{Among, Stays}
use Rattle.cells.specs.References.{Arena, Holds}
use Rattle.cells.specs.Moves.{Moved, Moves, Retains, Fits, Makes, Releases}
use Rattle.cells.proofs.Staying.{stays_trans}
use Rattle.cells.proofs.Names.{hit_same}
use Rattle.cells.proofs.Arenas.{rooted, rerooted}
use Rattle.cells.proofs.Moving.{moves_none, moves_then, seen_stays}
use Rattle.links.specs.Opened.{Whole}
use Rattle.links.specs.Sitting.{Sits, Linkable}
use Rattle.links.specs.Climbing.{descent, climbed, Tabled, Climbs, Sunk, Raises}
use Rattle.links.proofs.Sides.{seen_balanced}
use Rattle.links.proofs.Rotations.{sits_fits}
use Rattle.links.proofs.Turns.{owned_count}
use Rattle.links.proofs.Levels.{descent_live, foot_tree, foot_sits, foot_climbs, foot_climbed, sunk_stays, level_same}

-- a link with a heavy right tree passes its spine
pub right_cost : {E : Type 0} (l r : Tree E) → Δ * weight l < weight r → link_cost l r ≡ 3 * length (spine l r) + 1
unfolding link_cost passes
right_cost l r heavy = ap (λ n. 3 * n + 1) (weighed_right (weight l) (weight r) _ _ _ heavy)

module _ {E A S : Type 0} {k : Meaning E A S} (flip : Bool) {a : List (Cell E S)} {p : Pool} {x y : ℕ} (item : Item E S) (holds : Holds k a p (x ∷ y ∷ []) (2 ^ 24))
    (linkable : Linkable k (seen flip a x) item.element (seen flip a y)) (heavy : Δ * weight (seen flip a x) < weight (seen flip a y)) where
  abbrev L : Tree E
  L = seen flip a x

  abbrev R : Tree E
  R = seen flip a y

  abbrev e : E
  e = item.element

  pub x_live : Live a x
  x_live = rooted k a p (x ∷ y ∷ holds.rest) holds.arena x (let h = hit_same x in omega arith)

  pub y_live : Live a y
  y_live = rooted k a p (x ∷ y ∷ holds.rest) holds.arena y (let h = hit_same y in omega arith)

  x_balanced : Balanced L
  x_balanced = seen_balanced k flip a holds.arena.sound x x_live

  y_balanced : Balanced R
  y_balanced = seen_balanced k flip a holds.arena.sound y y_live

  x_counts : count L ≡ cell_count a x
  x_counts = owned_count k flip a p (x ∷ y ∷ holds.rest) holds.arena x (let h = hit_same x in omega arith)

  y_counts : count R ≡ cell_count a y
  y_counts = owned_count k flip a p (x ∷ y ∷ holds.rest) holds.arena y (let h = hit_same y in omega arith)

  pub x_few : cell_count a x ≤ most
  x_few = omega (arith, x_counts, linkable.few)

  pub y_few : cell_count a y ≤ most
  y_few = omega (arith, y_counts, linkable.few)

  pub deep : length (spine L R) ≤ deepest
  deep = omega (arith, right_cost L R heavy, link_cost_lem L R x_balanced y_balanced (omega (arith, linkable.few)) (omega (arith, linkable.few)))

  pub room : Holds k a p [] (2 ^ 30)
  room = record { rest = x ∷ y ∷ holds.rest; arena = holds.arena; few = omega (arith, holds.few) }

  module _ {path : List ℕ} {f : ℕ} (sunk : Sunk k flip a L y path f) where
    abbrev n : ℕ
    n = length path

    light : weight L ≤ Δ * weight R
    light = omega (arith, heavy)

    pub foot_live : Live a f
    foot_live = subst (Live a) (sym sunk.foot_is) (descent_live sunk holds.arena.sound y_live e x_balanced linkable light n)

    sits_a : Sits k (node L e (seen flip a f))
    sits_a = subst (λ t. Sits k (node L e t)) (sym (foot_tree sunk holds.arena.sound y_live e x_balanced linkable light))
        (foot_sits sunk holds.arena.sound y_live e x_balanced linkable light)

    module _ {b : List (Cell E S)} (one : Retains k a f b) where
      move_b : Moves k a p (x ∷ y ∷ []) b p (x ∷ y ∷ f ∷ []) (0 + 0)
      move_b = moves_then k a p (x ∷ y ∷ []) a p (x ∷ y ∷ []) 0 (moves_none k a p (x ∷ y ∷ [])) [] (x ∷ y ∷ []) (λ i. omega arith) b p (f ∷ []) 0 (one.each p) (x ∷ y ∷ f ∷ []) (λ i. omega arith)

      stay_b : (i : ℕ) → Among (x ∷ y ∷ []) i → Stays a b i
      stay_b i among = (one.each p (x ∷ y ∷ holds.rest) holds.arena).stay i (omega arith)

      pub arena_b : Arena k b p (x ∷ f ∷ (y ∷ holds.rest))
      arena_b = rerooted k b p (x ∷ y ∷ f ∷ holds.rest) (move_b holds.rest holds.arena).arena (x ∷ f ∷ (y ∷ holds.rest)) (λ i h. omega arith)

      x_b : seen flip b x ≡ L
      x_b = seen_stays flip a b x (stay_b x (let h = hit_same x in omega arith))

      f_b : seen flip b f ≡ seen flip a f
      f_b = seen_stays flip a b f (one.here p (x ∷ y ∷ holds.rest) holds.arena)

      pub fits_b : Whole k item → Fits k (seen flip b x) item (seen flip b f)
      fits_b whole = subst (λ t. Fits k t item (seen flip b f)) (sym x_b) (subst (λ t. Fits k L item t) (sym f_b) (sits_fits k L item (seen flip a f) sits_a whole))

      module _ {c : List (Cell E S)} {q : Pool} {low : ℕ}
          (two : Makes k flip b p (x ∷ f ∷ []) c q low (node (seen flip b x) e (seen flip b f)) 1) where
        move_c : Moves k a p (x ∷ y ∷ []) c q (low ∷ y ∷ []) (0 + 1)
        move_c = moves_then k a p (x ∷ y ∷ []) b p (x ∷ y ∷ f ∷ []) 0 move_b (x ∷ f ∷ []) (y ∷ []) (λ i. omega arith) c q (low ∷ []) 1 (λ rs ar. (two rs ar).moved) (low ∷ y ∷ []) (λ i. omega arith)

        arena_c : Arena k c q (low ∷ y ∷ holds.rest)
        arena_c = (move_c holds.rest holds.arena).arena

        pub holds_c : Holds k c q (low ∷ y ∷ []) (2 ^ 25)
        holds_c = record { rest = holds.rest; arena = arena_c; few = omega (arith, holds.few) }

        y_stays : Stays a c y
        y_stays = stays_trans a b c y (stay_b y (let h = hit_same y in omega arith)) ((two (y ∷ holds.rest) arena_b).moved.stay y (let h = hit_same y in omega arith))

        sunk_c : Sunk k flip c L y path f
        sunk_c = sunk_stays k flip a c y y_stays L path f sunk

        pub tabled_c : Tabled flip c y path
        tabled_c = sunk_c.tabled

        y_c : seen flip c y ≡ R
        y_c = seen_stays flip a c y y_stays

        linkable_c : Linkable k L e (seen flip c y)
        linkable_c = subst (Linkable k L e) (sym y_c) linkable

        light_c : weight L ≤ Δ * weight (seen flip c y)
        light_c = subst (λ t. weight L ≤ Δ * weight t) (sym y_c) light

        y_live_c : Live c y
        y_live_c = rooted k c q (low ∷ y ∷ holds.rest) arena_c y (let h = hit_same y in omega arith)

        low_c : seen flip c low ≡ node L e (seen flip c (descent flip c y n))
        low_c =
            (two (y ∷ holds.rest) arena_b).tree_is ∙ ap (λ t. node t e (seen flip b f)) x_b ∙ ap (node L e) f_b
            ∙ ap (λ i. node L e (seen flip a i)) sunk.foot_is ∙ ap (node L e) (sym (level_same k flip a c y y_stays n))

        pub climbs_c : Climbs k flip c y n (seen flip c low)
        climbs_c = subst (Climbs k flip c y n) (sym low_c) (foot_climbs sunk_c arena_c.sound y_live_c e x_balanced linkable_c light_c)

        climbed_c : climbed flip c y n (seen flip c low) ≡ hung L e R
        climbed_c = ap (climbed flip c y n) low_c ∙ foot_climbed sunk_c arena_c.sound y_live_c e x_balanced linkable_c light_c ∙ ap (hung L e) y_c

        pub some_c : 3 * length (spine L R) + 1 ≤ p.free → 3 * n ≤ q.free
        some_c some = omega (arith, sunk.spine_is, (move_c holds.rest holds.arena).free)

        module _ {d : List (Cell E S)} {o : Pool} {r : ℕ} (three : Raises k flip c q low y d o r (climbed flip c y n (seen flip c low)) (3 * n)) where
          move_d : Moves k a p (x ∷ y ∷ []) d o (r ∷ y ∷ []) (1 + 3 * n)
          move_d = moves_then k a p (x ∷ y ∷ []) c q (low ∷ y ∷ []) 1 move_c (low ∷ y ∷ []) [] (λ i. omega arith) d o (r ∷ y ∷ []) (3 * n) three.each (r ∷ y ∷ []) (λ i. omega arith)

          pub arena_d : Arena k d o (y ∷ (r ∷ holds.rest))
          arena_d = rerooted k d o (r ∷ y ∷ holds.rest) (move_d holds.rest holds.arena).arena (y ∷ (r ∷ holds.rest)) (λ i h. omega arith)

          pub few_d : cell_count d y ≤ most
          few_d =
              let m = owned_count k flip d o (y ∷ (r ∷ holds.rest)) arena_d y (let h = hit_same y in omega arith) in
              omega (arith, ap count (seen_stays flip c d y three.stays), ap count y_c, linkable.few)

          module _ {z : List (Cell E S)} {w : Pool} (four : (rs : List ℕ) → Arena k d o (y ∷ rs) → Releases k d o rs z w) where
            pub hangs : Makes k flip a p (x ∷ y ∷ []) z w r (hung L e R) (3 * length (spine L R) + 1)
            hangs rs arena =
                let cost : 1 + 3 * n + 0 ≡ 3 * length (spine L R) + 1 = omega (arith, sunk.spine_is) in
                record {
                  moved = subst (λ m. Moved k a p rs z w (r ∷ []) m) cost
                      (moves_then k a p (x ∷ y ∷ []) d o (r ∷ y ∷ []) (1 + 3 * n) move_d (y ∷ []) (r ∷ []) (λ i. omega arith) z w [] 0 (λ rs ar. (four rs ar).moved) (r ∷ []) (λ i. omega arith) rs arena);
                  tree_is = seen_stays flip d z r ((four (r ∷ holds.rest) arena_d).moved.stay r (let h = hit_same r in omega arith)) ∙ three.tree_is ∙ climbed_c;
                }
