-- The loop up a path of passed cells.
use Rattle.std.proofs.Common.{◌≡◌, ℕ, zero, suc, ◌+◌, ◌-◌, ◌*◌, ◌^◌, ◌<◌, ◌≤◌, Bool, List, [], ◌∷◌, ◌++◌, length, get_or, reverse, Some, None, Option, sym, refl, ap, ◌∙◌, subst, arith}
use Rattle.std.specs.List.{slice_get}
use Rattle.std.proofs.lemmas.Option.{slice_get_within}
use Rattle.std.proofs.lemmas.List.{get_or-reverse, length-reverse}
use Rattle.std.proofs.lemmas.Grind.{get_or_default_zero}
use Rattle.kinds.specs.Kinds.{Meaning}
use Rattle.balance.specs.Trees.{Tree}
use Rattle.cells.specs.declared.cell.Cell.{Cell}
use Rattle.cells.specs.declared.pool.Pool.{Pool}
use Rattle.cells.specs.Cells.{seen}
use Rattle.cells.specs.Reach.{child, follow, Alike, Stays, Reached}
use Rattle.cells.specs.References.{Arena, Holds}
use Rattle.cells.specs.Moves.{Moves, Makes}
use Rattle.cells.proofs.Lists.{none_past}
use Rattle.cells.proofs.Staying.{follow_more, stays_refl, stays_trans, follow_same}
use Rattle.cells.proofs.Names.{hit_same}
use Rattle.cells.proofs.Moving.{moves_none, moves_then, seen_stays}
use Rattle.links.specs.Sitting.{Sits}
use Rattle.links.specs.Climbing.{raised, descent, climbed, Tabled, Climbs, Above, Raises}

-- what is reached from a root that stays, stays
pub stays_below : {E S : Type 0} (a b : List (Cell E S)) (r : ℕ) (path : List Bool) → Stays a b r → Stays a b (follow a r path)
stays_below a b r [] stays = stays
stays_below a b r (s ∷ path) stays = stays_below a b (child s r (slice_get a r)) path (λ p. stays (s ∷ p))

-- what is alike to a cell is a cell
alike_inside : {E S : Type 0} (a b : List (Cell E S)) (i : ℕ) (o p : Option (Cell E S)) → slice_get a i ≡ o → slice_get b i ≡ p → Alike o p → i < length a → i < length b
alike_inside a b i None p ea eb alike h = absurd (omega (arith, none_past a i ea))
alike_inside a b i (Some c) None ea eb alike h = absurd alike
alike_inside a b i (Some c) (Some d) ea eb alike h = slice_get_within b i d eb

module _ {E S : Type 0} (flip : Bool) (a : List (Cell E S)) (top : ℕ) where
  -- a descent is a path
  pub descent_path : (n : ℕ) → ((path : List Bool) × (follow a top path ≡ descent flip a top n))
  unfolding descent
  descent_path zero = ([], refl)
  descent_path (suc n) =
      let d = descent_path n in
      (d.0 ++ (flip ∷ []), follow_more a top d.0 flip ∙ ap (λ i. child flip i (slice_get a i)) d.1)

  pub descent_stays : (b : List (Cell E S)) → Stays a b top → (n : ℕ) → Stays a b (descent flip a top n)
  descent_stays b stays n = let d = descent_path n in subst (Stays a b) d.1 (stays_below a b top d.0 stays)

  pub descent_inside : (b : List (Cell E S)) → Stays a b top → (n : ℕ) → descent flip a top n < length a → descent flip a top n < length b
  descent_inside b stays n h =
      let d = descent flip a top n in
      alike_inside a b d (slice_get a d) (slice_get b d) refl refl (descent_stays b stays n []) h

  pub descent_reached : (b : List (Cell E S)) → Stays a b top → (rest : List ℕ) (n : ℕ) → Reached b (top ∷ rest) (descent flip a top n)
  descent_reached b stays rest n =
      let d = descent_path n in
      record { root = top; among = let h = hit_same top in omega arith; path = d.0; leads = sym (follow_same a b top d.0 stays) ∙ d.1 }

  pub climbed_more : (n : ℕ) (u : Tree E) → climbed flip a top (suc n) u ≡ climbed flip a top n (raised u (seen flip a (descent flip a top n)))
  unfolding climbed
  climbed_more n u = refl

  pub climbed_none : (u : Tree E) → climbed flip a top 0 u ≡ u
  unfolding climbed
  climbed_none u = refl

-- the loop, from a and p on: so many cells of the path are passed, and n are left
pub record Climbing {E A S : Type 0} (k : Meaning E A S) (flip : Bool) (a : List (Cell E S)) (p : Pool) (low top : ℕ) (path : List ℕ) (b : List (Cell E S)) (q : Pool) (x passed : ℕ) : Type 0 where
  pub n : ℕ
  pub left : n + passed ≡ length path
  pub each : Moves k a p (low ∷ top ∷ []) b q (x ∷ top ∷ []) (3 * passed)
  pub stays : Stays a b top
  pub same : climbed flip a top n (seen flip b x) ≡ climbed flip a top (length path) (seen flip a low)
  pub sits : Climbs k flip a top n (seen flip b x)

-- the turn of the loop at the cell i
pub record Turn {E A S : Type 0} (k : Meaning E A S) (flip : Bool) (a : List (Cell E S)) (p : Pool) (low top : ℕ) (path : List ℕ) (b : List (Cell E S)) (q : Pool) (x passed i : ℕ) : Type 0 where
  pub above : Above k b q x i (2 ^ 26)
  pub inside : i < length b
  pub sits : Sits k (raised (seen flip b x) (seen flip b i))
  pub some : 3 * length path ≤ p.free → 3 ≤ q.free
  pub next : (c : List (Cell E S)) (o : Pool) (r : ℕ) → (Makes k flip b q (x ∷ []) c o r (raised (seen flip b x) (seen flip b i)) 3)
      → Climbing k flip a p low top path c o r (passed + 1)

module _ {E A S : Type 0} {k : Meaning E A S} {flip : Bool} {a : List (Cell E S)} {p : Pool} {low top : ℕ} {path : List ℕ} (holds : Holds k a p (low ∷ top ∷ []) (2 ^ 25)) (tabled : Tabled flip a top path)
    {b : List (Cell E S)} {q : Pool} {x passed : ℕ} (climbing : Climbing k flip a p low top path b q x passed) where
  held : Arena k b q (x ∷ top ∷ holds.rest)
  held = (climbing.each holds.rest holds.arena).arena

  -- m cells lie beyond i
  module _ (i m : ℕ) (n_is : climbing.n ≡ suc m) (i_at : i ≡ get_or path m 0) where
    abbrev d : ℕ
    d = descent flip a top m

    within : m < length path
    within = omega (arith, climbing.left)

    i_is : i ≡ d
    i_is = i_at ∙ tabled.are m within

    i_tree : seen flip b i ≡ seen flip a d
    i_tree = ap (seen flip b) i_is ∙ seen_stays flip a b d (descent_stays flip a top b climbing.stays m)

    sits_now : Sits k (raised (seen flip b x) (seen flip a d)) × Climbs k flip a top m (raised (seen flip b x) (seen flip a d))
    unfolding Climbs
    sits_now = subst (λ n. Climbs k flip a top n (seen flip b x)) n_is climbing.sits

    same_now : climbed flip a top m (raised (seen flip b x) (seen flip a d)) ≡ climbed flip a top (length path) (seen flip a low)
    same_now = sym (climbed_more flip a top m (seen flip b x)) ∙ ap (λ n. climbed flip a top n (seen flip b x)) (sym n_is) ∙ climbing.same

    turn_at : Turn k flip a p low top path b q x passed i
    turn_at = record {
      above = record {
        rest = top ∷ holds.rest;
        arena = held;
        reached = subst (Reached b (top ∷ holds.rest)) (sym i_is) (descent_reached flip a top b climbing.stays holds.rest m);
        few = omega (arith, holds.few);
      };
      inside = subst (λ i. i < length b) (sym i_is) (descent_inside flip a top b climbing.stays m (subst (λ i. i < length a) (tabled.are m within) (tabled.inside m within)));
      sits = subst (λ t. Sits k (raised (seen flip b x) t)) (sym i_tree) sits_now.0;
      some = λ some. omega (arith, (climbing.each holds.rest holds.arena).free, climbing.left);
      next = λ c o r raise.
          let tree : seen flip c r ≡ raised (seen flip b x) (seen flip a d) = (raise (top ∷ holds.rest) held).tree_is ∙ ap (raised (seen flip b x)) i_tree in
          let cost : 3 * passed + 3 ≡ 3 * (passed + 1) = omega arith in
          record {
            n = m;
            left = omega (arith, climbing.left);
            each = subst (λ n. Moves k a p (low ∷ top ∷ []) c o (r ∷ top ∷ []) n) cost
                (moves_then k a p (low ∷ top ∷ []) b q (x ∷ top ∷ []) (3 * passed) climbing.each (x ∷ []) (top ∷ []) (λ j. omega arith) c o (r ∷ []) 3 (λ rs ar. (raise rs ar).moved) (r ∷ top ∷ []) (λ j. omega arith));
            stays = stays_trans a b c top climbing.stays ((raise (top ∷ holds.rest) held).moved.stay top (let h = hit_same top in omega arith));
            same = ap (climbed flip a top m) tree ∙ same_now;
            sits = subst (Climbs k flip a top m) (sym tree) sits_now.1;
          };
    }

  -- the path is gone through from its end
  pub turn : (i : ℕ) → (passed < length (reverse path)) × (i ≡ get_or (reverse path) passed i) → Turn k flip a p low top path b q x passed i
  turn i at =
      let m : ℕ = climbing.n - 1 in
      let l = length-reverse path in
      let h : passed < length path = omega (arith, at.0) in
      let e : length path - 1 - passed ≡ m = omega (arith, climbing.left) in
      let z : get_or path m i ≡ get_or path m 0 = get_or_default_zero path m i (omega (arith, climbing.left)) in
      turn_at i m (omega (arith, climbing.left)) (at.1 ∙ get_or-reverse path passed i h ∙ ap (λ j. get_or path j i) e ∙ z)

module _ {E A S : Type 0} {k : Meaning E A S} {flip : Bool} {a : List (Cell E S)} {p : Pool} {low top : ℕ} {path : List ℕ} where
  pub climbing_start : Climbs k flip a top (length path) (seen flip a low) → Climbing k flip a p low top path a p low 0
  climbing_start sits = record {
    n = length path;
    left = omega arith;
    each = let e : 0 ≡ 3 * 0 = omega arith in subst (λ n. Moves k a p (low ∷ top ∷ []) a p (low ∷ top ∷ []) n) e (moves_none k a p (low ∷ top ∷ []));
    stays = stays_refl a top;
    same = refl;
    sits = sits;
  }

  pub climbing_end : {b : List (Cell E S)} {q : Pool} {x passed : ℕ} → Climbing k flip a p low top path b q x passed → passed ≡ length (reverse path)
      → Raises k flip a p low top b q x (climbed flip a top (length path) (seen flip a low)) (3 * length path)
  climbing_end {b} {q} {x} {passed} climbing all =
      let l = length-reverse path in
      let z : climbing.n ≡ 0 = omega (arith, climbing.left) in
      let cost : 3 * passed ≡ 3 * length path = omega arith in
      record {
        each = subst (λ n. Moves k a p (low ∷ top ∷ []) b q (x ∷ top ∷ []) n) cost climbing.each;
        stays = climbing.stays;
        tree_is = sym (climbed_none flip a top (seen flip b x)) ∙ ap (λ n. climbed flip a top n (seen flip b x)) (sym z) ∙ climbing.same;
      }
