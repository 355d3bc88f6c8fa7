-- A tree taken apart: a walk down, and up again on both sides.
use Rattle.std.proofs.Common.{◌≡◌, ℕ, ◌+◌, ◌-◌, ◌^◌, ◌<◌, ◌≤◌, Bool, true, false, ltb, List, [], ◌∷◌, length, Some, None, Option, sym, refl, ap, ◌∙◌, subst, ⊎_elim, arith, le-ltb, lt-ltb}
use Rattle.std.specs.List.{slice_get}
use Rattle.std.proofs.lemmas.Bool.{cases_eq}
use Rattle.faults.specs.Limits.{limit}
use Rattle.kinds.specs.Kinds.{Meaning, Laws}
use Rattle.balance.specs.Trees.{Tree, leaf, count, mirror}
use Rattle.balance.specs.Lists.{Shape}
use Rattle.balance.specs.Links.{link, rebuilt, passed_count}
use Rattle.balance.specs.Ways.{here, whole, walked, passed_left, passed_right, span, passed_span, way}
use Rattle.balance.specs.Edits.{done, more, up_to, on_from, before, rest, parted}
use Rattle.balance.specs.Levels.{most}
use Rattle.balance.specs.Costs.{rebuilt_cost, up_to_cost, before_cost, rest_cost, parted_cost}
use Rattle.balance.proofs.Tests.{test_true, test_false}
use Rattle.balance.proofs.Mirrors.{mirror_mirror, mirror_count, mirror_span}
use Rattle.balance.proofs.Links.{link_count}
use Rattle.balance.proofs.Ways.{way_through, link_span}
use Rattle.balance.proofs.Loops.{walked_count, walked_span, rest_walked, before_walked, rest_cost_walked, before_cost_walked}
use Rattle.cells.specs.declared.cell.Cell.{Cell}
use Rattle.cells.specs.declared.pool.Pool.{Pool}
use Rattle.cells.specs.Cells.{shape, cell_count, tree, linked, Live, Good, Sound, referred}
use Rattle.cells.specs.Reach.{Among, Alike, Stays, Reached}
use Rattle.cells.specs.References.{Arena}
use Rattle.cells.specs.Moves.{Moved, Moves, Retains}
use Rattle.cells.proofs.Names.{hit_same, hit_other}
use Rattle.cells.proofs.Arenas.{rooted}
use Rattle.cells.proofs.Moving.{moves_none, moves_more, moves_then, seen_stays}
use Rattle.cells.proofs.Trees.{known}
use Rattle.cells.proofs.Lost.{none_lost}
use Rattle.links.proofs.Sides.{near_stays}
use Rattle.walks.specs.declared.answers.Found.{Found}
use Rattle.walks.specs.Walks.{Table, Walked}
use Rattle.splits.specs.declared.split.Loose.{Loose}
use Rattle.splits.specs.Owning.{Owns}
use Rattle.splits.specs.Splitting.{Tied, Grows, Splits, Leaves}
use Rattle.splits.specs.Regrowing.{Climbable, Regrown}
use Rattle.splits.specs.Sides.{Behind, Before}
use Rattle.splits.proofs.Tables.{reached_stays, stays_reached, live_reached}
use Rattle.splits.proofs.UpTo.{up_to_none, up_to_some}
use Rattle.splits.proofs.Spans.{live_short, first_extent}
use Rattle.splits.proofs.BothSides.{table_on, climbs_on}

-- ---- on trees

module _ {E : Type 0} (s : Shape E) (t : Tree E) (place : ℕ) where
  pub parted_beyond : span s t ≤ place → parted s t place ≡ record { before = t; rest = done }
  unfolding parted
  parted_beyond h = test_false (ltb place (span s t)) _ _ (le-ltb place (span s t) h)

  pub cost_beyond : span s t ≤ place → parted_cost s t place ≡ 0
  unfolding parted_cost
  cost_beyond h = test_false (ltb place (span s t)) _ _ (le-ltb place (span s t) h)

  parted_inside : place < span s t → parted s t place ≡ record { before = before s (way s t place); rest = rest s (way s t place) }
  unfolding parted
  parted_inside h = test_true (ltb place (span s t)) _ _ (lt-ltb place (span s t) h)

  cost_inside : place < span s t → parted_cost s t place ≡ before_cost s (way s t place) + rest_cost s (way s t place)
  unfolding parted_cost
  cost_inside h = test_true (ltb place (span s t)) _ _ (lt-ltb place (span s t) h)

module _ {E : Type 0} (s : Shape E) (l : Tree E) (e : E) (r : Tree E) (d : ℕ) where
  here_rest : rest s (here l e r d) ≡ more (on_from s e d) r
  unfolding rest
  here_rest = refl

  here_before : before s (here l e r d) ≡ up_to s l e d
  unfolding before
  here_before = refl

  here_costs : before_cost s (here l e r d) + rest_cost s (here l e r d) ≡ up_to_cost l d
  unfolding before_cost rest_cost
  here_costs = omega arith

  -- the first part is no more than the element
  pub up_to_count : count (up_to s l e d) ≤ count l + 1
  up_to_count = ⊎_elim
      (λ z. omega (arith, ap count (up_to_none s e d l z)))
      (λ nz. omega (arith, ap count (up_to_some s e d l nz), link_count l (s.part e 0 d) leaf))
      (cases_eq d 0)

  pub up_to_span : ((d ≡ 0 → ⊥) → s.extent (s.part e 0 d) ≡ d) → d ≤ s.extent e → span s (up_to s l e d) ≤ span s l + s.extent e
  up_to_span part_is h = ⊎_elim
      (λ z. omega (arith, ap (span s) (up_to_none s e d l z)))
      (λ nz. omega (arith, ap (span s) (up_to_some s e d l nz), link_span s l (s.part e 0 d) leaf, part_is nz))
      (cases_eq d 0)

-- ---- on cells

climbs_wider : {E A S : Type 0} {k : Meaning E A S} {flip : Bool} {a : List (Cell E S)} {rs : List ℕ} (r : ℕ) {t : Tree E} {is : List ℕ} {free : ℕ} → Climbable k flip a rs t is free → Climbable k flip a (r ∷ rs) t is free
climbs_wider r climbs = record {
  steps = climbs.steps;
  passed = climbs.passed;
  reached = λ i among. let x = climbs.reached i among in record { root = x.root; among = let h = x.among in omega arith; path = x.path; leads = x.leads };
  few = climbs.few;
  short = climbs.short;
  some = climbs.some;
}

module _ {E A S : Type 0} {k : Meaning E A S} {a : List (Cell E S)} {p : Pool} {rs : List ℕ} (arena : Arena k a p rs) where
  -- what is in use is reached
  used_reached : (i : ℕ) (c : Cell E S) → slice_get a i ≡ Some c → 0 < c.refs → Reached a rs i
  used_reached i c at live = (none_lost k a p rs arena).used_reached i (omega (arith, ap referred at))

  table_reached : (flip : Bool) (is : List ℕ) (ss : List (E × Tree E)) → Table flip a is ss → (i : ℕ) → Among is i → Reached a rs i
  table_reached flip [] ss t i among = absurd (omega arith)
  table_reached flip (j ∷ is) [] t i among = absurd t
  table_reached flip (j ∷ is) (s ∷ ss) t i among = ⊎_elim
      (λ same. subst (Reached a rs) (sym same) (used_reached j t.0.cell t.0.at t.0.live))
      (λ other. table_reached flip is ss t.1 i (let h = hit_other j i other in omega arith))
      (cases_eq i j)

-- the left child of a cell that stays is in use still
left_live_at : {E A S : Type 0} (k : Meaning E A S) (b : List (Cell E S)) → Sound k b → (i : ℕ) (c : Cell E S) (o : Option (Cell E S)) → slice_get b i ≡ o → Alike (Some c) o → linked o → Live b c.left
left_live_at k b sound i c None at alike live = absurd alike
left_live_at k b sound i c (Some d) at alike live = subst (Live b) (sym alike.left) (sound i d at live).left_live

module _ {E A S : Type 0} {k : Meaning E A S} {a : List (Cell E S)} {p : Pool} {root : ℕ} (owns : Owns k a p [] (root ∷ []) (2 ^ 20)) where
  abbrev t : Tree E
  t = tree a root

  pub root_live : Live a root
  root_live = rooted k a p owns.rest owns.arena root (owns.kept root (let h = hit_same root in omega arith))

  pub root_few : count t ≤ most → cell_count a root ≤ most
  root_few few = omega (arith, (known k a owns.arena.sound root root_live).counts)

  module _ (place : ℕ) where
    -- at the end or beyond
    pub splits_beyond : span (shape k) t ≤ place → (b : List (Cell E S)) → Retains k a root b
        → Splits k a p [] b p (record { before = root; loose = None }) (parted (shape k) t place) (parted_cost (shape k) t place)
    splits_beyond h b one =
        let is = parted_beyond (shape k) t place h in
        record {
          each = subst (Moves k a p [] b p (root ∷ [])) (sym (cost_beyond (shape k) t place h)) (one.each p);
          before_is = seen_stays false a b root (one.here p owns.rest owns.arena) ∙ ap (λ s. s.before) (sym is);
          rest_is = ap (λ s. s.rest) (sym is);
          tied = tt;
        }

    pub leaves_beyond : span (shape k) t ≤ place → Leaves k a p a p None (parted (shape k) t place).rest (parted_cost (shape k) t place)
    leaves_beyond h = record {
      each = subst (Moves k a p [] a p []) (sym (cost_beyond (shape k) t place h)) (moves_none k a p []);
      rest_is = ap (λ s. s.rest) (sym (parted_beyond (shape k) t place h));
      tied = tt;
    }

  module _ (laws : Laws k) (few : count t ≤ most) {place : ℕ} {lefts rights : List ℕ} {found : Found} (w : Walked k a root place lefts rights found) {c : Cell E S} (at : slice_get a found.cell ≡ Some c)
      (inside : place < span (shape k) t) where
    cell_is : w.cell ≡ c
    cell_is = let o : Some c ≡ Some w.cell = sym at ∙ w.at in cc

    live : 0 < c.refs
    live = subst (λ d. 0 < d.refs) cell_is w.live

    good : Good k a found.cell c
    good = owns.arena.sound found.cell c at live

    pub holding_inside : found.offset < length (k.atoms c.element)
    holding_inside = subst (λ d. found.offset < length (k.atoms d.element)) cell_is w.inside

    abbrev d : ℕ
    d = found.offset

    abbrev e : E
    e = c.element

    abbrev L : Tree E
    L = tree a c.left

    abbrev R : Tree E
    R = tree a c.right

    abbrev U : Tree E
    U = up_to (shape k) L e d

    abbrev ls : List (E × Tree E)
    ls = passed_left w.steps

    abbrev rs : List (E × Tree E)
    rs = passed_right w.steps

    way_is : way (shape k) t place ≡ walked w.steps (here L e R d)
    way_is = w.is ∙ ap (λ c. walked w.steps (here (tree a c.left) c.element (tree a c.right) d)) cell_is

    whole_is : whole (walked w.steps (here L e R d)) ≡ t
    whole_is = ap whole (sym way_is) ∙ way_through (shape k) t place

    counts : count t ≡ count L + count R + 1 + passed_count ls + passed_count rs
    counts = sym (ap count whole_is) ∙ walked_count w.steps (here L e R d)

    spans : span (shape k) t ≡ span (shape k) L + length (k.atoms e) + span (shape k) R + passed_span (shape k) ls + passed_span (shape k) rs
    spans = sym (ap (span (shape k)) whole_is) ∙ walked_span (shape k) w.steps (here L e R d)

    t_short : span (shape k) t ≤ limit
    t_short = live_short k a owns.arena.sound root root_live

    -- the two sides
    before_is : mirror (before (shape k) (way (shape k) t place)) ≡ rebuilt link rs (mirror U)
    before_is = ap (λ w. mirror (before (shape k) w)) way_is ∙ before_walked (shape k) w.steps (here L e R d) ∙ ap (λ b. rebuilt link rs (mirror b)) (here_before (shape k) L e R d)

    rest_is : rest (shape k) (way (shape k) t place) ≡ more (on_from (shape k) e d) (rebuilt link ls R)
    rest_is = ap (rest (shape k)) way_is ∙ rest_walked (shape k) w.steps (here L e R d) (on_from (shape k) e d) R (here_rest (shape k) L e R d)

    cost_is : parted_cost (shape k) t place ≡ (up_to_cost L d + rebuilt_cost rs (mirror U)) + rebuilt_cost ls R
    cost_is =
        let x = ap (before_cost (shape k)) way_is ∙ before_cost_walked (shape k) w.steps (here L e R d) in
        let y = ap (rest_cost (shape k)) way_is ∙ rest_cost_walked (shape k) w.steps (here L e R d) (on_from (shape k) e d) R (here_rest (shape k) L e R d) in
        omega (arith, cost_inside (shape k) t place inside, here_costs (shape k) L e R d, ap (λ b. rebuilt_cost rs (mirror b)) (here_before (shape k) L e R d))

    pub asks_behind : parted_cost (shape k) t place ≤ p.free → Behind k a p c d lefts
    asks_behind some = record {
      rest = owns.rest;
      arena = owns.arena;
      room = omega (arith, owns.few);
      live = good.right_live;
      whole = record { lawful = good.lawful; owns = good.owns };
      inside = holding_inside;
      climbs = record {
        steps = ls;
        passed = w.to_left;
        reached = table_reached owns.arena false lefts ls w.to_left;
        few = omega (arith, counts);
        short = omega (arith, spans, t_short);
        some = omega (arith, cost_is);
      };
    }

    climbs_a : Climbable k true a owns.rest (mirror U) rights (rebuilt_cost rs (mirror U))
    climbs_a = record {
      steps = rs;
      passed = w.to_right;
      reached = table_reached owns.arena true rights rs w.to_right;
      few = omega (arith, counts, mirror_count U, up_to_count (shape k) L e R d);
      short = omega (arith, spans, t_short, mirror_span (shape k) U, up_to_span (shape k) L e R d (first_extent k laws e d good.lawful holding_inside) (omega (arith, holding_inside)));
      some = omega arith;
    }

    module _ {b : List (Cell E S)} {q : Pool} {l : Loose E S} (grown : Regrown k false a p [] R 0 lefts b q l.root) (tied : Tied k l) (element : l.element ≡ on_from (shape k) e d) where
      abbrev r : ℕ
      r = l.root

      one : Grows k false a p [] b q r (rebuilt link ls R) (0 + rebuilt_cost ls R)
      one = grown ls w.to_left

      moved : Moved k a p owns.rest b q (r ∷ []) (0 + rebuilt_cost ls R)
      moved = one.each owns.rest owns.arena

      loose_is : (z : List (Cell E S)) → tree z r ≡ rebuilt link ls R → more l.element (tree z r) ≡ (parted (shape k) t place).rest
      loose_is z is = ap (λ f. more f (tree z r)) element ∙ ap (more (on_from (shape k) e d)) is ∙ sym rest_is ∙ ap (λ s. s.rest) (sym (parted_inside (shape k) t place inside))

      -- what lies behind, by itself
      pub leaves_inside : Leaves k a p b q (Some l) (parted (shape k) t place).rest (parted_cost (shape k) t place)
      leaves_inside = record { each = moves_more k a p [] b q (r ∷ []) (0 + rebuilt_cost ls R) (parted_cost (shape k) t place) (omega (arith, cost_is)) one.each; rest_is = loose_is b one.tree_is; tied = tied }

      cell_reached : Reached a owns.rest found.cell
      cell_reached = used_reached owns.arena found.cell c at live

      cell_stays : Stays a b found.cell
      cell_stays = stays_reached a b owns.rest moved.stay found.cell cell_reached

      left_live : Live b c.left
      left_live = left_live_at k b moved.arena.sound found.cell c (slice_get b found.cell) refl (subst (λ o. Alike o (slice_get b found.cell)) at (cell_stays []))
          (live_reached k b q (r ∷ owns.rest) owns.rest moved.arena (λ i h. omega arith) found.cell (reached_stays a b owns.rest moved.stay found.cell cell_reached))

      left_is : tree b c.left ≡ L
      left_is = seen_stays false a b c.left (near_stays false a b found.cell c at cell_stays)

      abbrev V : Tree E
      V = up_to (shape k) (tree b c.left) e d

      pub asks_before : parted_cost (shape k) t place ≤ p.free → Before k b q c d rights
      asks_before some = record {
        rest = r ∷ owns.rest;
        arena = moved.arena;
        room = omega (arith, owns.few);
        live = left_live;
        lawful = good.lawful;
        inside = holding_inside;
        some = omega (arith, cost_is, moved.free, ap (λ l. up_to_cost l d) left_is);
        climbs = climbs_wider r (climbs_on moved climbs_a (mirror V) (ap (λ l. mirror (up_to (shape k) l e d)) (sym left_is)) (q.free - up_to_cost (tree b c.left) d)
            (omega (arith, some, cost_is, moved.free, ap (λ l. up_to_cost l d) left_is)));
      }

      module _ {z : List (Cell E S)} {o : Pool} {x : ℕ} (grown' : Regrown k true b q [] (mirror V) (up_to_cost (tree b c.left) d) rights z o x) where
        two : Grows k true b q [] z o x (rebuilt link rs (mirror V)) (up_to_cost (tree b c.left) d + rebuilt_cost rs (mirror V))
        two = grown' rs (table_on moved climbs_a rs w.to_right)

        behind_stays : tree z r ≡ rebuilt link ls R
        behind_stays = seen_stays false b z r ((two.each (r ∷ owns.rest) moved.arena).stay r (let h = hit_same r in omega arith)) ∙ one.tree_is

        before_tree : tree z x ≡ before (shape k) (way (shape k) t place)
        before_tree =
            sym (mirror_mirror (tree z x)) ∙ ap mirror (two.tree_is ∙ ap (λ l. rebuilt link rs (mirror (up_to (shape k) l e d))) left_is ∙ sym before_is)
            ∙ mirror_mirror (before (shape k) (way (shape k) t place))

        pub splits_inside : Splits k a p [] z o (record { before = x; loose = Some l }) (parted (shape k) t place) (parted_cost (shape k) t place)
        splits_inside =
            let cost : 0 + rebuilt_cost ls R + (up_to_cost (tree b c.left) d + rebuilt_cost rs (mirror V)) ≡ parted_cost (shape k) t place =
            omega (arith, cost_is, ap (λ l. up_to_cost l d) left_is, ap (λ l. rebuilt_cost rs (mirror (up_to (shape k) l e d))) left_is) in
            let all : Moves k a p [] z o (x ∷ r ∷ []) (0 + rebuilt_cost ls R + (up_to_cost (tree b c.left) d + rebuilt_cost rs (mirror V))) =
            moves_then k a p [] b q (r ∷ []) (0 + rebuilt_cost ls R) one.each [] (r ∷ []) (λ i. omega arith) z o (x ∷ []) (up_to_cost (tree b c.left) d + rebuilt_cost rs (mirror V)) two.each (x ∷ r ∷ []) (λ i. omega arith) in
            record {
              each = subst (Moves k a p [] z o (x ∷ r ∷ [])) cost all;
              before_is = before_tree ∙ ap (λ s. s.before) (sym (parted_inside (shape k) t place inside));
              rest_is = loose_is z behind_stays;
              tied = tied;
            }
