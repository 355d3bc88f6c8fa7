-- The loop up the passed cells.
use Rattle.std.proofs.Common.{◌≡◌, ℕ, ◌+◌, ◌≤◌, Bool, List, [], ◌∷◌, ◌++◌, length, sym, refl, ap, ◌∙◌, subst, arith}
use Rattle.faults.specs.Limits.{limit}
use Rattle.kinds.specs.Kinds.{Meaning}
use Rattle.balance.specs.Trees.{Tree, count}
use Rattle.balance.specs.Links.{link, rebuilt, passed_count}
use Rattle.balance.specs.Ways.{span, passed_span}
use Rattle.balance.specs.Levels.{most}
use Rattle.balance.specs.Costs.{link_cost, rebuilt_cost}
use Rattle.balance.proofs.Links.{link_count}
use Rattle.balance.proofs.Ways.{link_span}
use Rattle.balance.proofs.Loops.{rebuilt_last, rebuilt_cost_last}
use Rattle.cells.specs.declared.cell.Cell.{Cell}
use Rattle.cells.specs.declared.pool.Pool.{Pool}
use Rattle.cells.specs.Cells.{shape, seen}
use Rattle.cells.specs.Reach.{Among, AllStay, Reached}
use Rattle.cells.specs.References.{Arena}
use Rattle.cells.specs.Moves.{Moves}
use Rattle.cells.proofs.Staying.{occurs_append, stays_refl, stays_trans}
use Rattle.cells.proofs.Names.{hit_same}
use Rattle.cells.proofs.Moving.{moves_none, moves_then}
use Rattle.walks.specs.Walks.{Table}
use Rattle.splits.specs.Splitting.{Grows}
use Rattle.splits.specs.Regrowing.{Joinable, Growable, Grown, Regrown}
use Rattle.splits.proofs.Tables.{Last, table_one, table_split, reached_stays, stays_reached, live_reached, table_stays}

passed_count_last : {E : Type 0} (ss : List (E × Tree E)) (s : E × Tree E) → passed_count (ss ++ (s ∷ [])) ≡ passed_count ss + count s.1 + 1
passed_count_last [] s = omega arith
passed_count_last (t ∷ ss) s = omega (arith, passed_count_last ss s)

passed_span_last : {E A S : Type 0} (k : Meaning E A S) (ss : List (E × Tree E)) (s : E × Tree E)
    → passed_span (shape k) (ss ++ (s ∷ [])) ≡ passed_span (shape k) ss + span (shape k) s.1 + (shape k).extent s.0
passed_span_last k [] s = omega arith
passed_span_last k (t ∷ ss) s = omega (arith, passed_span_last k ss s)

module _ {E A S : Type 0} {k : Meaning E A S} {flip : Bool} {a : List (Cell E S)} {p : Pool} {low : ℕ} {is : List ℕ} (g : Growable k flip a p low is) where
  -- from the root low on, in the cells a, to the root x, in the cells b, with the cells left to go
  pub record Regrowing (b : List (Cell E S)) (q : Pool) (x : ℕ) (left : List ℕ) : Type 0 where
    pub spent : ℕ
    pub each : Moves k a p (low ∷ []) b q (x ∷ []) spent
    pub stay : AllStay a b g.rest
    pub steps : List (E × Tree E)
    pub passed : Table flip b left steps
    pub reached : (i : ℕ) → Among left i → Reached b g.rest i
    pub same : rebuilt link steps (seen flip b x) ≡ rebuilt link g.climbs.steps (seen flip a low)
    pub cost : spent + rebuilt_cost steps (seen flip b x) ≡ rebuilt_cost g.climbs.steps (seen flip a low)
    pub few : count (seen flip b x) + passed_count steps ≤ most
    pub short : span (shape k) (seen flip b x) + passed_span (shape k) steps ≤ limit

  pub regrowing_start : (left : List ℕ) → left ≡ is → Regrowing a p low left
  regrowing_start left all = record {
    spent = 0;
    each = moves_none k a p (low ∷ []);
    stay = λ r among. stays_refl a r;
    steps = g.climbs.steps;
    passed = subst (λ l. Table flip a l g.climbs.steps) (sym all) g.climbs.passed;
    reached = λ i among. g.climbs.reached i (subst (λ l. Among l i) all among);
    same = refl;
    cost = omega arith;
    few = g.climbs.few;
    short = g.climbs.short;
  }

  module _ {b : List (Cell E S)} {q : Pool} {x : ℕ} {all : List ℕ} (inv : Regrowing b q x all) (left : List ℕ) (i : ℕ) (all_is : all ≡ left ++ (i ∷ [])) where
    last : Last flip b left i inv.steps
    last = table_split flip b left i inv.steps (subst (λ l. Table flip b l inv.steps) all_is inv.passed)

    reached_in : (z : ℕ) → Among (left ++ (i ∷ [])) z → Reached b g.rest z
    reached_in z among = inv.reached z (subst (λ l. Among l z) (sym all_is) among)

    held : Arena k b q (x ∷ g.rest)
    held = (inv.each g.rest g.arena).arena

    few_last : count (seen flip b x) + (passed_count last.before + count last.last.1 + 1) ≤ most
    few_last = omega (arith, inv.few, ap passed_count last.are, passed_count_last last.before last.last)

    short_last : span (shape k) (seen flip b x) + (passed_span (shape k) last.before + span (shape k) last.last.1 + (shape k).extent last.last.0) ≤ limit
    short_last = omega (arith, inv.short, ap (passed_span (shape k)) last.are, passed_span_last k last.before last.last)

    abbrev grown_tree : Tree E
    grown_tree = link (seen flip b x) last.last.0 last.last.1

    same_last : rebuilt link inv.steps (seen flip b x) ≡ rebuilt link last.before grown_tree
    same_last = ap (λ ss. rebuilt link ss (seen flip b x)) last.are ∙ rebuilt_last link last.before last.last.0 last.last.1 (seen flip b x)

    cost_last : rebuilt_cost inv.steps (seen flip b x) ≡ link_cost (seen flip b x) last.last.1 + rebuilt_cost last.before grown_tree
    cost_last = ap (λ ss. rebuilt_cost ss (seen flip b x)) last.are ∙ rebuilt_cost_last last.before last.last.0 last.last.1 (seen flip b x)

    pub joinable : Joinable k flip b q x i
    joinable = record {
      rest = g.rest;
      arena = held;
      reached = reached_in i (let h = hit_same i in omega (arith, occurs_append left (i ∷ []) i));
      room = g.room;
      step = last.last;
      passed = last.passed_last;
      linkable = record { few = omega (arith, few_last); short = omega (arith, short_last) };
      some = omega (arith, g.climbs.some, inv.cost, cost_last, (inv.each g.rest g.arena).free);
    }

    module _ {c : List (Cell E S)} {o : Pool} {r : ℕ} (grown : Grown k flip b q x i c o r) where
      one : Grows k flip b q (x ∷ []) c o r grown_tree (link_cost (seen flip b x) last.last.1)
      one = grown last.last last.passed_last

      stays_on : AllStay b c g.rest
      stays_on = (one.each g.rest held).stay

      held_on : Arena k c o (r ∷ g.rest)
      held_on = (one.each g.rest held).arena

      reached_on : (z : ℕ) → Among left z → Reached b g.rest z
      reached_on z among = reached_in z (omega (arith, occurs_append left (i ∷ []) z))

      pub regrowing_more : Regrowing c o r left
      regrowing_more = record {
        spent = inv.spent + link_cost (seen flip b x) last.last.1;
        each = moves_then k a p (low ∷ []) b q (x ∷ []) inv.spent inv.each (x ∷ []) [] (λ z. omega arith) c o (r ∷ []) (link_cost (seen flip b x) last.last.1) one.each (r ∷ []) (λ z. omega arith);
        stay = λ z among. stays_trans a b c z (inv.stay z among) (stays_on z among);
        steps = last.before;
        passed = table_stays flip b c left last.before last.passed_before
            (λ z among. stays_reached b c g.rest stays_on z (reached_on z among))
            (λ z among. live_reached k c o (r ∷ g.rest) g.rest held_on (λ y h. omega arith) z (reached_stays b c g.rest stays_on z (reached_on z among)));
        reached = λ z among. reached_stays b c g.rest stays_on z (reached_on z among);
        same = ap (rebuilt link last.before) one.tree_is ∙ sym same_last ∙ inv.same;
        cost = omega (arith, inv.cost, cost_last, ap (rebuilt_cost last.before) one.tree_is);
        few = omega (arith, few_last, ap count one.tree_is, link_count (seen flip b x) last.last.0 last.last.1);
        short = omega (arith, short_last, ap (span (shape k)) one.tree_is, link_span (shape k) (seen flip b x) last.last.0 last.last.1);
      }

  -- no cell is left
  none_left : (b : List (Cell E S)) (left : List ℕ) (ss : List (E × Tree E)) → length left ≡ 0 → Table flip b left ss → ss ≡ []
  none_left b [] [] none t = refl
  none_left b [] (s ∷ ss) none t = absurd t
  none_left b (i ∷ left) ss none t = absurd (omega arith)

  pub regrowing_end : {b : List (Cell E S)} {q : Pool} {x : ℕ} {left : List ℕ} → Regrowing b q x left → length left ≡ 0 → Regrown k flip a p (low ∷ []) (seen flip a low) 0 is b q x
  unfolding rebuilt rebuilt_cost
  regrowing_end {b} {q} {x} {left} inv none ss passed =
      let steps_none = none_left b left inv.steps none inv.passed in
      let all : ss ≡ g.climbs.steps = table_one flip a is ss g.climbs.steps passed g.climbs.passed in
      let cost : inv.spent ≡ 0 + rebuilt_cost ss (seen flip a low) =
      omega (arith, inv.cost, ap (λ ss. rebuilt_cost ss (seen flip b x)) steps_none, ap (λ ss. rebuilt_cost ss (seen flip a low)) all) in
      record {
        each = subst (Moves k a p (low ∷ []) b q (x ∷ [])) cost inv.each;
        tree_is = ap (λ ss. rebuilt link ss (seen flip b x)) (sym steps_none) ∙ inv.same ∙ ap (λ ss. rebuilt link ss (seen flip a low)) (sym all);
      }
