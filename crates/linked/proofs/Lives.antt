-- From the start, where nothing is owned, to the end.
use Rattle.std.proofs.Common.{◌≡◌, ℕ, ◌*◌, ◌^◌, ◌≤◌, false, List, [], ◌∷◌, length, sym, refl, ap, ◌∙◌, subst, arith}
use Rattle.std.proofs.lemmas.Option.{slice_get_past}
use Rattle.faults.specs.Limits.{limit}
use Rattle.kinds.specs.Kinds.{Meaning}
use Rattle.balance.specs.Trees.{leaf, node, count, Balanced}
use Rattle.balance.specs.Links.{link}
use Rattle.balance.specs.Costs.{link_cost}
use Rattle.balance.specs.Levels.{most}
use Rattle.balance.proofs.Links.{link_count}
use Rattle.balance.proofs.Costs.{link_cost_lem}
use Rattle.cells.specs.declared.cell.Cell.{Cell}
use Rattle.cells.specs.declared.item.Item.{Item}
use Rattle.cells.specs.declared.pool.Pool.{Pool}
use Rattle.cells.specs.Cells.{cell_count, tree, Whole}
use Rattle.cells.specs.Reach.{Reached, HowMany, none, one, other}
use Rattle.cells.specs.References.{Arena, Holds, NoneLost}
use Rattle.cells.specs.Moves.{Fits, Makes, Releases}
use Rattle.cells.proofs.Names.{hit_same, hit_other}
use Rattle.cells.proofs.Trees.{none_tree, known}
use Rattle.cells.proofs.Arenas.{rooted, rerooted}
use Rattle.links.specs.Sitting.{Linkable}

-- where no root is owned, no cell is reached
none_reached : {E S : Type 0} (a : List (Cell E S)) {n m : ℕ} → HowMany (Reached a []) n m → m ≡ 0
none_reached a none = refl
none_reached a (one r h) = absurd (omega (arith, r.among))
none_reached a (other r h) = none_reached a h

module _ {E A S : Type 0} (k : Meaning E A S) where
  pub all_free : (a : List (Cell E S)) (p : Pool) → NoneLost k a p [] → p.free ≡ length a
  all_free a p lost = omega (arith, lost.all, none_reached a lost.counted)

  -- a number that is no cell can be owned for nothing
  owning_none : (a : List (Cell E S)) (p : Pool) (rs : List ℕ) (i : ℕ) → 65535 ≤ i → Arena k a p rs → Arena k a p (i ∷ rs)
  owning_none a p rs i far arena = rerooted k a p rs arena (i ∷ rs) (λ j h. let o = hit_other i j (λ q. omega (arith, arena.long)) in omega arith)

  no_tree : (a : List (Cell E S)) (p : Pool) (rs : List ℕ) (i : ℕ) → 65535 ≤ i → Arena k a p rs → tree a i ≡ leaf
  no_tree a p rs i far arena = none_tree a i (slice_get_past a i (omega (arith, arena.long)))

-- what the first cell asks for, over none
pub record First {E A S : Type 0} (k : Meaning E A S) (item : Item E S) (a : List (Cell E S)) (p : Pool) (i : ℕ) : Type 0 where
  pub owned : Arena k a p (i ∷ i ∷ [])
  pub fits : Fits k (tree a i) item (tree a i)

-- what the link of it with none asks for
pub record Second {E A S : Type 0} (k : Meaning E A S) (e : E) (a : List (Cell E S)) (p : Pool) (r i : ℕ) : Type 0 where
  pub holds : Holds k a p (r ∷ i ∷ []) (2 ^ 24)
  pub linkable : Linkable k (tree a r) e (tree a i)
  pub some : link_cost (tree a r) (tree a i) ≤ p.free

-- what giving the two back asks for, and that then all is free
pub record Last {E A S : Type 0} (k : Meaning E A S) (a : List (Cell E S)) (p : Pool) (r : ℕ) : Type 0 where
  pub owned : Arena k a p (r ∷ [])
  pub few : cell_count a r ≤ most
  pub all : (b : List (Cell E S)) (q : Pool) → ((rs : List ℕ) → Arena k a p (r ∷ rs) → Releases k a p rs b q) → q.free ≡ length b

module _ {E A S : Type 0} {k : Meaning E A S} {item : Item E S} (whole : Whole k item) {element : E} (same : item.element ≡ element) (room : 2 * length (k.atoms element) ≤ limit)
    (i : ℕ) (far : 65535 ≤ i) {a : List (Cell E S)} {p : Pool} (start : Arena k a p []) (some : 100 ≤ p.free) where
  abbrev e : E
  e = item.element

  short : 2 * length (k.atoms e) ≤ limit
  short = subst (λ x. 2 * length (k.atoms x) ≤ limit) (sym same) room

  start_owned : Arena k a p (i ∷ i ∷ [])
  start_owned = owning_none k a p (i ∷ []) i far (owning_none k a p [] i far start)

  empty : tree a i ≡ leaf
  empty = no_tree k a p [] i far start

  first_fits : Fits k (tree a i) item (tree a i)
  first_fits = subst (λ t. Fits k t item t) (sym empty) (record {
    lawful = whole.lawful;
    owns = whole.owns;
    left_light = omega arith;
    right_light = omega arith;
    few = omega arith;
    short = omega (arith, short);
  })

  pub first : First k item a p i
  first = record { owned = start_owned; fits = first_fits }

  module _ {b : List (Cell E S)} {q : Pool} {r : ℕ} (make : Makes k false a p (i ∷ i ∷ []) b q r (node (tree a i) e (tree a i)) 1) where
    arena_b : Arena k b q (r ∷ [])
    arena_b = (make [] start_owned).moved.arena

    both_b : Arena k b q (r ∷ i ∷ [])
    both_b = rerooted k b q (i ∷ r ∷ []) (owning_none k b q (r ∷ []) i far arena_b) (r ∷ i ∷ []) (λ j h. omega arith)

    holds_b : Holds k b q (r ∷ i ∷ []) (2 ^ 24)
    holds_b = record { rest = []; arena = both_b; few = omega arith }

    tree_b : tree b r ≡ node leaf e leaf
    tree_b = (make [] start_owned).tree_is ∙ ap (λ t. node t e t) empty

    none_b : tree b i ≡ leaf
    none_b = no_tree k b q (r ∷ []) i far arena_b

    linkable_b : Linkable k (tree b r) e (tree b i)
    linkable_b = subst (λ t. Linkable k t e (tree b i)) (sym tree_b) (subst (λ t. Linkable k (node leaf e leaf) e t) (sym none_b) (record { few = omega arith; short = omega (arith, short) }))

    some_b : link_cost (tree b r) (tree b i) ≤ q.free
    some_b =
        let one_balanced : Balanced (node leaf e leaf) = record { left_light = omega arith; right_light = omega arith; left = tt; right = tt } in
        let c = link_cost_lem (node leaf e leaf) leaf one_balanced tt (omega arith) (omega arith) in
        let x = ap (λ t. link_cost t (tree b i)) tree_b ∙ ap (link_cost (node leaf e leaf)) none_b in
        omega (arith, (make [] start_owned).moved.free)

    pub second : Second k e b q r i
    second = record { holds = holds_b; linkable = linkable_b; some = some_b }

    module _ {c : List (Cell E S)} {o : Pool} {s : ℕ} (linked : Makes k false b q (r ∷ i ∷ []) c o s (link (tree b r) e (tree b i)) (link_cost (tree b r) (tree b i))) where
      arena_c : Arena k c o (s ∷ [])
      arena_c = (linked [] both_b).moved.arena

      few_c : cell_count c s ≤ most
      few_c =
          let n = (known k c arena_c.sound s (rooted k c o (s ∷ []) arena_c s (let h = hit_same s in omega arith))).counts in
          omega (arith, ap count (linked [] both_b).tree_is, link_count (tree b r) e (tree b i), ap count tree_b, ap count none_b)

      pub last : Last k c o s
      last = record { owned = arena_c; few = few_c; all = λ d w release. all_free k d w (release [] arena_c).none_lost }
