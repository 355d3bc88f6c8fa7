-- Moves one after the other. Each touches some of the owned roots; the others stay.
use Rattle.std.proofs.Common.{◌≡◌, ℕ, ◌+◌, ◌≤◌, Bool, List, ◌++◌, sym, ap, arith}
use Rattle.kinds.specs.Kinds.{Meaning}
use Rattle.cells.specs.declared.cell.Cell.{Cell}
use Rattle.cells.specs.declared.pool.Pool.{Pool}
use Rattle.cells.specs.Cells.{facing, seen}
use Rattle.cells.specs.Reach.{occurs, Among, Stays}
use Rattle.cells.specs.References.{Arena}
use Rattle.cells.specs.Moves.{Moves}
use Rattle.cells.proofs.Staying.{occurs_append, stays_refl, stays_trans, tree_stays, takes_refl, takes_trans, takes_more}
use Rattle.cells.proofs.Arenas.{rerooted}

pub seen_stays : {E S : Type 0} (flip : Bool) (a b : List (Cell E S)) (r : ℕ) → Stays a b r → seen flip b r ≡ seen flip a r
seen_stays flip a b r stays = ap (facing flip) (sym (tree_stays a b r stays))

module _ {E A S : Type 0} (k : Meaning E A S) where
  pub moves_none : (a : List (Cell E S)) (p : Pool) (xs : List ℕ) → Moves k a p xs a p xs 0
  moves_none a p xs rs arena = record { arena = arena; stay = λ r among. stays_refl a r; takes = takes_refl a 0; free = omega arith }

  -- more may be taken than was
  pub moves_more : (a : List (Cell E S)) (p : Pool) (xs : List ℕ) (b : List (Cell E S)) (q : Pool) (ys : List ℕ) (m n : ℕ) → m ≤ n
      → Moves k a p xs b q ys m → Moves k a p xs b q ys n
  moves_more a p xs b q ys m n h move rs arena =
      let x = move rs arena in
      record { arena = x.arena; stay = x.stay; takes = takes_more a b m n h x.takes; free = omega (arith, x.free) }

  module _ (a : List (Cell E S)) (p : Pool) (xs : List ℕ) (b : List (Cell E S)) (q : Pool) (ys : List ℕ) (m : ℕ) (before : Moves k a p xs b q ys m)
      (us zs : List ℕ) (split : (i : ℕ) → occurs ys i ≡ occurs us i + occurs zs i) where
    next_arena : (rs : List ℕ) → Arena k a p (xs ++ rs) → Arena k b q (us ++ (zs ++ rs))
    next_arena rs arena = rerooted k b q (ys ++ rs) (before rs arena).arena (us ++ (zs ++ rs))
        (λ i h. let s = split i in omega (arith, occurs_append ys rs i, occurs_append us (zs ++ rs) i, occurs_append zs rs i))

    module _ (c : List (Cell E S)) (r : Pool) (vs : List ℕ) (n : ℕ) (then : Moves k b q us c r vs n) where
      -- the second move touches the roots us, and zs stand by
      pub moves_then : (ws : List ℕ) → ((i : ℕ) → occurs ws i ≡ occurs vs i + occurs zs i) → Moves k a p xs c r ws (m + n)
      moves_then ws join rs arena =
          let x = before rs arena in
          let y = then (zs ++ rs) (next_arena rs arena) in
          record {
            arena = rerooted k c r (vs ++ (zs ++ rs)) y.arena (ws ++ rs)
                (λ i h. let s = join i in omega (arith, occurs_append ws rs i, occurs_append vs (zs ++ rs) i, occurs_append zs rs i));
            stay = λ z among. stays_trans a b c z (x.stay z among) (y.stay z (omega (arith, occurs_append zs rs z)));
            takes = takes_trans a b c m n x.takes y.takes;
            free = omega (arith, x.free, y.free);
          }

      -- what the roots zs reach stays
      pub stays_then : (rest : List ℕ) → Arena k a p (xs ++ rest) → (z : ℕ) → Among zs z → Stays b c z
      stays_then rest arena z among = (then (zs ++ rest) (next_arena rest arena)).stay z (omega (arith, occurs_append zs rest z))
