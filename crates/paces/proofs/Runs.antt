-- A whole run: everything that it took is free again.
use Rattle.std.proofs.Common.{◌≡◌, ℕ, ◌^◌, ◌≤◌, List, [], ◌∷◌, length, ap, arith}
use Rattle.kinds.specs.Kinds.{Meaning}
use Rattle.balance.specs.Levels.{most}
use Rattle.cells.specs.declared.cell.Cell.{Cell}
use Rattle.cells.specs.declared.pool.Pool.{Pool}
use Rattle.cells.specs.Cells.{cell_count}
use Rattle.cells.specs.References.{Arena}
use Rattle.cells.specs.Moves.{Releases}
use Rattle.cells.proofs.Names.{hit_same}
use Rattle.splits.specs.Owning.{Owns}
use Rattle.edits.proofs.Roots.{list_stays, top_count}
use Rattle.tracks.specs.declared.piece.Piece.{Piece}
use Rattle.tracks.specs.declared.piece.Laid.{Laid}
use Rattle.tracks.specs.Laying.{LaysAll}
use Rattle.paces.specs.Rests.{Kept, Rests}
use Rattle.paces.proofs.Frees.{same_free}

module _ {E A S : Type 0} {k : Meaning E A S} {a : List (Cell E S)} {p : Pool} (start : Arena k a p []) where
  pub none_owned : Owns k a p [] [] (2 ^ 14)
  none_owned = record { rest = []; arena = start; kept = λ i among. absurd (omega arith); few = omega arith }

  module _ {pieces : List Piece} {b : List (Cell E S)} {q : Pool} {laid : Laid} (lays : LaysAll k a p pieces b q laid) where
    pub run_arena : Arena k b q (laid.root ∷ [])
    run_arena = (lays.each [] start).arena

    pub run_owns : Owns k b q [] (laid.root ∷ []) (2 ^ 14)
    run_owns = record { rest = laid.root ∷ []; arena = run_arena; kept = λ i among. among; few = omega arith }

    module _ {c : List (Cell E S)} {o : Pool} (rests : Rests k b q c o) where
      kept : Kept k b q (laid.root ∷ []) c o
      kept = rests (laid.root ∷ []) run_arena

      pub end_arena : Arena k c o (laid.root ∷ [])
      end_arena = kept.arena

      pub end_light : cell_count c laid.root ≤ most
      end_light =
          let own = hit_same laid.root in
          omega (arith, top_count end_arena, ap length (list_stays b c laid.root (kept.stay laid.root (omega arith))), lays.few)

      pub all_back : (d : List (Cell E S)) (w : Pool) → ((rs : List ℕ) → Arena k c o (laid.root ∷ rs) → Releases k c o rs d w) → length d ≡ length a → w.free ≡ p.free
      all_back d w drop long = same_free k a p d w [] start (drop [] end_arena).moved.arena (λ r among. absurd (omega arith)) long
