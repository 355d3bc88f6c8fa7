-- The summary of a tree, joined from those of its parts.
use Rattle.std.proofs.Common.{◌≡◌, ℕ, ◌+◌, ◌≤◌, List, ◌∷◌, ◌++◌, length, Some, None, Option, sym, refl, ap, ◌∙◌, subst, arith, length-append}
use Rattle.std.specs.List.{slice_get, AllByRecursion}
use Rattle.std.proofs.ByRecursion.{All-append}
use Rattle.std.proofs.lemmas.Grind.{flat_map-append}
use Rattle.faults.specs.Limits.{limit}
use Rattle.kinds.specs.Kinds.{Meaning, Laws, Lawful, IsAtom, Joinable, total}
use Rattle.kinds.proofs.Totals.{atoms_atomic, joinable, total_append}
use Rattle.balance.specs.Trees.{Tree, node, elements}
use Rattle.balance.specs.Ways.{span}
use Rattle.cells.specs.declared.cell.Cell.{Cell}
use Rattle.cells.specs.Cells.{shape, tree, linked, Live, meant, summed, sum_at, Sound}
use Rattle.cells.proofs.Trees.{none_tree, meant_span}

-- what a live link tells is the summary of its tree
pub record Told {E A S : Type 0} (k : Meaning E A S) (cells : List (Cell E S)) (i : ℕ) : Type 0 where
  pub sums : sum_at k cells i ≡ total k (meant k (tree cells i))
  pub atomic : AllByRecursion (IsAtom k) (meant k (tree cells i))

module _ {E A S : Type 0} (k : Meaning E A S) (cells : List (Cell E S)) (sound : Sound k cells) where
  told_at : (i : ℕ) (o : Option (Cell E S)) → slice_get cells i ≡ o → linked o → Told k cells i
  told_at i None e live =
      let t = none_tree cells i e in
      record { sums = ap (summed k) e ∙ sym (ap (λ x. total k (meant k x)) t); atomic = subst (λ x. AllByRecursion (IsAtom k) (meant k x)) (sym t) tt }
  told_at i (Some c) e live = let good = sound i c e live in record { sums = ap (summed k) e ∙ good.sums; atomic = good.atomic }

  pub told : (i : ℕ) → Live cells i → Told k cells i
  told i live = told_at i (slice_get cells i) refl live

-- an element e between the trees l and r
module _ {E A S : Type 0} (k : Meaning E A S) (laws : Laws k) (l : Tree E) (e : E) (r : Tree E)
    (al : AllByRecursion (IsAtom k) (meant k l)) (lawful : Lawful k e) (ar : AllByRecursion (IsAtom k) (meant k r)) (short : span (shape k) (node l e r) ≤ limit) where
  few : length (meant k l) + length (k.atoms e) + length (meant k r) ≤ limit
  few = omega (arith, meant_span k l, meant_span k r)

  ae : AllByRecursion (IsAtom k) (k.atoms e)
  ae = atoms_atomic k e lawful

  behind : AllByRecursion (IsAtom k) (k.atoms e ++ meant k r)
  behind = All-append (IsAtom k) (k.atoms e) (meant k r) ae ar

  behind_few : length (meant k l) + length (k.atoms e ++ meant k r) ≤ limit
  behind_few = omega (arith, few, length-append (k.atoms e) (meant k r))

  behind_total : total k (k.atoms e ++ meant k r) ≡ k.plus (total k (k.atoms e)) (total k (meant k r))
  behind_total = total_append k laws (k.atoms e) (meant k r) ae ar (omega (arith, few))

  meant_node : meant k (node l e r) ≡ meant k l ++ (k.atoms e ++ meant k r)
  meant_node = flat_map-append k.atoms (elements l) (e ∷ elements r)

  pub joins_behind : Joinable k (total k (k.atoms e)) (total k (meant k r))
  joins_behind = joinable k (k.atoms e) (meant k r) ae ar (omega (arith, few))

  pub joins_all : Joinable k (total k (meant k l)) (k.plus (total k (k.atoms e)) (total k (meant k r)))
  joins_all = subst (Joinable k (total k (meant k l))) behind_total (joinable k (meant k l) (k.atoms e ++ meant k r) al behind behind_few)

  pub node_total : total k (meant k (node l e r)) ≡ k.plus (total k (meant k l)) (k.plus (total k (k.atoms e)) (total k (meant k r)))
  node_total = ap (total k) meant_node ∙ total_append k laws (meant k l) (k.atoms e ++ meant k r) al behind behind_few ∙ ap (k.plus (total k (meant k l))) behind_total

  pub node_atomic : AllByRecursion (IsAtom k) (meant k (node l e r))
  node_atomic = subst (AllByRecursion (IsAtom k)) (sym meant_node) (All-append (IsAtom k) (meant k l) (k.atoms e ++ meant k r) al behind)

  pub node_few : length (meant k (node l e r)) ≤ limit
  node_few = omega (arith, meant_span k (node l e r))
