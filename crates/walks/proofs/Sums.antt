-- Lists of atoms that a kind can sum up, and their parts.
use Rattle.std.proofs.Common.{◌≡◌, ℕ, ◌≤◌, List, [], ◌++◌, length, take, drop, Some, None, Option, sym, refl, ap, ◌∙◌, subst, arith, length-append, length-take, length-drop, take_all}
use Rattle.std.proofs.ByRecursion.{All-take, All-drop}
use lib.Seq.{take-append_seam, drop-append_seam}
use Rattle.std.specs.List.{slice_get, AllByRecursion}
use Rattle.faults.specs.Limits.{limit}
use Rattle.kinds.specs.Kinds.{Meaning, Laws, Lawful, Within, IsAtom, Joinable, total}
use Rattle.kinds.proofs.Totals.{atoms_atomic, joinable, part_lawful, total_append}
use Rattle.cells.specs.declared.cell.Cell.{Cell}
use Rattle.balance.specs.Ways.{span}
use Rattle.cells.specs.Cells.{shape, tree, meant, summed, sum_at, linked, Live, Sound}
use Rattle.cells.proofs.Trees.{none_tree, meant_span}

all_left : {X : Type 0} (P : X → Type 0) (xs ys : List X) → AllByRecursion P (xs ++ ys) → AllByRecursion P xs
all_left P xs ys a = subst (AllByRecursion P) (take-append_seam xs ys) (All-take P (length xs) (xs ++ ys) a)

all_right : {X : Type 0} (P : X → Type 0) (xs ys : List X) → AllByRecursion P (xs ++ ys) → AllByRecursion P ys
all_right P xs ys a = subst (AllByRecursion P) (drop-append_seam xs ys) (All-drop P (length xs) (xs ++ ys) a)

-- atoms, at most the limit
pub record Few {E A S : Type 0} (k : Meaning E A S) (xs : List A) : Type 0 where
  pub atomic : AllByRecursion (IsAtom k) xs
  pub few : length xs ≤ limit

module _ {E A S : Type 0} (k : Meaning E A S) where
  pub few_none : Few k []
  few_none = record { atomic = tt; few = omega arith }

  pub few_left : (xs ys : List A) → Few k (xs ++ ys) → Few k xs
  few_left xs ys f = record { atomic = all_left (IsAtom k) xs ys f.atomic; few = omega (arith, f.few, length-append xs ys) }

  pub few_right : (xs ys : List A) → Few k (xs ++ ys) → Few k ys
  few_right xs ys f = record { atomic = all_right (IsAtom k) xs ys f.atomic; few = omega (arith, f.few, length-append xs ys) }

  pub few_take : (n : ℕ) (xs : List A) → Few k xs → Few k (take n xs)
  few_take n xs f = record { atomic = All-take (IsAtom k) n xs f.atomic; few = omega (arith, f.few, length-take n xs) }

  pub few_drop : (n : ℕ) (xs : List A) → Few k xs → Few k (drop n xs)
  few_drop n xs f = record { atomic = All-drop (IsAtom k) n xs f.atomic; few = omega (arith, f.few, length-drop n xs) }

  -- the atoms under a live link
  pub few_tree : (cells : List (Cell E S)) → Sound k cells → (i : ℕ) → Live cells i → Few k (meant k (tree cells i))
  few_tree cells sound i live = step (slice_get cells i) refl live
    where
      step : (o : Option (Cell E S)) → slice_get cells i ≡ o → linked o → Few k (meant k (tree cells i))
      step None is l = subst (λ t. Few k (meant k t)) (sym (none_tree cells i is)) few_none
      step (Some c) is l = let good = sound i c is l in record { atomic = good.atomic; few = good.few }

  module _ (laws : Laws k) where
    pub few_element : (e : E) → Lawful k e → Few k (k.atoms e)
    few_element e lawful = record { atomic = atoms_atomic k e lawful; few = laws.few e lawful }

    -- the summaries of two parts of such a list can be joined, and joined they are its summary
    pub parts_joinable : (xs ys : List A) → Few k (xs ++ ys) → Joinable k (total k xs) (total k ys)
    parts_joinable xs ys f =
        joinable k xs ys (all_left (IsAtom k) xs ys f.atomic) (all_right (IsAtom k) xs ys f.atomic) (omega (arith, f.few, length-append xs ys))

    pub parts_total : (xs ys : List A) → Few k (xs ++ ys) → total k (xs ++ ys) ≡ k.plus (total k xs) (total k ys)
    parts_total xs ys f =
        total_append k laws xs ys (all_left (IsAtom k) xs ys f.atomic) (all_right (IsAtom k) xs ys f.atomic) (omega (arith, f.few, length-append xs ys))

    -- the summary that a live link tells, and its width
    pub sum_is : (cells : List (Cell E S)) → Sound k cells → (i : ℕ) → Live cells i → sum_at k cells i ≡ total k (meant k (tree cells i))
    sum_is cells sound i live = step (slice_get cells i) refl live
      where
        step : (o : Option (Cell E S)) → slice_get cells i ≡ o → linked o → summed k o ≡ total k (meant k (tree cells i))
        step None is l = sym (ap (λ t. total k (meant k t)) (none_tree cells i is))
        step (Some c) is l = (sound i c is l).sums

    pub width_is : (cells : List (Cell E S)) → Sound k cells → (i : ℕ) → Live cells i → k.width (sum_at k cells i) ≡ span (shape k) (tree cells i)
    width_is cells sound i live =
        let f = few_tree cells sound i live in
        ap k.width (sum_is cells sound i live) ∙ laws.total_width (meant k (tree cells i)) f.atomic f.few ∙ meant_span k (tree cells i)

    -- the summary that is asked of a part
    pub part_sum : (e part : E) (d m : ℕ) (s : S) → Lawful k e → Within k e d m → part ≡ k.part e d m → (Lawful k part → s ≡ total k (k.atoms part))
        → s ≡ total k (take m (drop d (k.atoms e)))
    part_sum e part d m s lawful within is asked =
        asked (subst (Lawful k) (sym is) (part_lawful k laws e d m lawful within)) ∙ ap (λ x. total k (k.atoms x)) is ∙ ap (total k) (laws.part_atoms e d m lawful within)

    -- the summary that is asked of two parts, joined
    pub join_sum : (xs ys : List A) (s t r : S) → Few k (xs ++ ys) → s ≡ total k xs → t ≡ total k ys → (Joinable k s t → r ≡ k.plus s t) → r ≡ total k (xs ++ ys)
    join_sum xs ys s t r f s_is t_is asked =
        let both : Joinable k s t = record {
          left = xs;
          right = ys;
          sums_left = record { atomic = all_left (IsAtom k) xs ys f.atomic; summed = s_is };
          sums_right = record { atomic = all_right (IsAtom k) xs ys f.atomic; summed = t_is };
          few = omega (arith, f.few, length-append xs ys);
        } in
        asked both ∙ ap (λ x. k.plus x t) s_is ∙ ap (k.plus (total k xs)) t_is ∙ sym (parts_total xs ys f)

    -- the part that is the whole element
    pub whole_sum : (e : E) (d m : ℕ) (s : S) → s ≡ total k (k.atoms e) → Within k e d m → m ≡ length (k.atoms e) → s ≡ total k (take m (drop d (k.atoms e)))
    whole_sum e d m s s_is within all =
        let first : d ≡ 0 = omega (arith, within.inside) in
        s_is ∙ ap (total k) (sym (ap (λ (n : ℕ). take m (drop n (k.atoms e))) first ∙ take_all m (k.atoms e) (omega arith)))
