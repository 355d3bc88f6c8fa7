-- What a kind's laws give of the summaries of lists of atoms.
use Rattle.std.proofs.Common.{◌≡◌, ℕ, ◌+◌, ◌*◌, ◌≤◌, List, [], ◌∷◌, ◌++◌, length, sym, refl, ap, ◌∙◌, arith, length-drop, length-take}
use Rattle.std.specs.List.{ContainsAt, flat_map, AllByRecursion}
use Rattle.std.proofs.ByRecursion.{All-append, All-weaker, all_has_itself}
use Rattle.faults.specs.Limits.{limit}
use Rattle.kinds.specs.Kinds.{Meaning, Laws, Lawful, of_part, Within, IsAtom, Sums, Joinable, Tallies, total}

module _ {E A S : Type 0} (k : Meaning E A S) where
  -- what an element means are atoms
  pub atoms_atomic : (e : E) → Lawful k e → AllByRecursion (IsAtom k) (k.atoms e)
  atoms_atomic e l =
      All-weaker (ContainsAt (k.atoms e)) (IsAtom k) (λ a h. record { element = e; lawful = l; occurs = h }) (k.atoms e) (all_has_itself (k.atoms e))

  pub joined_atomic : (es : List E) → AllByRecursion (Lawful k) es → AllByRecursion (IsAtom k) (flat_map k.atoms es)
  joined_atomic [] l = tt
  joined_atomic (e ∷ es) l = All-append (IsAtom k) (k.atoms e) (flat_map k.atoms es) (atoms_atomic e l.0) (joined_atomic es l.1)

  -- the summaries of two lists of atoms can be joined
  pub joinable : (xs ys : List A) → AllByRecursion (IsAtom k) xs → AllByRecursion (IsAtom k) ys → length xs + length ys ≤ limit → Joinable k (total k xs) (total k ys)
  joinable xs ys p q h =
      record { left = xs; right = ys; sums_left = record { atomic = p; summed = refl }; sums_right = record { atomic = q; summed = refl }; few = h }

  module _ (laws : Laws k) where
    -- the part (d, m) of an element is an element of m atoms
    pub part_lawful : (e : E) (d m : ℕ) → Lawful k e → Within k e d m → Lawful k (k.part e d m)
    part_lawful e d m l w = of_part e d m (k.part e d m) l w refl

    pub part_extent : (e : E) (d m : ℕ) → Lawful k e → Within k e d m → length (k.atoms (k.part e d m)) ≡ m
    part_extent e d m l w = ap length (laws.part_atoms e d m l w) ∙ simp (length-take, length-drop) (omega (arith, w.inside))

    -- the summary of two lists of atoms, one after the other, is theirs joined
    pub total_append : (xs ys : List A) → AllByRecursion (IsAtom k) xs → AllByRecursion (IsAtom k) ys → length xs + length ys ≤ limit → total k (xs ++ ys) ≡ k.plus (total k xs) (total k ys)
    total_append [] ys p q h = sym (laws.none_left ys q (omega arith))
    total_append (x ∷ xs) ys p q h =
        let one : total k (x ∷ []) ≡ k.single x = laws.one_none x p.0 in
        ap (k.plus (k.single x)) (total_append xs ys p.1 q (omega arith))
        ∙ ap (λ s. k.plus s (k.plus (total k xs) (total k ys))) (sym one)
        ∙ sym (laws.assoc (x ∷ []) xs ys (p.0, tt) p.1 q (omega arith))
        ∙ ap (λ s. k.plus (k.plus s (total k xs)) (total k ys)) one

    -- a tally of n atoms is at most n times that of one
    pub tally_bound : (tally : S → ℕ) → Tallies k tally → (xs : List A) → AllByRecursion (IsAtom k) xs → length xs ≤ limit → tally (total k xs) ≤ length xs * 16777215
    tally_bound tally t [] p h = omega (arith, t.none)
    tally_bound tally t (x ∷ xs) p h =
        let one : total k (x ∷ []) ≡ k.single x = laws.one_none x p.0 in
        let alone : Sums k (x ∷ []) (k.single x) = record { atomic = (p.0, tt); summed = sym one } in
        let both : Joinable k (k.single x) (total k xs) =
        record { left = x ∷ []; right = xs; sums_left = alone; sums_right = record { atomic = p.1; summed = refl }; few = omega arith } in
        omega (arith, t.adds (k.single x) (total k xs) both, t.atom x p.0, tally_bound tally t xs p.1 (omega arith))
