-- The atoms of a list divided at a place.
use Rattle.std.proofs.Common.{◌≡◌, ℕ, zero, suc, ◌+◌, ◌-◌, ◌<◌, ◌≤◌, eqb, ltb, List, [], ◌∷◌, ◌++◌, length, take, drop, Some, None, Option, sym, refl, ap, ◌∙◌, subst, append-nil, arith, length-drop, take_all}
use lib.Seq.{take-nil, drop-nil, take-append-le, drop-append-le, take-append-add, drop-append-add}
use Rattle.std.specs.List.{slice_get, flat_map, AllByRecursion}
use Rattle.std.proofs.ByRecursion.{All-append}
use Rattle.kinds.specs.Kinds.{Meaning, Laws, Lawful, Within}
use Rattle.kinds.proofs.Totals.{part_lawful}
use Rattle.balance.specs.Trees.{elements}
use Rattle.balance.specs.Lists.{front, back, between}
use Rattle.balance.proofs.Tests.{tests, by_test}
use Rattle.cells.specs.declared.cell.Cell.{Cell}
use Rattle.cells.specs.Cells.{shape, counted, cell_count, tree, linked, Live, Sound}
use Rattle.cells.proofs.Trees.{none_tree, opened}

module _ {E A S : Type 0} (k : Meaning E A S) (laws : Laws k) where
  abbrev atoms_of : List E → List A
  atoms_of es = flat_map k.atoms es

  within_first : (e : E) (p : ℕ) → 0 < p → p < length (k.atoms e) → Within k e 0 p
  within_first e p some less = record { some = omega arith; inside = omega arith }

  within_last : (e : E) (p : ℕ) → p < length (k.atoms e) → Within k e p (length (k.atoms e) - p)
  within_last e p less = record { some = omega arith; inside = omega arith }

  atoms_front : (es : List E) (p : ℕ) → AllByRecursion (Lawful k) es → atoms_of (front (shape k) p es) ≡ take p (atoms_of es)
  atoms_front [] p l = sym (take-nil p)
  atoms_front (e ∷ es) p l =
      by_test (λ fs. atoms_of fs ≡ take p (k.atoms e ++ atoms_of es)) (ltb p (length (k.atoms e))) _ _
      (λ low. by_test (λ fs. atoms_of fs ≡ take p (k.atoms e ++ atoms_of es)) (eqb p 0) _ _
      (λ none. let p_is : p ≡ 0 = omega tests in ap (λ (n : ℕ). take n (k.atoms e ++ atoms_of es)) (sym p_is))
      (λ some. append-nil _ ∙ laws.part_atoms e 0 p l.0 (within_first e p (omega tests) (omega tests)) ∙ sym (take-append-le p (k.atoms e) (atoms_of es) (omega tests))))
      (λ past.
      let q : ℕ = p - length (k.atoms e) in
      let p_is : length (k.atoms e) + q ≡ p = omega tests in
      ap (λ xs. k.atoms e ++ xs) (atoms_front es q l.1) ∙ sym (take-append-add (k.atoms e) (atoms_of es) q) ∙ ap (λ (n : ℕ). take n (k.atoms e ++ atoms_of es)) p_is)

  -- what lies behind a place
  record Rear (es : List E) (p : ℕ) (fs : List E) : Type 0 where
    pub atoms : atoms_of fs ≡ drop p (atoms_of es)
    pub lawful : AllByRecursion (Lawful k) fs

  rear : (es : List E) (p : ℕ) → AllByRecursion (Lawful k) es → Rear es p (back (shape k) p es)
  rear [] p l = record { atoms = sym (drop-nil p); lawful = tt }
  rear (e ∷ es) p l =
      by_test (Rear (e ∷ es) p) (ltb p (length (k.atoms e))) _ _
      (λ low. by_test (λ f. Rear (e ∷ es) p (f ∷ es)) (eqb p 0) _ _
      (λ none. let p_is : p ≡ 0 = omega tests in record { atoms = ap (λ (n : ℕ). drop n (k.atoms e ++ atoms_of es)) (sym p_is); lawful = l })
      (λ some.
      let within = within_last e p (omega tests) in
      record {
        atoms = ap (λ xs. xs ++ atoms_of es) (laws.part_atoms e p (length (k.atoms e) - p) l.0 within ∙ take_all (length (k.atoms e) - p) (drop p (k.atoms e)) (omega (arith, length-drop p (k.atoms e))))
            ∙ sym (drop-append-le p (k.atoms e) (atoms_of es) (omega tests));
        lawful = (part_lawful k laws e p (length (k.atoms e) - p) l.0 within, l.1);
      }))
      (λ past.
      let q : ℕ = p - length (k.atoms e) in
      let p_is : length (k.atoms e) + q ≡ p = omega tests in
      let below = rear es q l.1 in
      record { atoms = below.atoms ∙ sym (drop-append-add (k.atoms e) (atoms_of es) q) ∙ ap (λ (n : ℕ). drop n (k.atoms e ++ atoms_of es)) p_is; lawful = below.lawful })

  -- the atoms of what lies between two places
  pub atoms_between : (es : List E) (from len : ℕ) → AllByRecursion (Lawful k) es → flat_map k.atoms (between (shape k) es from len) ≡ take len (drop from (flat_map k.atoms es))
  atoms_between es from len l =
      let behind = rear es from l in
      atoms_front (back (shape k) from es) len behind.lawful ∙ ap (take len) behind.atoms

module _ {E A S : Type 0} (k : Meaning E A S) (cells : List (Cell E S)) (sound : Sound k cells) where
  lawful_at : (f i : ℕ) → ((j : ℕ) → cell_count cells j < f → Live cells j → AllByRecursion (Lawful k) (elements (tree cells j)))
      → (o : Option (Cell E S)) → slice_get cells i ≡ o → counted o ≤ f → linked o → AllByRecursion (Lawful k) (elements (tree cells i))
  lawful_at f i ih None e h live = subst (λ t. AllByRecursion (Lawful k) (elements t)) (sym (none_tree cells i e)) tt
  lawful_at f i ih (Some c) e h live =
      let good = sound i c e live in
      let l = ih c.left (omega (arith, good.counts)) good.left_live in
      let r = ih c.right (omega (arith, good.counts)) good.right_live in
      subst (λ t. AllByRecursion (Lawful k) (elements t)) (sym (opened k cells sound i c e live))
      (All-append (Lawful k) (elements (tree cells c.left)) (c.element ∷ elements (tree cells c.right)) l (good.lawful, r))

  lawful_to : (f i : ℕ) → cell_count cells i < f → Live cells i → AllByRecursion (Lawful k) (elements (tree cells i))
  lawful_to zero i h live = absurd (omega arith)
  lawful_to (suc f) i h live = lawful_at f i (lawful_to f) (slice_get cells i) refl (omega arith) live

  -- whatever stands in cells in use is lawful
  pub tree_lawful : (i : ℕ) → Live cells i → AllByRecursion (Lawful k) (elements (tree cells i))
  tree_lawful i live = lawful_to (cell_count cells i + 1) i (omega arith) live
