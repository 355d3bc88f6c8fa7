-- Lists of elements divided at places: what trees are to do.
use Rattle.std.specs.Prelude.{ℕ, ◌+◌, ◌-◌, ◌≤◌, cond, List, [], ◌∷◌, ◌++◌, Some, None, Option, ◌==◌, nat_lt}
use Rattle.std.specs.List.{AllByRecursion}

-- What is known of elements: the extent of one, which is the number of its atoms, and its parts. The part (d, m) has
-- the m atoms from the atom d on.
pub record Shape (E : Type 0) : Type 0 where
  pub extent : E → ℕ
  pub part : E → ℕ → ℕ → E

-- the extent of a list, and lists whose elements have an atom at least
abbrev pub extents : {E : Type 0} → Shape E → List E → ℕ
extents k [] = 0
extents k (e ∷ es) = k.extent e + extents k es

abbrev pub Solid : {E : Type 0} → Shape E → List E → Type 0
Solid k es = AllByRecursion (λ e. 1 ≤ k.extent e) es

-- the element that holds the atom p of a list, and the offset of the atom in it
pub record Held (E : Type 0) : Type 0 where
  pub element : E
  pub offset : ℕ

abbrev pub holding : {E : Type 0} → Shape E → ℕ → List E → Option (Held E)
holding k p [] = None
holding k p (e ∷ es) = cond (nat_lt p (k.extent e)) (Some (record { element = e; offset = p })) (holding k (p - k.extent e) es)

module _ {E : Type 0} (k : Shape E) where
  -- Dividing at a place p does nothing between two elements; inside one, at offset d, it leaves the parts
  -- (0, d) and (d, extent - d). What then lies before the place, and what lies behind it:
  abbrev pub front : ℕ → List E → List E
  front p [] = []
  front p (e ∷ es) =
      cond (nat_lt p (k.extent e)) (cond (p == 0) [] (k.part e 0 p ∷ []))
      (e ∷ front (p - k.extent e) es)

  abbrev pub back : ℕ → List E → List E
  back p [] = []
  back p (e ∷ es) =
      cond (nat_lt p (k.extent e)) (cond (p == 0) e (k.part e p (k.extent e - p)) ∷ es)
      (back (p - k.extent e) es)

  -- A list put in at a place.
  abbrev pub put_in : List E → ℕ → List E → List E
  put_in es p new = front p es ++ (new ++ back p es)

  -- Dividing at from and then at from + len: what lies between, and the list without it.
  abbrev pub between : List E → ℕ → ℕ → List E
  between es from len = front len (back from es)

  abbrev pub without : List E → ℕ → ℕ → List E
  without es from len = front from es ++ back len (back from es)
