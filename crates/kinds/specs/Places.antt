-- Places in a list of elements. A place is a number of atoms: the place p lies behind the first p
-- atoms that the list means. Elements never merge: nothing below makes one element of two.
use Rattle.std.specs.Prelude.{ℕ, ◌+◌, ◌-◌, cond, List, [], ◌∷◌, ◌++◌, length, Ok, Err, Result, ◌==◌, nat_le}
use Rattle.std.specs.List.{flat_map}
use Rattle.faults.specs.declared.causes.Cause.{Cause}
use Rattle.kinds.specs.Kinds.{Meaning}

-- the element made of two numbers, as a list of one; no element where there is none
abbrev pub elements_of : {E : Type 0} → Result E Cause → List E
elements_of (Ok e) = e ∷ []
elements_of (Err c) = []

module _ {E A S : Type 0} (k : Meaning E A S) where
  -- the extent of an element: how many atoms it means
  abbrev pub extent : E → ℕ
  extent e = length (k.atoms e)

  -- the extent of a list of elements: theirs, added
  abbrev pub extent_of : List E → ℕ
  extent_of [] = 0
  extent_of (e ∷ es) = extent e + extent_of es

  -- the atoms that a list of elements means: theirs, in order
  abbrev pub atoms_of : List E → List A
  atoms_of es = flat_map k.atoms es

  -- Dividing at a place does nothing between two elements; inside one, at offset d, it leaves the
  -- parts (0, d) and (d, extent - d). What then lies before the place p:
  unfoldable pub before : ℕ → List E → List E
  before p [] = []
  before p (e ∷ es) =
      cond (nat_le (extent e) p) (e ∷ before (p - extent e) es)
      (cond (p == 0) [] (k.part e 0 p ∷ []))

  -- and what lies after it:
  unfoldable pub after : ℕ → List E → List E
  after p [] = []
  after p (e ∷ es) =
      cond (nat_le (extent e) p) (after (p - extent e) es)
      (cond (p == 0) (e ∷ es) (k.part e p (extent e - p) ∷ es))

  -- the list, divided at the place p
  abbrev pub divided : ℕ → List E → List E
  divided p es = before p es ++ after p es

  -- what is put at the place p stands between what lies before it and what lies after it
  unfoldable pub put_at : ℕ → List E → List E → List E
  put_at p new es = before p es ++ (new ++ after p es)

  -- The range (from, len) is had by dividing at from, and then what lies after from at len more: so
  -- of one element around it all the range is the part (0, len) of the part (d, extent - d).
  unfoldable pub taken : ℕ → ℕ → List E → List E
  taken from len es = before len (after from es)

  -- what is left when the range is taken out
  unfoldable pub without : ℕ → ℕ → List E → List E
  without from len es = before from es ++ after len (after from es)
