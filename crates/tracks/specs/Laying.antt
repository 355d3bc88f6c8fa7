-- What is laid on a track, and why it is refused.
use Rattle.std.specs.Prelude.{◌≡◌, ℕ, ◌*◌, ◌≤◌, List, [], ◌∷◌, ◌++◌, length, take, drop, Some, None, Option, nat_lt, MatchResult}
use Rattle.faults.specs.Limits.{limit}
use Rattle.faults.specs.declared.session.SessionFault.{SessionFault}
use Rattle.faults.specs.declared.session.SessionFault.TheVariants.{ExtentLimit, ElementLimit}
use Rattle.kinds.specs.Kinds.{Meaning}
use Rattle.kinds.specs.Places.{elements_of, extent_of}
use Rattle.cells.specs.declared.cell.Cell.{Cell}
use Rattle.cells.specs.declared.pool.Pool.{Pool}
use Rattle.cells.specs.Moves.{Moves}
use Rattle.flat.specs.States.{State}
use Rattle.flat.specs.Calls.{insert}
use Rattle.flat.specs.Refusals.{element_limit, fault_if, first_of, few_cells_fault, refusal}
use Rattle.edits.specs.Edits.{list, insert_takes}
use Rattle.tracks.specs.declared.piece.Piece.{Piece}
use Rattle.tracks.specs.declared.piece.Laid.{Laid}

-- how many cells are free at least, once a piece is laid
abbrev pub least_free : ℕ
least_free = 1485

-- what stands against a list of so much extent and so many elements, with so many cells free before it is made
abbrev pub no_room_fault : ℕ → ℕ → ℕ → Option SessionFault
no_room_fault extent elements free =
    first_of (fault_if (nat_lt limit extent) ExtentLimit ∷ fault_if (nat_lt element_limit elements) ElementLimit ∷ few_cells_fault free ∷ [])

-- the flat sequence of a track and a clipboard, with no history
abbrev pub flatly : {E : Type 0} → List E → List E → State E
flatly es clip = record { mark = 0; present = es; past = []; future = []; clipboard = clip; held = [] }

module _ {E A S : Type 0} (k : Meaning E A S) where
  -- the elements that pieces make, in order; numbers that make none are left out
  abbrev pub made_of : List Piece → List E
  made_of [] = []
  made_of (p ∷ ps) = elements_of (k.made p.first p.second) ++ made_of ps

  -- why a piece cannot be put at the end of a list, with so many cells free
  abbrev pub not_laid : List E → ℕ → Piece → Option SessionFault
  not_laid es free p = refusal k (flatly es []) free (insert (extent_of k es) p.first p.second)

  -- why the next of some pieces cannot be put there, if there is one
  abbrev pub next_not_laid : List E → ℕ → List Piece → Option SessionFault
  next_not_laid es free [] = None
  next_not_laid es free (p ∷ ps) = not_laid es free p

  -- The element of a piece was put at the end of the list of root, which is given back.
  pub record Lays (a : List (Cell E S)) (p : Pool) (root : ℕ) (piece : Piece) (b : List (Cell E S)) (q : Pool) (r : ℕ) : Type 0 where
    pub accepted : not_laid (list a root) p.free piece ≡ None
    pub each : Moves k a p (root ∷ []) b q (r ∷ []) insert_takes
    pub listed : list b r ≡ list a root ++ elements_of (k.made piece.first piece.second)
    pub few : length (list b r) ≤ element_limit
    pub enough : least_free ≤ q.free

  -- a call was refused, and nothing has changed
  pub record Refuses (why : Option SessionFault) (a : List (Cell E S)) (p : Pool) (b : List (Cell E S)) (q : Pool) (f : SessionFault) : Type 0 where
    pub because : why ≡ Some f
    pub same_cells : b ≡ a
    pub same_pool : q ≡ p

  -- The first pieces, as many as r tells, make the list of its root. The next one was refused there, or there is none.
  pub record LaysAll (a : List (Cell E S)) (p : Pool) (pieces : List Piece) (b : List (Cell E S)) (q : Pool) (r : Laid) : Type 0 where
    pub inside : r.laid ≤ length pieces
    pub each : Moves k a p [] b q (r.root ∷ []) (r.laid * insert_takes)
    pub listed : list b r.root ≡ made_of (take r.laid pieces)
    pub few : length (list b r.root) ≤ element_limit
    pub enough : least_free ≤ p.free → least_free ≤ q.free
    pub done : MatchResult r.done (λ _. r.laid ≡ length pieces) (λ f. next_not_laid (list b r.root) q.free (drop r.laid pieces) ≡ Some f)
