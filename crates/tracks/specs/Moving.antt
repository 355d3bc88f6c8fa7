-- A range taken out of a track and put in elsewhere: the versions that come to be, and why one does not.
use Rattle.std.specs.Prelude.{◌≡◌, ℕ, ◌≤◌, List, [], ◌∷◌, map, length, take, drop, Some, None, vec_items, Option}
use Rattle.std.specs.List.{range_with_len}
use Rattle.faults.specs.declared.reel.ReelFault.{ReelFault}
use Rattle.faults.specs.declared.session.SessionFault.{SessionFault}
use Rattle.kinds.specs.Kinds.{Meaning}
use Rattle.kinds.specs.Places.{extent_of, atoms_of, put_at, taken, without}
use Rattle.cells.specs.declared.cell.Cell.{Cell}
use Rattle.cells.specs.declared.pool.Pool.{Pool}
use Rattle.balance.specs.Levels.{most}
use Rattle.cells.specs.Reach.{Among}
use Rattle.cells.specs.References.{Arena}
use Rattle.cells.specs.Moves.{Moves}
use Rattle.flat.specs.Calls.{cut, paste}
use Rattle.flat.specs.Refusals.{element_limit, refusal, cells_outside}
use Rattle.edits.specs.declared.removal.Removal.{Removal}
use Rattle.edits.specs.Edits.{list, edit_takes}
use Rattle.profile.specs.Columns.{column}
use Rattle.profile.specs.declared.fault.SurveyFault.{SurveyFault}
use Rattle.profile.specs.declared.fault.SurveyFault.TheVariants.{Reel, Session, NoMemory}
use Rattle.tracks.specs.declared.piece.Piece.{Piece}
use Rattle.tracks.specs.declared.shift.Shift.{Shift}
use Rattle.tracks.specs.declared.version.Version.{Version}
use Rattle.tracks.specs.declared.version.Versions.{Versions}
use Rattle.tracks.specs.declared.version.Rearranged.{Rearranged}
use Rattle.tracks.specs.Laying.{made_of, flatly, next_not_laid}

module _ {E A S : Type 0} (k : Meaning E A S) where
  -- why a range cannot be taken out of a list, and why a list cannot be put in at a place, with so many cells free
  abbrev pub not_taken : List E → ℕ → ℕ → ℕ → Option SessionFault
  not_taken es free from len = refusal k (flatly es []) free (cut from len)

  abbrev pub not_put : List E → List E → ℕ → ℕ → Option SessionFault
  not_put es clip free place = refusal k (flatly es clip) free (paste place)

  -- The range was taken out: what is left of the list of root, and the range, are two lists more. The list itself stays.
  pub record TakesOut (a : List (Cell E S)) (p : Pool) (root from len : ℕ) (b : List (Cell E S)) (q : Pool) (r : Removal) : Type 0 where
    pub accepted : not_taken (list a root) p.free from len ≡ None
    pub each : Moves k a p [] b q (r.left ∷ r.taken ∷ []) edit_takes
    pub left : list b r.left ≡ without k from len (list a root)
    pub range : list b r.taken ≡ taken k from len (list a root)

  -- The list of clip was put into that of root: one list more.
  pub record PutsIn (a : List (Cell E S)) (p : Pool) (root place clip : ℕ) (b : List (Cell E S)) (q : Pool) (r : ℕ) : Type 0 where
    pub accepted : not_put (list a root) (list a clip) p.free place ≡ None
    pub each : Moves k a p [] b q (r ∷ []) edit_takes
    pub listed : list b r ≡ put_at k place (list a clip) (list a root)
    pub few : length (list b r) ≤ element_limit

  -- a call was refused: nothing is owned but what was, and all of that stays
  pub record Declines (why : Option SessionFault) (a : List (Cell E S)) (p : Pool) (b : List (Cell E S)) (q : Pool) (f : SessionFault) : Type 0 where
    pub because : why ≡ Some f
    pub each : Moves k a p [] b q [] edit_takes

-- Why a rearrangement stopped with f, in the order of the steps: at the start, at a piece, at the cut or at the paste. The
-- number of free cells is that of cells as many as were lent, which hold the versions made so far and nothing else.
pub data Stops {E A S : Type 0} (k : Meaning E A S) (size : ℕ) (pieces : List Piece) (s : Shift) (f : SessionFault) : Type 0 where
  at_start : cells_outside size ≡ Some f → Stops k size pieces s f
  at_piece : (i : ℕ) (b : List (Cell E S)) (q : Pool) (root : ℕ) → length b ≡ size → Arena k b q (root ∷ []) → list b root ≡ made_of k (take i pieces)
      → next_not_laid k (list b root) q.free (drop i pieces) ≡ Some f → Stops k size pieces s f
  at_cut : (b : List (Cell E S)) (q : Pool) (root : ℕ) → length b ≡ size → Arena k b q (root ∷ []) → list b root ≡ made_of k pieces
      → not_taken k (list b root) q.free s.from s.len ≡ Some f → Stops k size pieces s f
  at_paste : (b : List (Cell E S)) (q : Pool) (root left range : ℕ) → length b ≡ size → Arena k b q (left ∷ range ∷ root ∷ []) → list b root ≡ made_of k pieces
      → list b left ≡ without k s.from s.len (made_of k pieces) → list b range ≡ taken k s.from s.len (made_of k pieces)
      → not_put k (list b left) (list b range) q.free s.to ≡ Some f → Stops k size pieces s f

-- Why there is no rearrangement: for want of memory, or as the session would say.
abbrev pub NotRearranged : {E A S : Type 0} → Meaning E A S → ℕ → List Piece → Shift → SurveyFault → Type 0
NotRearranged k size pieces s (Reel f) = ⊥
NotRearranged k size pieces s (Session f) = Stops k size pieces s f
NotRearranged k size pieces s NoMemory = Unit {0}

-- Why there is none over a pile of two reels: bytes that are no reel are refused before anything else is looked at.
abbrev pub NotOver : Option ReelFault → (SurveyFault → Type 0) → SurveyFault → Type 0
NotOver (Some f) P g = g ≡ Reel f
NotOver None P g = P g

-- the roots of versions, the last first
abbrev pub roots : Versions → List ℕ
roots v = v.moved.root ∷ v.left.root ∷ v.range ∷ v.laid.root ∷ []

-- the roots rs are owned, and each can be given back
pub record Held {E A S : Type 0} (k : Meaning E A S) (a : List (Cell E S)) (p : Pool) (rs : List ℕ) : Type 0 where
  pub arena : Arena k a p rs
  pub few : (r : ℕ) → Among rs r → length (list a r) ≤ most

-- v tells how many elements es has, and its extent
pub record Tells {E A S : Type 0} (k : Meaning E A S) (v : Version) (es : List E) : Type 0 where
  pub elements : v.elements ≡ length es
  pub extent : v.extent ≡ extent_of k es

module _ {E A S : Type 0} (k : Meaning E A S) (pieces : List Piece) (s : Shift) where
  -- the track that the range is moved in
  abbrev pub rearranged : List E
  rearranged = put_at k s.to (taken k s.from s.len (made_of k pieces)) (without k s.from s.len (made_of k pieces))

  -- the four lists of the roots v, and no other root is owned
  pub record Kept (b : List (Cell E S)) (q : Pool) (v : Versions) : Type 0 where
    pub arena : Arena k b q (roots v)
    pub is_laid : list b v.laid.root ≡ made_of k pieces
    pub is_left : list b v.left.root ≡ without k s.from s.len (made_of k pieces)
    pub is_range : list b v.range ≡ taken k s.from s.len (made_of k pieces)
    pub is_moved : list b v.moved.root ≡ rearranged
    pub few : length (made_of k pieces) ≤ element_limit
    pub moved_few : length rearranged ≤ element_limit
    pub laid_took : v.laid.took ≤ length (made_of k pieces)
    pub cut_took : v.left.took ≤ edit_takes
    pub moved_took : v.moved.took ≤ edit_takes

  -- Three versions are told, and the last is seen in its columns. Every cell of the size lent is free again.
  pub record Rearranges (size : ℕ) (r : Rearranged S) : Type 0 where
    pub laid : Tells k r.laid (made_of k pieces)
    pub left : Tells k r.cut (without k s.from s.len (made_of k pieces))
    pub clip : r.clip ≡ length (taken k s.from s.len (made_of k pieces))
    pub moved : Tells k r.moved rearranged
    pub columns : vec_items r.columns ≡ map (column k (atoms_of k rearranged) s.columns) (range_with_len 0 s.columns)
    pub laid_took : r.laid.took ≤ length (made_of k pieces)
    pub cut_took : r.cut.took ≤ edit_takes
    pub moved_took : r.moved.took ≤ edit_takes
    pub free : r.free ≡ size
