-- A cell taken apart: its children are owned one after the other.
use Rattle.std.proofs.Common.{◌≡◌, ℕ, ◌^◌, ◌<◌, Bool, true, false, List, [], ◌∷◌, Some, sym, ap, ◌∙◌, subst, arith}
use Rattle.std.specs.List.{slice_get}
use Rattle.kinds.specs.Kinds.{Meaning}
use Rattle.cells.specs.declared.cell.Cell.{Cell}
use Rattle.cells.specs.declared.item.Item.{Item}
use Rattle.cells.specs.declared.pool.Pool.{Pool}
use Rattle.cells.specs.Cells.{near, far, Live, Good, Whole}
use Rattle.cells.specs.Reach.{Among, child, Stays}
use Rattle.cells.specs.References.{Arena, Holds}
use Rattle.cells.specs.Moves.{Retains}
use Rattle.cells.proofs.Staying.{follow_same, reached_live}
use Rattle.cells.proofs.Names.{hit_same}
use Rattle.cells.proofs.Arenas.{rooted, owned_refs}
use Rattle.cells.proofs.Moving.{moves_then, seen_stays}
use Rattle.links.specs.Opened.{Opens}
use Rattle.links.proofs.Sides.{seen_opened, near_live, far_stays}

-- a child of a cell that stays is live there too
child_there : {E A S : Type 0} (k : Meaning E A S) (a b : List (Cell E S)) (i : ℕ) (c : Cell E S) → slice_get a i ≡ Some c → Stays a b i
    → (q : Pool) (rs : List ℕ) → Arena k b q rs → Among rs i → (side : Bool) → Live b (child side i (Some c))
child_there k a b i c at stays q rs arena among side =
    subst (Live b) (sym (follow_same a b i (side ∷ []) stays) ∙ ap (child side i) at) (reached_live k b arena.sound i (side ∷ []) (rooted k b q rs arena i among))

pub far_there : {E A S : Type 0} (k : Meaning E A S) (flip : Bool) (a b : List (Cell E S)) (i : ℕ) (c : Cell E S) → slice_get a i ≡ Some c → Stays a b i
    → (q : Pool) (rs : List ℕ) → Arena k b q rs → Among rs i → Live b (far flip c)
far_there k false a b i c at stays q rs arena among = child_there k a b i c at stays q rs arena among true
far_there k true a b i c at stays q rs arena among = child_there k a b i c at stays q rs arena among false

module _ {E A S : Type 0} {k : Meaning E A S} (flip : Bool) {a : List (Cell E S)} {p : Pool} {i : ℕ} (holds : Holds k a p (i ∷ []) (2 ^ 29)) {c : Cell E S} (at : slice_get a i ≡ Some c) where
  live : 0 < c.refs
  live = owned_refs k a p i c at holds.rest holds.arena

  good : Good k a i c
  good = holds.arena.sound i c at live

  pub room : Holds k a p [] (2 ^ 30)
  room = record { rest = i ∷ holds.rest; arena = holds.arena; few = omega (arith, holds.few) }

  pub near_alive : {x : ℕ} → x ≡ near flip c → Live a x
  near_alive e = subst (Live a) (sym e) (near_live k flip a i c good)

  module _ {x : ℕ} {b : List (Cell E S)} (one : Retains k a x b) where
    pub held : Arena k b p (x ∷ i ∷ holds.rest)
    held = (one.each p (i ∷ holds.rest) holds.arena).arena

    here_stays : Stays a b i
    here_stays = (one.each p (i ∷ holds.rest) holds.arena).stay i (let h = hit_same i in omega arith)

    pub room_left : Holds k b p [] (2 ^ 30)
    room_left = record { rest = x ∷ i ∷ holds.rest; arena = held; few = omega (arith, holds.few) }

    pub far_alive : {y : ℕ} → y ≡ far flip c → Live b y
    far_alive e = subst (Live b) (sym e) (far_there k flip a b i c at here_stays p (x ∷ i ∷ holds.rest) held (let h = hit_same i in omega arith))

    pub opens : {y : ℕ} {d : List (Cell E S)} {item : Item E S} → x ≡ near flip c → y ≡ far flip c → Retains k b y d → item ≡ record { element = c.element; own = c.own }
        → Opens k flip a i d (record { near = x; item = item; far = y })
    opens {y} {d} {item} x_is y_is two item_is = record {
      each = λ q rs arena.
          moves_then k a q [] b q (x ∷ []) 0 (one.each q) [] (x ∷ []) (λ j. omega arith) d q (y ∷ []) 0 (two.each q) (x ∷ y ∷ []) (λ j. omega arith) (i ∷ rs) arena;
      tree_is =
          let nx = seen_stays flip a b x (one.here p (i ∷ holds.rest) holds.arena) in
          let nb = seen_stays flip b d x ((two.each p (x ∷ i ∷ holds.rest) held).stay x (let h = hit_same x in omega arith)) in
          let fs = seen_stays flip a b (far flip c) (far_stays flip a b i c at here_stays) in
          let fd = seen_stays flip b d y (two.here p (x ∷ i ∷ holds.rest) held) in
          let o = seen_opened k flip a holds.arena.sound i c at live in
          let e = ap (λ x. x.element) item_is in
          cc;
      whole = subst (Whole k) (sym item_is) (record { lawful = good.lawful; owns = good.owns });
    }
