-- Links and roots that name a cell, counted.
use Rattle.std.proofs.Common.{◌≡◌, ℕ, zero, suc, ◌+◌, ◌*◌, ◌<◌, ◌≤◌, min, Bool, true, false, cond, ◌≢◌, List, [], ◌∷◌, length, set, Some, sym, refl, ap, ◌∙◌, ⊎_elim, arith, eq-eqb, ne_eqb}
use Rattle.std.specs.List.{slice_get}
use Rattle.std.proofs.lemmas.Bool.{cases_eq}
use Rattle.cells.specs.declared.cell.Cell.{Cell}
use Rattle.cells.specs.Reach.{hit, occurs, child}
use Rattle.cells.specs.References.{links_if, links, used}

pub hit_same : (i : ℕ) → hit i i ≡ 1
hit_same i = ap (λ b. cond b 1 0) (eq-eqb i i refl)

pub hit_other : (x i : ℕ) → i ≢ x → hit x i ≡ 0
hit_other x i ne = ap (λ b. cond b 1 0) (ne_eqb x i (λ e. ne (sym e)))

hit_few : (x i : ℕ) → hit x i ≤ 1
hit_few x i = ⊎_elim (λ q. let h = ap (λ j. hit j i) (sym q) ∙ hit_same i in omega arith) (λ ne. let h = hit_other x i ne in omega arith) (cases_eq i x)

occurs_few : (rs : List ℕ) (i : ℕ) → occurs rs i ≤ length rs
occurs_few [] i = omega arith
occurs_few (r ∷ rs) i = let h = occurs_few rs i in let k = hit_few r i in omega arith

-- the links of a cell in use, and of a free one
pub links_live : {E S : Type 0} (n : ℕ) (c : Cell E S) (i : ℕ) → 0 < n → links_if n c i ≡ hit c.left i + hit c.right i
links_live zero c i h = absurd (omega arith)
links_live (suc n) c i h = refl

pub links_free : {E S : Type 0} (n : ℕ) (c : Cell E S) (i : ℕ) → n ≡ 0 → links_if n c i ≡ 0
links_free n c i e = ap (λ n. links_if n c i) e

links_if_few : {E S : Type 0} (n : ℕ) (c : Cell E S) (i : ℕ) → links_if n c i ≤ 2 * min n 1
links_if_few zero c i = omega arith
links_if_few (suc n) c i = let a = hit_few c.left i in let b = hit_few c.right i in omega arith

links_few : {E S : Type 0} (a : List (Cell E S)) (i : ℕ) → links a i ≤ 2 * used a
unfolding links
links_few [] i = omega arith
links_few (c ∷ a) i = let h = links_few a i in let k = links_if_few c.refs c i in omega arith

pub names_few : {E S : Type 0} (a : List (Cell E S)) (rs : List ℕ) (i : ℕ) → links a i + occurs rs i ≤ 2 * used a + length rs
names_few a rs i = omega (arith, links_few a i, occurs_few rs i)

-- ---- one cell written

pub links_set : {E S : Type 0} (a : List (Cell E S)) (j : ℕ) (c d : Cell E S) (i : ℕ) → slice_get a j ≡ Some c → links (set a j d) i + links_if c.refs c i ≡ links a i + links_if d.refs d i
unfolding links
links_set [] j c d i e = absurd (let z : ◌≡◌ {A = ℕ} 0 1 = cc in omega arith)
links_set (x ∷ a) zero c d i e = let xc : x ≡ c = cc in let l = ap (λ y. links_if y.refs y i) xc in omega arith
links_set (x ∷ a) (suc j) c d i e = let h = links_set a j c d i e in omega arith

pub used_set : {E S : Type 0} (a : List (Cell E S)) (j : ℕ) (c d : Cell E S) → slice_get a j ≡ Some c → used (set a j d) + min c.refs 1 ≡ used a + min d.refs 1
used_set [] j c d e = absurd (let z : ◌≡◌ {A = ℕ} 0 1 = cc in omega arith)
used_set (x ∷ a) zero c d e = let xc : x ≡ c = cc in let l = ap (λ y. y.refs) xc in omega arith
used_set (x ∷ a) (suc j) c d e = let h = used_set a j c d e in omega arith

-- ---- a link and the cell that has it

links_has : {E S : Type 0} (a : List (Cell E S)) (j : ℕ) (c : Cell E S) (i : ℕ) → slice_get a j ≡ Some c → links_if c.refs c i ≤ links a i
unfolding links
links_has [] j c i e = absurd (let z : ◌≡◌ {A = ℕ} 0 1 = cc in omega arith)
links_has (x ∷ a) zero c i e = let xc : x ≡ c = cc in let l = ap (λ y. links_if y.refs y i) xc in omega arith
links_has (x ∷ a) (suc j) c i e = let h = links_has a j c i e in omega arith

-- the children of a cell in use are named
pub child_named : {E S : Type 0} (a : List (Cell E S)) (j : ℕ) (c : Cell E S) (side : Bool) → slice_get a j ≡ Some c → 0 < c.refs → 0 < links a (child side j (Some c))
child_named a j c false e live = omega (arith, links_has a j c c.left e, links_live c.refs c c.left live, hit_same c.left)
child_named a j c true e live = omega (arith, links_has a j c c.right e, links_live c.refs c c.right live, hit_same c.right)

-- a cell in use with a child i
pub record Parent {E S : Type 0} (a : List (Cell E S)) (i : ℕ) : Type 0 where
  pub place : ℕ
  pub cell : Cell E S
  pub at : slice_get a place ≡ Some cell
  pub live : 0 < cell.refs
  pub side : Bool
  pub is : child side place (Some cell) ≡ i

module _ {E S : Type 0} (c : Cell E S) (a : List (Cell E S)) (i : ℕ) (later : 0 < links a i → Parent a i) where
  same_child : (side : Bool) (j : ℕ) (f : Cell E S) → child side (suc j) (Some f) ≡ child side j (Some f)
  same_child false j f = refl
  same_child true j f = refl

  after : Parent a i → Parent (c ∷ a) i
  after p = record { place = suc p.place; cell = p.cell; at = p.at; live = p.live; side = p.side; is = same_child p.side p.place p.cell ∙ p.is }

  parent_at : (n : ℕ) → c.refs ≡ n → 0 < links_if n c i + links a i → Parent (c ∷ a) i
  parent_at zero e h = after (later (omega arith))
  parent_at (suc n) e h = ⊎_elim
      (λ q. record { place = 0; cell = c; at = refl; live = omega arith; side = false; is = sym q })
      (λ nl. ⊎_elim
      (λ q. record { place = 0; cell = c; at = refl; live = omega arith; side = true; is = sym q })
      (λ nr. after (later (omega (arith, hit_other c.left i nl, hit_other c.right i nr))))
      (cases_eq i c.right))
      (cases_eq i c.left)

pub named_parent : {E S : Type 0} (a : List (Cell E S)) (i : ℕ) → 0 < links a i → Parent a i
unfolding links
named_parent [] i h = absurd (omega arith)
named_parent (c ∷ a) i h = parent_at c a i (named_parent a i) c.refs refl h

-- a root that stands among rs
pub occurs_other : (r : ℕ) (rs : List ℕ) (i : ℕ) → i ≢ r → occurs (r ∷ rs) i ≡ occurs rs i
occurs_other r rs i ne = let h = hit_other r i ne in omega arith
