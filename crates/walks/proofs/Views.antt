-- A view, opened: what another one, over the same cells, tells.
use Rattle.std.proofs.Common.{◌≡◌, ℕ, sym, ap, ◌∙◌, subst}
use Rattle.kinds.specs.Kinds.{Meaning}
use Rattle.balance.specs.Ways.{span}
use Rattle.cells.specs.Cells.{shape, tree, Live}
use Rattle.walks.specs.Versions.{Version}

-- how many atoms lie under the root of a version
abbrev pub width : {K E A S : Type 0} → (K → Meaning E A S) → Version K E S → ℕ
width meaning v = span (shape (meaning v.kind)) (tree v.cells v.root)

-- the same kind and cells, another root
abbrev moved : {K E S : Type 0} → ℕ → Version K E S → Version K E S
moved i v = record v { root = i }

pub at_is : {K E S : Type 0} {v w x : Version K E S} {i : ℕ} → v ≡ w → x ≡ record w { root = i } → x ≡ record v { root = i }
at_is {i = i} is x_is = x_is ∙ ap (moved i) (sym is)

pub at_width : {K E A S : Type 0} (meaning : K → Meaning E A S) {v w x : Version K E S} {n i : ℕ} → v ≡ w → n ≡ width meaning x → x ≡ record w { root = i } → n ≡ width meaning (record v { root = i })
at_width meaning is n_is x_is = n_is ∙ ap (width meaning) (at_is is x_is)

pub at_live : {K E S : Type 0} {v w : Version K E S} → v ≡ w → (i : ℕ) → Live v.cells i → Live w.cells i
at_live is i live = subst (λ x. Live x.cells i) is live
