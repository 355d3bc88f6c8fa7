-- How deep balanced trees are.
use Rattle.std.specs.Prelude.{ℕ, ◌*◌, ◌^◌, ◌≤◌}

-- From a node to a child the weight falls to three quarters at most. So where k nodes lie between a weight y
-- above and a weight x below, then (4/3)^k ≤ y / x; without division:
abbrev pub Levels : ℕ → ℕ → ℕ → Type 0
Levels k x y = 4 ^ k * x ≤ 3 ^ k * y

-- A tree of at most 4198 elements has at most 28 levels, since (4/3)^29 is more than 4199.
abbrev pub most : ℕ
most = 4198

abbrev pub deepest : ℕ
deepest = 28
