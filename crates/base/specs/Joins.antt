-- A list for each number below n, or for each element of a list, joined in order. Order: the first, its sum and its length; the sum of a mapped list; the
-- second, `flat_map` of mathlib, of two lists joined, and its length. Assumes nothing.
use Rattle.std.specs.Prelude.{ℕ, zero, suc}
use mathlib.Core.List.{List, [], ◌++◌}

unfoldable pub join_below : {A : Type 0} → ℕ → (ℕ → List A) → List A
join_below zero f = []
join_below (suc n) f = join_below n f ++ f n
