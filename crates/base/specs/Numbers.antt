-- A number by its digits (Digits.antt), each times its weight. Order: the weights; the number of some digits; one of them replaced; its digits and
-- its bound; the lowest digits of a number, one by one. `ks` lists the radices, `cs` the digits, lowest first. Assumes nothing.
use Rattle.std.specs.Prelude.{List, [], ◌∷◌, ℕ, ◌+◌, ◌*◌}

-- The number of some digits ---------------------------------------------------------------------------------------------------------------

unfoldable pub number : List ℕ → List ℕ → ℕ
number [] cs = 0
number (k ∷ ks) [] = 0
number (k ∷ ks) (c ∷ cs) = c + k * number ks cs
