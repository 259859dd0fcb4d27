-- What the lines of the selection list give, as the code has it: a number in the place of each line, in their order. In that of the last line it is
-- always an output; in those before it 0 says that the line gives none. Order: the lines; which of them apply; what they give. Assumes nothing.
use Rattle.std.specs.Prelude.{Bool, cond, not, ◌||◌, List, [], ◌∷◌, ℕ, suc, eqb}
use Rattle.network.specs.declared.Sign.{Sign}
use Rattle.network.specs.Sizes.{dimensions}

-- one for each dimension and the last, counted from 0: the paper's line 1 has number 0
abbrev pub selection_lines : ℕ
selection_lines = suc dimensions

abbrev pub last_selection_line : ℕ
last_selection_line = dimensions

-- line k applies, o being the number in its place
unfoldable pub applies : ℕ → ℕ → Bool
applies k o = eqb k last_selection_line || not (eqb o 0)

-- the outputs that line k and those behind it give
unfoldable pub outputs_from : ℕ → List ℕ → List ℕ
outputs_from k [] = []
outputs_from k (o ∷ os) = cond (applies k o) (o ∷ outputs_from (suc k) os) (outputs_from (suc k) os)

-- and what a line before the last gives by itself, by the number in its place
abbrev pub unless_zero : ℕ → List ℕ
unless_zero o = cond (eqb o 0) [] (o ∷ [])

-- the number in the place of a line before the last, by the adaptive queues of its dimension and the sign of the offset there
abbrev pub adaptive : ℕ → ℕ → Sign → ℕ
adaptive plus minus Sign.Plus = plus
adaptive plus minus Sign.Minus = minus
adaptive plus minus Sign.Zero = 0
