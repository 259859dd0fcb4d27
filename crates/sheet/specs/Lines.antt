-- R241, R242, R249 and R250: the lines of the whole input. Order: the limit; a line's end; the lines; the part of an input whose lines have ended; a line
-- as it is handed on. Assumes nothing.
use Rattle.std.specs.Prelude.{true, false, cond, List, [], ◌∷◌, ◌++◌, ℕ, leb, eqb, length}
use Rattle.base.specs.Tests.{elem}
use Rattle.sheet.specs.Text.{lf, cr}

-- R242: the bytes of a line, its end not counted
abbrev pub line_limit : ℕ
line_limit = 64

-- R241: what stands before an LF without the CR that belongs to the end. A CR anywhere else belongs to the line
unfoldable pub without_cr : List ℕ → List ℕ
without_cr [] = []
without_cr (b ∷ []) = cond (eqb b cr) [] (b ∷ [])
without_cr (b ∷ c ∷ bs) = b ∷ without_cr (c ∷ bs)

-- R249, R250: bytes behind the last end are a line too; if there are none, there is no further line
unfoldable pub last_line : List ℕ → List (List ℕ)
last_line [] = []
last_line (b ∷ bs) = (b ∷ bs) ∷ []

-- the lines of what is still to come, each without its end, where `line` has come since the last end
unfoldable pub lines_from : List ℕ → List ℕ → List (List ℕ)
lines_from line [] = last_line line
lines_from line (b ∷ bs) = elim (eqb b lf) [ true ↦ without_cr line ∷ lines_from [] bs | false ↦ lines_from (line ++ (b ∷ [])) bs ]

unfoldable pub lines : List ℕ → List (List ℕ)
lines input = lines_from [] input

-- R259: the input up to its last LF: a byte belongs to it if an LF is still to come
unfoldable pub ended_part : List ℕ → List ℕ
ended_part [] = []
ended_part (b ∷ bs) = cond (elem lf (b ∷ bs)) (b ∷ ended_part bs) []

-- R248: a line as it is handed on, with its bytes or as too long
pub data Kept : Type 0 where
  whole : List ℕ → Kept
  too_long : Kept

unfoldable pub kept : List ℕ → Kept
kept line = cond (leb (length line) line_limit) (whole line) too_long
