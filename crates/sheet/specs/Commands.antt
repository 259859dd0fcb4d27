-- R240 and R243 to R248: the command of a line. Order: the fields of a line; numbers; the commands. Assumes nothing.
use Rattle.std.specs.Prelude.{Bool, true, false, not, cond, ◌&&◌, List, [], ◌∷◌, map, ℕ, ◌+◌, ◌*◌, ◌-◌, leb, ltb, eqb, length, get_or}
use Prim.Native.Char.{code}
use Rattle.base.specs.Tests.{all_of}
use Rattle.sheet.specs.declared.Command.{Command}
use Rattle.sheet.specs.Text.{comma}
use Rattle.sheet.specs.Lines.{line_limit, Kept, whole, too_long}

-- the bytes before the first that is `stop`, or all
unfoldable pub up_to : ℕ → List ℕ → List ℕ
up_to stop [] = []
up_to stop (b ∷ bs) = cond (eqb b stop) [] (b ∷ up_to stop bs)

-- R240: what stands before the first comma, and what stands behind each comma, up to the next.
-- Without quotes a comma always separates, and every other byte belongs to its field
abbrev pub first_field : List ℕ → List ℕ
first_field line = up_to comma line

unfoldable pub later_fields : List ℕ → List (List ℕ)
later_fields [] = []
later_fields (b ∷ bs) = behind (eqb b comma) (first_field bs) (later_fields bs)
  where
    behind : Bool → List ℕ → List (List ℕ) → List (List ℕ)
    behind true field fields = field ∷ fields
    behind false field fields = fields

-- R9, R247: a digit of a base up to ten, and the number that digits stand for where the digits of n stand before them
unfoldable pub is_digit : ℕ → ℕ → Bool
is_digit base b = leb (code "0") b && ltb b (code "0" + base)

unfoldable pub value_from : ℕ → ℕ → List ℕ → ℕ
value_from base n [] = n
value_from base n (b ∷ bs) = value_from base (n * base + (b - code "0")) bs

unfoldable pub value : ℕ → List ℕ → ℕ
value base field = value_from base 0 field

-- R247: a sheet's numbers are decimal, and the largest of a field
abbrev pub ten : ℕ
ten = 10

abbrev pub largest_number : ℕ
largest_number = 4294967295

-- one digit at least, and no zero before another digit
unfoldable pub no_leading_zero : List ℕ → Bool
no_leading_zero [] = false
no_leading_zero (b ∷ []) = true
no_leading_zero (b ∷ c ∷ bs) = not (eqb b (code "0"))

-- the field is a number of the base, and at most `most`
unfoldable pub is_number : ℕ → ℕ → List ℕ → Bool
is_number base most field = no_leading_zero field && (all_of (is_digit base) field && leb (value base field) most)

-- R243 to R246: the command of a letter and the numbers behind it, as many as it takes
unfoldable pub command_with : ℕ → List ℕ → Command
command_with letter n =
    cond (eqb letter (code "T") && eqb (length n) 6) (Command.Make (get_or n 0 0) (get_or n 1 0) (get_or n 2 0) (get_or n 3 0) (get_or n 4 0) (get_or n 5 0))
    (cond (eqb letter (code "O") && eqb (length n) 4) (Command.Offer (get_or n 0 0) (get_or n 1 0) (get_or n 2 0) (get_or n 3 0))
    (cond (eqb letter (code "M") && eqb (length n) 3) (Command.Move (get_or n 0 0) (get_or n 1 0) (get_or n 2 0))
    (cond (eqb letter (code "D") && eqb (length n) 1) (Command.Drain (get_or n 0 0))
    Command.Bad)))

-- a letter, then numbers
unfoldable pub well_formed : List ℕ → Bool
well_formed line = leb (length line) line_limit && (eqb (length (first_field line)) 1 && all_of (is_number ten largest_number) (later_fields line))

-- R248: every line that is none of these is bad
unfoldable pub command_of : List ℕ → Command
command_of line = cond (well_formed line) (command_with (get_or (first_field line) 0 0) (map (value ten) (later_fields line))) Command.Bad

-- the command of a line as it is handed on
unfoldable pub kept_command : Kept → Command
kept_command (whole line) = command_of line
kept_command too_long = Command.Bad
