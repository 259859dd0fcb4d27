-- R400 to R410: the bytes of a dump. Order: the fills; the header's lines; a time stamp; values; the two kinds of step. Assumes nothing.
use Rattle.std.specs.Prelude.{Bool, true, false, not, cond, ◌||◌, List, [], ◌∷◌, ◌++◌, ℕ, zero, suc, ◌*◌, ◌/◌, ◌%◌, eqb, length, get_or}
use Prim.Native.Char.{code}
use Rattle.network.specs.Sizes.{Shape, nodes, most_nodes, queues}
use Rattle.network.specs.Layout.{held}
use Rattle.sheet.specs.Text.{text, lf}
use Rattle.sheet.specs.Output.{numeral, decimal}

-- R403: a variable for each queue; the most that a network has
abbrev pub variables_of : Shape → ℕ
variables_of S = nodes S * queues

abbrev pub most_variables : ℕ
most_variables = most_nodes * queues

-- R406: the packets that the first i queues hold, by node and queue
unfoldable pub fills_to : Shape → List ℕ → ℕ → List ℕ
fills_to S w zero = []
fills_to S w (suc i) = fills_to S w i ++ (length (held S w (i / queues) (i % queues)) ∷ [])

unfoldable pub fills : Shape → List ℕ → List ℕ
fills S w = fills_to S w (variables_of S)

-- R402: the fixed bytes before the variables, behind them, before the values and behind them
abbrev pub variables_begin : List ℕ
variables_begin = text "$timescale 1 ns $end\n$scope module network $end\n"

abbrev pub variables_end : List ℕ
variables_end = text "$upscope $end\n$enddefinitions $end\n"

abbrev pub values_begin : List ℕ
values_begin = text "$dumpvars\n"

abbrev pub values_end : List ℕ
values_end = text "$end\n"

-- R403: a variable's number is its identifier code; its name tells node and queue
unfoldable pub variable_line : ℕ → List ℕ
variable_line i =
    text "$var wire 8 " ++ (decimal i ++ (text " n" ++ (decimal (i / queues) ++ (text "q" ++ (decimal (i % queues) ++ text " $end\n")))))

-- the lines of so many variables from number i on
unfoldable pub variable_lines : ℕ → ℕ → List ℕ
variable_lines i zero = []
variable_lines i (suc count) = variable_line i ++ variable_lines (suc i) count

-- R404
unfoldable pub stamp_line : ℕ → List ℕ
stamp_line time = code "#" ∷ (decimal time ++ (lf ∷ []))

-- R405: a variable and the fill that is told of it
pub record Change : Type 0 where
  pub variable : ℕ
  pub fill : ℕ

abbrev pub two : ℕ
two = 2

unfoldable pub value_line : Change → List ℕ
value_line c = code "b" ∷ (numeral two c.fill ++ (code " " ∷ (decimal c.variable ++ (lf ∷ []))))

unfoldable pub value_lines : List Change → List ℕ
value_lines [] = []
value_lines (c ∷ cs) = value_line c ++ value_lines cs

-- R407, R408: a header tells every variable, a later step those whose fill differs from the list
unfoldable pub tells : Bool → List ℕ → List ℕ → ℕ → Bool
tells every counts list i = every || not (eqb (get_or counts i 0) (get_or list i 0))

-- what is told of the first i variables
unfoldable pub changes_to : Bool → List ℕ → List ℕ → ℕ → List Change
changes_to every counts list zero = []
changes_to every counts list (suc i) =
    changes_to every counts list i ++ cond (tells every counts list i) (record { variable = i; fill = get_or counts i 0 } ∷ []) []

unfoldable pub changes : Bool → List ℕ → List ℕ → List Change
changes every counts list = changes_to every counts list (length counts)

-- R402 to R409: a step, a header or a later one, of these fills where the list has those
unfoldable pub step_bytes : Bool → ℕ → List ℕ → List ℕ → List ℕ
step_bytes true time counts list =
    variables_begin
    ++ (variable_lines 0 (length counts)
    ++ (variables_end ++ (stamp_line time ++ (values_begin ++ (value_lines (changes true counts list) ++ values_end)))))
step_bytes false time counts list = stamp_line time ++ value_lines (changes false counts list)
