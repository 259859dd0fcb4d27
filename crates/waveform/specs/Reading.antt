-- R410 and R415 to R419: what the reader makes of the bytes of one step. Every definition is of the bytes from a place on, and tells how many of them it
-- used. Order: fields; a time stamp; a value; values one after another; the header's names; a step; the list. Assumes nothing.
use Rattle.std.specs.Prelude.{Bool, true, false, not, cond, Option, Some, None, option_and_then, ◌&&◌, List, [], ◌∷◌, ℕ, zero, suc, ◌+◌, ◌-◌, ◌%◌, eqb, leb, ltb, length, get_or, drop, set}
use Rattle.std.specs.Option.{option_map_or}
use Prim.Native.Char.{code}
use Rattle.network.specs.Sizes.{queues}
use Rattle.sheet.specs.Text.{lf}
use Rattle.sheet.specs.Commands.{up_to, ten, value, is_number}
use Rattle.waveform.specs.declared.ValueLine.{ValueLine}
use Rattle.waveform.specs.declared.TimeStamp.{TimeStamp}
use Rattle.waveform.specs.declared.Names.{Names}
use Rattle.waveform.specs.Dump.{most_variables, variables_begin, variables_end, values_begin, values_end, variable_line, variable_lines, Change, two}

-- a field that the byte `stop` ends: whether it does, and what stands behind it
abbrev pub is_ended : ℕ → List ℕ → Bool
is_ended stop bs = ltb (length (up_to stop bs)) (length bs)

abbrev pub behind : ℕ → List ℕ → List ℕ
behind stop bs = drop (suc (length (up_to stop bs))) bs

-- R404: "#", the time, LF
abbrev pub largest_time : ℕ
largest_time = 18446744073709551615

unfoldable pub is_stamp : List ℕ → Bool
is_stamp bs = eqb (get_or bs 0 0) (code "#") && (is_ended lf (drop 1 bs) && is_number ten largest_time (up_to lf (drop 1 bs)))

unfoldable pub read_stamp : List ℕ → Option TimeStamp
read_stamp bs =
    cond (is_stamp bs)
    (Some (record { time = value ten (up_to lf (drop 1 bs)); length = length (up_to lf (drop 1 bs)) + 2 }))
    None

-- R405: "b", the fill in binary, a blank, the variable, LF
abbrev pub largest_fill : ℕ
largest_fill = 255

abbrev pub blank : ℕ
blank = code " "

abbrev pub fill_field : List ℕ → List ℕ
fill_field bs = up_to blank (drop 1 bs)

abbrev pub variable_field : List ℕ → List ℕ
variable_field bs = up_to lf (behind blank (drop 1 bs))

unfoldable pub is_value_line : List ℕ → Bool
is_value_line bs =
    eqb (get_or bs 0 0) (code "b")
    && (is_ended blank (drop 1 bs)
    && (is_number two largest_fill (fill_field bs)
    && (is_ended lf (behind blank (drop 1 bs)) && is_number ten (most_variables - 1) (variable_field bs))))

unfoldable pub read_value : List ℕ → Option ValueLine
read_value bs =
    cond (is_value_line bs)
    (Some
    (record {
      variable = value ten (variable_field bs);
      fill = value two (fill_field bs);
      length = length (fill_field bs) + length (variable_field bs) + 3;
    }))
    None

-- the same, if the variable is `least` or a later one
abbrev pub not_before : ℕ → ValueLine → Option ValueLine
not_before least l = cond (leb least l.variable) (Some l) None

unfoldable pub next_value : ℕ → List ℕ → Option ValueLine
next_value least bs = option_and_then (not_before least) (read_value bs)

-- R408: value lines one after another, their variables rising from `from` on, as far as they go
pub record ValueRun : Type 0 where
  pub changes : List Change
  pub length : ℕ

unfoldable pub one_more : ValueLine → ValueRun → ValueRun
one_more l r = record { changes = record { variable = l.variable; fill = l.fill } ∷ r.changes; length = l.length + r.length }

abbrev pub no_run : ValueRun
no_run = record { changes = []; length = 0 }

-- `lines` bounds how many there are
unfoldable pub run_within : ℕ → ℕ → List ℕ → ValueRun
run_within zero from bs = no_run
run_within (suc lines) from bs = option_map_or (λ l. one_more l (run_within lines (suc l.variable) (drop l.length bs))) (next_value from bs) no_run

unfoldable pub value_run : List ℕ → ValueRun
value_run bs = run_within (length bs) 0 bs

-- the fixed bytes stand at the start
unfoldable pub starts_with : List ℕ → List ℕ → Bool
starts_with [] bs = true
starts_with (x ∷ xs) [] = false
starts_with (x ∷ xs) (b ∷ bs) = eqb x b && starts_with xs bs

-- R403: how many variables there are when the lines from number i on are counted too, at most `more` of them
unfoldable pub variables_from : ℕ → ℕ → List ℕ → ℕ
variables_from zero i bs = i
variables_from (suc more) i bs = cond (starts_with (variable_line i) bs) (variables_from more (suc i) (drop (length (variable_line i)) bs)) i

-- R402, R403: the header up to its time stamp: whole nodes, one at least
abbrev pub variables_in : List ℕ → ℕ
variables_in bs = variables_from most_variables 0 (drop (length variables_begin) bs)

abbrev pub behind_variables : List ℕ → ℕ
behind_variables bs = length variables_begin + length (variable_lines 0 (variables_in bs))

unfoldable pub are_names : List ℕ → Bool
are_names bs =
    starts_with variables_begin bs
    && (not (eqb (variables_in bs) 0) && (eqb (variables_in bs % queues) 0 && starts_with variables_end (drop (behind_variables bs) bs)))

unfoldable pub read_names : List ℕ → Option Names
read_names bs = cond (are_names bs) (Some (record { count = variables_in bs; length = behind_variables bs + length variables_end })) None

-- R415: a step: whether it is one, its kind, its time, and the changes that it tells
pub record Step : Type 0 where
  pub good : Bool
  pub header : Bool
  pub time : ℕ
  pub changes : List Change

-- R418: how long a list has to be for changes: the last variable, counted from 1; `least` where there are none
unfoldable pub needed_from : ℕ → List Change → ℕ
needed_from least [] = least
needed_from least (c ∷ cs) = needed_from (suc c.variable) cs

abbrev pub needed : List Change → ℕ
needed cs = needed_from 0 cs

abbrev pub no_step : Step
no_step = record { good = false; header = false; time = 0; changes = [] }

-- a later step: a time stamp, and values to the end
unfoldable pub later_step : TimeStamp → List ℕ → Step
later_step s rest =
    record {
      good = eqb (value_run rest).length (length rest);
      header = false;
      time = s.time;
      changes = (value_run rest).changes;
    }

unfoldable pub read_later : List ℕ → Step
read_later bs = option_map_or (λ s. later_step s (drop s.length bs)) (read_stamp bs) no_step

-- the run tells every variable, and "$end" ends it and the step
unfoldable pub tells_all : ℕ → List ℕ → Bool
tells_all count bs =
    eqb (length (value_run bs).changes) count
    && (eqb (needed (value_run bs).changes) count
    && (starts_with values_end (drop (value_run bs).length bs) && eqb ((value_run bs).length + length values_end) (length bs)))

-- a header: names, a time stamp, and a value for each variable in `$dumpvars`
unfoldable pub header_step : Names → TimeStamp → List ℕ → Step
header_step n s rest =
    record {
      good = starts_with values_begin rest && tells_all n.count (drop (length values_begin) rest);
      header = true;
      time = s.time;
      changes = (value_run (drop (length values_begin) rest)).changes;
    }

-- `behind` is what stands behind the names
unfoldable pub read_stamped : Names → List ℕ → Step
read_stamped n behind = option_map_or (λ s. header_step n s (drop s.length behind)) (read_stamp behind) no_step

unfoldable pub read_header : List ℕ → Step
read_header bs = option_map_or (λ n. read_stamped n (drop n.length bs)) (read_names bs) no_step

unfoldable pub read_step : List ℕ → Step
read_step bs = cond (eqb (get_or bs 0 0) (code "#")) (read_later bs) (read_header bs)

-- R416: the list with the changes in it
unfoldable pub applied : List Change → List ℕ → List ℕ
applied [] list = list
applied (c ∷ cs) list = applied cs (set list c.variable c.fill)
