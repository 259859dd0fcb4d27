-- Laws of what the reader makes of bytes: of a step's bytes it makes that step. Order: a field that holds a number; a time stamp; a value line; value lines
-- one after another; the changes of a step; what they leave in a list; the header's names; a step. Assumes nothing.
use Rattle.std.specs.Prelude.{◌≡◌, Bool, true, List, [], ◌∷◌, ◌++◌, ℕ, suc, ◌+◌, ◌%◌, ◌<◌, ◌≤◌, length, get_or}
use Rattle.network.specs.Sizes.{queues}
use Rattle.sheet.specs.Commands.{up_to, value, is_number}
use Rattle.sheet.specs.Output.{numeral}
use Rattle.waveform.specs.declared.ValueLine.{ValueLine}
use Rattle.waveform.specs.Dump.{most_variables, variables_begin, variables_end, values_begin, values_end, variable_lines, stamp_line, Change, value_line, value_lines}
use Rattle.waveform.specs.Reading.{is_ended, behind, largest_time, largest_fill, ValueRun, Step}

-- bytes that begin with a field, which the byte `stop` ends and which holds the number n; behind it stands `rest`
pub record Field (base stop most : ℕ) (bs : List ℕ) (n : ℕ) (rest : List ℕ) : Type 0 where
  pub ended : is_ended stop bs ≡ true
  pub number : is_number base most (up_to stop bs) ≡ true
  pub tells : value base (up_to stop bs) ≡ n
  pub long : length (up_to stop bs) ≡ length (numeral base n)
  pub leaves : behind stop bs ≡ rest

-- the fill and the variable are not too large to be told
pub record Small (c : Change) : Type 0 where
  pub variable : c.variable < most_variables
  pub fill : c.fill ≤ largest_fill

abbrev pub line_of : Change → ValueLine
line_of c = record { variable = c.variable; fill = c.fill; length = length (value_line c) }

-- R408: changes whose variables rise from `from` on
unfoldable pub Rising : ℕ → List Change → Type 0
Rising from [] = Unit
Rising from (c ∷ cs) = Small c × (from ≤ c.variable) × Rising (suc c.variable) cs

abbrev pub before : Change → ValueRun → ValueRun
before c r = record { changes = c ∷ r.changes; length = length (value_line c) + r.length }

abbrev pub ran : List Change → ValueRun
ran cs = record { changes = cs; length = length (value_lines cs) }

-- the header up to its time stamp, of so many variables
abbrev pub names_of : ℕ → List ℕ → List ℕ
names_of count rest = variables_begin ++ (variable_lines 0 count ++ (variables_end ++ rest))

abbrev pub names_length : ℕ → ℕ
names_length count = length variables_begin + length (variable_lines 0 count) + length variables_end

-- R415: a later step
abbrev pub step_of : Bool → ℕ → List Change → Step
step_of header time cs = record { good = true; header = header; time = time; changes = cs }

abbrev pub header_of : ℕ → ℕ → List Change → List ℕ
header_of count time cs = names_of count (stamp_line time ++ (values_begin ++ (value_lines cs ++ values_end)))

-- what a step tells is small enough to be told, and of whole nodes
pub record Tellable (time : ℕ) (counts : List ℕ) : Type 0 where
  pub some : 1 ≤ length counts
  pub few : length counts ≤ most_variables
  pub whole : length counts % queues ≡ 0
  pub fills : (j : ℕ) → j < length counts → get_or counts j 0 ≤ largest_fill
  pub early : time ≤ largest_time
