-- R417: the reader takes nothing but the subset. Order: the bytes of a step; what holds of its time and its changes; the theorem; then its proof: bytes that
-- begin with others; a byte and a field; a time stamp; a value line; value lines one after another; the header's names; its values; a step. Assumes nothing.
use Rattle.std.specs.Prelude.{◌≡◌, Bool, true, false, List, [], ◌∷◌, ◌++◌, ℕ, suc, ◌+◌, ◌%◌, ◌≤◌, length, drop}
use Rattle.network.specs.Sizes.{queues}
use Rattle.waveform.specs.declared.ValueLine.{ValueLine}
use Rattle.waveform.specs.declared.TimeStamp.{TimeStamp}
use Rattle.waveform.specs.declared.Names.{Names}
use Rattle.waveform.specs.Dump.{most_variables, values_end, variable_lines, stamp_line, Change, value_line, value_lines}
use Rattle.waveform.specs.Reading.{largest_time, ValueRun, Step, read_step}
use Rattle.waveform.specs.ReadingLaws.{Small, Rising, names_of, header_of}

-- the bytes of a step, a header or a later one, with this time and these changes
unfoldable pub bytes_of : Bool → ℕ → List Change → List ℕ
bytes_of true time cs = header_of (length cs) time cs
bytes_of false time cs = stamp_line time ++ value_lines cs

-- the changes are of one variable after another, from number i on
unfoldable pub OneByOne : ℕ → List Change → Type 0
OneByOne i [] = Unit
OneByOne i (c ∷ cs) = (c.variable ≡ i) × OneByOne (suc i) cs

-- R402, R403: the variables are those of whole nodes, one at least and not too many, and each of them is told, in order
pub record AllTold (cs : List Change) : Type 0 where
  pub some : 1 ≤ length cs
  pub few : length cs ≤ most_variables
  pub whole : length cs % queues ≡ 0
  pub ordered : OneByOne 0 cs

-- R404, R405, R408: the bytes are this step's; its time is not too large; its variables rise, and neither they nor their fills are too large; a header
-- tells every variable
pub record StepIn (bs : List ℕ) (s : Step) : Type 0 where
  pub bytes : bs ≡ bytes_of s.header s.time s.changes
  pub early : s.time ≤ largest_time
  pub rising : Rising 0 s.changes
  pub all : s.header ≡ true → AllTold s.changes

-- R417: bytes that the reader takes are, from the first to the last, those of the step that it makes of them, and that is a step of the subset
unfoldable pub OnlySteps : Type 0
OnlySteps = (bs : List ℕ) → (read_step bs).good ≡ true → StepIn bs (read_step bs)

-- It is proved from here on --------------------------------------------------------------------------------------------

-- the first n bytes are these
abbrev pub Begins : List ℕ → List ℕ → ℕ → Type 0
Begins bs xs n = bs ≡ xs ++ drop n bs

-- R404: a time stamp
pub record IsStamp (bs : List ℕ) (s : TimeStamp) : Type 0 where
  pub begins : Begins bs (stamp_line s.time) s.length
  pub early : s.time ≤ largest_time

-- R405: a value line
abbrev pub change_of : ValueLine → Change
change_of l = record { variable = l.variable; fill = l.fill }

pub record IsValue (bs : List ℕ) (l : ValueLine) : Type 0 where
  pub begins : Begins bs (value_line (change_of l)) l.length
  pub small : Small (change_of l)

-- R408: value lines one after another
pub record IsRun (from : ℕ) (bs : List ℕ) (r : ValueRun) : Type 0 where
  pub begins : Begins bs (value_lines r.changes) r.length
  pub rising : Rising from r.changes

-- R403: lines of variables from number i on, as far as they are counted
pub record Counted (more i : ℕ) (bs : List ℕ) (n : ℕ) : Type 0 where
  pub count : ℕ
  pub is : n ≡ i + count
  pub few : count ≤ more
  pub begins : Begins bs (variable_lines i count) (length (variable_lines i count))

-- R402, R403: the header up to its time stamp
pub record IsNames (bs : List ℕ) (n : Names) : Type 0 where
  pub begins : bs ≡ names_of n.count (drop n.length bs)
  pub some : 1 ≤ n.count
  pub few : n.count ≤ most_variables
  pub whole : n.count % queues ≡ 0

-- R407: the values of a header, to the end
pub record AreValues (count : ℕ) (bs : List ℕ) (cs : List Change) : Type 0 where
  pub bytes : bs ≡ value_lines cs ++ values_end
  pub long : count ≡ length cs
  pub rising : Rising 0 cs
  pub ordered : OneByOne 0 cs
