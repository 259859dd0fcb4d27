-- What the inner functions of the reader of a dump answer, in terms of the definitions of `waveform`, specs/Reading.antt. Nothing here has to be believed:
-- the contract of `read_step` does not name it. Order: a field; values one after another; the header's variables; a step.
-- Assumes nothing.
use Rattle.std.specs.Prelude.{◌≡◌, Bool, cond, ◌&&◌, Option, Some, None, is_some, List, ℕ, ◌+◌, ◌≤◌, length, drop}
use Rattle.std.specs.Option.{ForSome}
use Rattle.sheet.specs.Commands.{up_to, value, is_number}
use Rattle.sheet.specs.Fields.{end_from}
use Rattle.waveform.specs.Dump.{most_variables, variable_lines}
use Rattle.waveform.specs.Reading.{is_ended, value_run, needed, variables_from, Step, read_later, read_header, read_step}
use Rattle.dump_reader.specs.declared.Field.{Field}
use Rattle.dump_reader.specs.declared.ValueRun.{ValueRun}
use Rattle.dump_reader.specs.declared.Counted.{Counted}
use Rattle.dump_reader.specs.declared.Parsed.{Parsed}

-- the field that starts at a place
abbrev pub is_field : ℕ → ℕ → ℕ → List ℕ → Bool
is_field stop base most bs = is_ended stop bs && is_number base most (up_to stop bs)

unfoldable pub field_from : ℕ → ℕ → ℕ → List ℕ → ℕ → Option Field
field_from stop base most bs from =
    cond (is_field stop base most (drop from bs)) (Some (record { value = value base (up_to stop (drop from bs)); next = end_from stop bs from + 1 })) None

pub record RunOf (bs : List ℕ) (r : ValueRun) : Type 0 where
  pub named : r.named ≡ length (value_run bs).changes
  pub needed : r.needed ≡ needed (value_run bs).changes
  pub within : r.length ≤ length bs
  pub length : r.length ≡ (value_run bs).length

pub record CountedOf (bs : List ℕ) (start : ℕ) (r : Counted) : Type 0 where
  pub count : r.count ≡ variables_from most_variables 0 (drop start bs)
  pub end : r.end ≡ start + length (variable_lines 0 r.count)
  pub within : r.end ≤ length bs

-- a step, and its values from their place on
pub record IsStep (bs : List ℕ) (s : Step) (p : Parsed) : Type 0 where
  pub header : p.header ≡ s.header
  pub time : p.time ≡ s.time
  pub named : p.named ≡ length s.changes
  pub needed : p.needed ≡ needed s.changes
  pub values : (value_run (drop p.values bs)).changes ≡ s.changes
  pub within : p.values ≤ length bs

pub record ParsedOf (bs : List ℕ) (s : Step) (r : Option Parsed) : Type 0 where
  pub good : is_some r ≡ s.good
  pub step : ForSome r (IsStep bs s)

abbrev pub LaterOf : List ℕ → Option Parsed → Type 0
LaterOf bs r = ParsedOf bs (read_later bs) r

abbrev pub HeaderOf : List ℕ → Option Parsed → Type 0
HeaderOf bs r = ParsedOf bs (read_header bs) r

abbrev pub StepOf : List ℕ → Option Parsed → Type 0
StepOf bs r = ParsedOf bs (read_step bs) r
