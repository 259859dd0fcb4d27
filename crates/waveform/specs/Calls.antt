-- R411 to R420: what the calls that write and read a step answer, and what they leave on the page and in the lists. `w` is the words, `list` the list of
-- fills and `page` the page at the call. Order: the writer; the reader; the number and the values of an answer. Assumes nothing.
use Rattle.std.specs.Prelude.{Bool, not, cond, ◌||◌, List, ◌++◌, ℕ, ltb, length, drop, Ok, Err}
use Rattle.network.specs.Layout.{shape, moves_made}
use Rattle.network.specs.Refusals.{network_refusal, refuse, else_by, bad_line, short_page}
use Rattle.network.specs.Calls.{Answer, unless_refused}
use Rattle.waveform.specs.declared.StepRead.{StepRead}
use Rattle.waveform.specs.Dump.{variables_of, fills, step_bytes}
use Rattle.waveform.specs.Reading.{Step, read_step, needed, applied}

-- WriteHeader and WriteChanges (R411 to R414); `first` is true of the header ---------------------------------------------------------------

-- the fills of the words, and the bytes of their step
abbrev pub fills_now : List ℕ → List ℕ
fills_now w = fills (shape w) w

unfoldable pub written_step : Bool → List ℕ → List ℕ → List ℕ
written_step first w list = step_bytes first (moves_made w) (fills_now w) list

-- R413: the network's own refusals, then 15
unfoldable pub write_rules : Bool → List ℕ → List ℕ → List ℕ → ℕ
write_rules first w list page =
    refuse (ltb (length list) (variables_of (shape w)) || ltb (length page) (length (written_step first w list))) short_page 0

unfoldable pub write_refusal : Bool → List ℕ → List ℕ → List ℕ → ℕ
write_refusal first w list page = else_by (network_refusal w) (write_rules first w list page)

unfoldable pub write_answer : Bool → List ℕ → List ℕ → List ℕ → Answer ℕ
write_answer first w list page =
    unless_refused (write_refusal first w list page) (Ok (length (written_step first w list))) (Err (write_refusal first w list page))

-- R411, R412, R414: the step, and behind it the page as it was; the fills, and behind them the list as it was
unfoldable pub write_page : Bool → List ℕ → List ℕ → List ℕ → List ℕ
write_page first w list page =
    unless_refused (write_refusal first w list page) (written_step first w list ++ drop (length (written_step first w list)) page) page

unfoldable pub write_list : Bool → List ℕ → List ℕ → List ℕ → List ℕ
write_list first w list page = unless_refused (write_refusal first w list page) (fills_now w ++ drop (variables_of (shape w)) list) list

-- ReadStep (R415 to R420) -----------------------------------------------------------------------------------------------------------------

-- R417, R418
unfoldable pub read_refusal : List ℕ → List ℕ → ℕ
read_refusal bytes list = refuse (not (read_step bytes).good) bad_line (refuse (ltb (length list) (needed (read_step bytes).changes)) short_page 0)

-- R415
unfoldable pub step_told : Step → StepRead
step_told s = cond s.header (StepRead.Header s.time (length s.changes)) (StepRead.Later s.time (length s.changes))

unfoldable pub read_answer : List ℕ → List ℕ → Answer StepRead
read_answer bytes list = unless_refused (read_refusal bytes list) (Ok (step_told (read_step bytes))) (Err (read_refusal bytes list))

-- R416
unfoldable pub read_list : List ℕ → List ℕ → List ℕ
read_list bytes list = unless_refused (read_refusal bytes list) (applied (read_step bytes).changes list) list

-- R321: the number and the values of each answer, case by case; 0 for a value where the call is refused ------------------------------------

unfoldable pub written_number : Answer ℕ → ℕ
written_number (Err r) = r
written_number (Ok n) = 0

unfoldable pub written_length : Answer ℕ → ℕ
written_length (Err r) = 0
written_length (Ok n) = n

unfoldable pub read_number : Answer StepRead → ℕ
read_number (Err r) = r
read_number (Ok s) = 0

unfoldable pub read_time : Answer StepRead → ℕ
read_time (Err r) = 0
read_time (Ok (StepRead.Header time named)) = time
read_time (Ok (StepRead.Later time named)) = time

unfoldable pub read_named : Answer StepRead → ℕ
read_named (Err r) = 0
read_named (Ok (StepRead.Header time named)) = named
read_named (Ok (StepRead.Later time named)) = named

-- 1 for a header
unfoldable pub read_headers : Answer StepRead → ℕ
read_headers (Err r) = 0
read_headers (Ok (StepRead.Header time named)) = 1
read_headers (Ok (StepRead.Later time named)) = 0
