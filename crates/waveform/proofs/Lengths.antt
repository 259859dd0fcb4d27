-- How long the lines and the steps of a dump are. Order: a line; lines one after another; a step, and a page that is never too short for one. Assumes nothing.
use Rattle.std.specs.Prelude.{◌≡◌, refl, Bool, true, false, List, ℕ, zero, suc, ◌+◌, ◌*◌, ◌/◌, ◌%◌, ◌^◌, ◌<◌, ◌≤◌, length, get_or}
use Rattle.std.proofs.Common.{ap, ◌∙◌, arith, length-append}
use Rattle.network.specs.Sizes.{queues}
use Rattle.network.specs.Layout.{shape, moves_made}
use Rattle.network.specs.Refusals.{network_refusal}
use Rattle.sheet.specs.Commands.{ten}
use Rattle.sheet.specs.Output.{numeral, decimal}
use Rattle.sheet.proofs.Numerals.{numeral-length}
use Rattle.waveform.specs.Dump.{variables_of, most_variables, variable_line, variable_lines, stamp_line, Change, two, value_line, value_lines, tells, changes_to, changes, step_bytes}
use Rattle.waveform.specs.Reading.{largest_fill}
use Rattle.waveform.specs.Calls.{fills_now, written_step}
use Rattle.waveform.specs.DumpLaws.{change_at}
use Rattle.waveform.proofs.DumpLaws.{fills-length, fill-most, variables-most, time-most, lines-told, lines-untold}
use Rattle.waveform.specs.Lengths.{variable_room, value_room, page_room}

pub stamp-length : (time : ℕ) → length (stamp_line time) ≡ length (decimal time) + 2
unfolding stamp_line
stamp-length time = simp length-append (omega arith)

pub value-length : (c : Change) → length (value_line c) ≡ length (numeral two c.fill) + length (decimal c.variable) + 3
unfolding value_line
value-length c = simp length-append (omega arith)

pub variable-length : (i : ℕ) → length (variable_line i) ≡ 21 + length (decimal i) + length (decimal (i / queues)) + length (decimal (i % queues))
unfolding variable_line
variable-length i = simp length-append (omega arith)

-- a number of a word has few digits
pub decimal-digits : (n : ℕ) → n < 2 ^ 64 → length (decimal n) ≤ 20
decimal-digits n h = numeral-length ten (omega arith) 19 n (omega arith)

pub binary-digits : (n : ℕ) → n ≤ largest_fill → length (numeral two n) ≤ 8
binary-digits n h = numeral-length two (omega arith) 7 n (omega arith)

pub variable-room : (i : ℕ) → i < most_variables → length (variable_line i) ≤ variable_room
variable-room i h =
    let l = variable-length i in
    let a : length (decimal i) ≤ 5 = numeral-length ten (omega arith) 4 i (omega arith) in
    let b : length (decimal (i / queues)) ≤ 4 = numeral-length ten (omega arith) 3 (i / queues) (omega arith) in
    let c : length (decimal (i % queues)) ≤ 2 = numeral-length ten (omega arith) 1 (i % queues) (omega arith) in
    omega arith

pub value_line_room : (c : Change) → c.variable < most_variables → c.fill ≤ largest_fill → length (value_line c) ≤ value_room
value_line_room c h f =
    let l = value-length c in
    let a : length (decimal c.variable) ≤ 5 = numeral-length ten (omega arith) 4 c.variable (omega arith) in
    let b = binary-digits c.fill f in
    omega arith

pub variables-room : (i count : ℕ) → i + count ≤ most_variables → length (variable_lines i count) ≤ variable_room * count
unfolding variable_lines
variables-room i zero h = omega arith
variables-room i (suc count) h =
    let a = variable-room i (omega arith) in
    let b = variables-room (suc i) count (omega arith) in
    let l = length-append (variable_line i) (variable_lines (suc i) count) in
    omega arith

-- the values of the first variables, whose fills are as small as a byte
pub values-room : (every : Bool) (counts list : List ℕ) (i : ℕ) → i ≤ most_variables → ((j : ℕ) → j < i → get_or counts j 0 ≤ largest_fill)
    → length (value_lines (changes_to every counts list i)) ≤ value_room * i
unfolding changes_to value_lines
values-room every counts list zero h small = omega arith
values-room every counts list (suc i) h small =
    go (tells every counts list i) refl (values-room every counts list i (omega arith) (λ j l. small j (omega arith)))
  where
    go : (b : Bool) → tells every counts list i ≡ b → length (value_lines (changes_to every counts list i)) ≤ value_room * i
        → length (value_lines (changes_to every counts list (suc i))) ≤ value_room * suc i
    go true e r =
        let v = value_line_room (change_at counts i) (omega arith) (small i (omega arith)) in
        let l : length (value_lines (changes_to every counts list (suc i))) ≡ length (value_lines (changes_to every counts list i)) + length (value_line (change_at counts i))
        = ap length (lines-told every counts list i e) ∙ length-append (value_lines (changes_to every counts list i)) (value_line (change_at counts i)) in
        omega arith
    go false e r =
        let l : length (value_lines (changes_to every counts list (suc i))) ≡ length (value_lines (changes_to every counts list i))
        = ap length (lines-untold every counts list i e) in
        omega arith

-- the bytes of a header that are not of its variables
pub header-length : (time : ℕ) (counts list : List ℕ)
    → length (step_bytes true time counts list)
    ≡ 98 + length (variable_lines 0 (length counts)) + (length (stamp_line time) + length (value_lines (changes true counts list)))
unfolding step_bytes
header-length time counts list = simp length-append (omega arith)

pub later-length : (time : ℕ) (counts list : List ℕ)
    → length (step_bytes false time counts list) ≡ length (stamp_line time) + length (value_lines (changes false counts list))
unfolding step_bytes
later-length time counts list = length-append (stamp_line time) (value_lines (changes false counts list))

pub step_room : (first : Bool) (w list : List ℕ) → network_refusal w ≡ 0 → length (written_step first w list) ≤ page_room (variables_of (shape w))
unfolding written_step changes
step_room first w list e = go first
  where
    n : length (fills_now w) ≡ variables_of (shape w)
    n = fills-length (shape w) w

    values : (every : Bool) → length (value_lines (changes every (fills_now w) list)) ≤ value_room * length (fills_now w)
    values every =
        let most = variables-most w e in
        values-room every (fills_now w) list (length (fills_now w)) (let l = n in omega arith) (λ j h. fill-most w e j (let l = n in omega arith))

    stamp : length (stamp_line (moves_made w)) ≤ 22
    stamp =
        let l = stamp-length (moves_made w) in
        let d = decimal-digits (moves_made w) (let t = time-most w e in omega arith) in
        omega arith

    go : (b : Bool) → length (step_bytes b (moves_made w) (fills_now w) list) ≤ page_room (variables_of (shape w))
    go true =
        let most = variables-most w e in
        let h = header-length (moves_made w) (fills_now w) list in
        let a = variables-room 0 (length (fills_now w)) (let l = n in omega arith) in
        let v = values true in
        let s = stamp in
        let l = n in
        omega arith
    go false =
        let h = later-length (moves_made w) (fills_now w) list in
        let v = values false in
        let s = stamp in
        let l = n in
        omega arith
