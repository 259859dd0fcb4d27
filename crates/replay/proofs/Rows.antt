-- Kept rows: whole sheets and the bytes of their dumps, worked out by hand from docs/RULES.md and computed from the definitions. A must-fail edit of a
-- definition names the row that it breaks. Order: what the rows are computed with; a dump; its start; the next dump; single lines. Assumes nothing.
use Rattle.std.specs.Prelude.{◌≡◌, refl, [], take, drop}
use Rattle.network.specs.Calls.{drained_moves, drained_delivered}
use Rattle.network.specs.ByHand.{definitions}
use Rattle.sheet.specs.declared.Command.{Command}
use Rattle.sheet.specs.Text.{text}
use Rattle.sheet.specs.Lines.{without_cr, last_line, lines_from, lines}
use Rattle.sheet.specs.Commands.{up_to, later_fields, is_digit, value_from, value, no_leading_zero, is_number, command_with, well_formed, command_of}
use Rattle.sheet.specs.Output.{numeral_within, numeral}
use Rattle.session.specs.Session.{perform}
use Rattle.waveform.specs.Dump.{fills_to, fills, variable_line, variable_lines, stamp_line, value_line, value_lines, tells, changes_to, changes, step_bytes}
use Rattle.replay.specs.Replay.{carried_out, changed, begins_dump, moves_asked, one_word, moved_on, makes_move, room_left, step_behind, command_bytes, move_bytes, moves_bytes, dump_all, sheet_dump}
use Rattle.replay.specs.Rows.{sheet, two-dumps, one-waiting}

-- to be unfolded by one name
computed : Unit {0}
unfolding definitions drained_moves drained_delivered without_cr last_line lines_from lines up_to later_fields is_digit value_from value no_leading_zero is_number command_with well_formed command_of numeral_within numeral perform fills_to fills variable_line variable_lines stamp_line value_line value_lines tells changes_to changes step_bytes carried_out changed begins_dump moves_asked one_word moved_on makes_move room_left step_behind command_bytes move_bytes moves_bytes dump_all sheet_dump
computed = tt

-- R423: behind the header a step for the O that is taken, at which queue 0 of node 0 holds one packet; and one for each of the two moves of the D: the hop
-- to queue 1 of node 1, which is variable 14, and the delivery
pub steps-of-a-sheet : drop 893 (sheet_dump sheet) ≡ text "#0\nb1 0\n#1\nb0 0\nb1 14\n#2\nb0 14\n"
unfolding computed
steps-of-a-sheet = refl

-- R424: a T that is answered 0 begins with a header, whose values are all 0; its last lines are those of queues 11 and 12 of node 1, and the end
pub dump-begun : (take 21 (sheet_dump sheet) ≡ text "$timescale 1 ns $end\n") × (take 17 (drop 876 (sheet_dump sheet)) ≡ text "b0 24\nb0 25\n$end\n")
unfolding computed
dump-begun = (refl, refl)

pub next-dump : (take 21 (drop 893 (sheet_dump two-dumps)) ≡ text "$timescale 1 ns $end\n") × (drop 1786 (sheet_dump two-dumps) ≡ [])
unfolding computed
next-dump = (refl, refl)

pub offer-refused : (command_bytes (Command.Offer 0 1 8 1) one-waiting ≡ []) × (command_bytes (Command.Offer 1 0 8 9) one-waiting ≡ [])
unfolding computed
offer-refused = (refl, refl)

pub make-refused : command_bytes (Command.Make 2 1 1 1 1 1) one-waiting ≡ []
unfolding computed
make-refused = refl
