-- Whole sheets, input and output, computed from the definitions: the worked example (R257); every letter that is printed; a packet moved by hand; the last
-- network that the store has words for, with one that needs a word more (R251). Then single commands, which the edits of the others leave as they are; and a D
-- that fills its ledger (R246). Assumes nothing.
use Rattle.std.specs.Prelude.{◌≡◌, refl, [], ◌∷◌, ◌+◌, ◌*◌, ◌^◌, take, drop}
use Rattle.network.specs.Calls.{drained_delivered}
use Rattle.network.specs.ByHand.{definitions}
use Rattle.sheet.specs.declared.Command.{Command}
use Rattle.sheet.specs.Text.{text}
use Rattle.sheet.specs.Lines.{without_cr, last_line, lines_from, lines}
use Rattle.sheet.specs.Commands.{up_to, later_fields, is_digit, value_from, value, no_leading_zero, is_number, command_with, well_formed, command_of}
use Rattle.sheet.specs.Output.{numeral_within, numeral, fields_and_end, line, bad_line_answer, answer_line, packet_line, packet_lines, moved_lines, stop_word, stopped_line, drain_line, drained_lines}
use Rattle.session.specs.Session.{perform, perform_all, sheet_output}
use Rattle.session.specs.Listing.{two-nodes, one-waiting, sixty-five}

-- what a sheet is computed with, to be unfolded by one name
computed : Unit {0}
unfolding definitions without_cr last_line lines_from lines up_to later_fields is_digit value_from value no_leading_zero is_number command_with well_formed command_of numeral_within numeral fields_and_end line bad_line_answer answer_line packet_line packet_lines moved_lines stop_word stopped_line drain_line drained_delivered drained_lines perform perform_all sheet_output
computed = tt

pub listing : sheet_output (text "T,4,1,1,2,1,1\nO,0,2,7,1\nO,0,1,8,1\nM,0,0,7\nM,1,7,0\nD,10\n")
    ≡ text "T,0\r\nO,0\r\nO,7\r\nM,0\r\nM,10\r\nP,7,2\r\nD,0,2,emptied\r\n"
unfolding computed
listing = refl

-- R248, R253 to R256: a D before any T, whose sizes are 0; a line that is none; in a network of two nodes a packet that waits, makes its hop, and is delivered by
-- hand
pub every-letter : sheet_output (text "D,1\nx\nT,2,1,1,2,1,1\nO,0,1,7,1\nD,0\nD,1\nM,1,1,0\nD,1\n")
    ≡ text "D,2\r\n?,13\r\nT,0\r\nO,0\r\nD,0,0,spent\r\nD,0,1,spent\r\nP,7,1\r\nM,0\r\nD,0,0,emptied\r\n"
unfolding computed
every-letter = refl

-- R47, R251: 7 × 7 nodes of 13 + 6 + 96 + 48 = 163 words need 9 + 49 × 163 = 7996; 6 × 6 × 3 nodes of 13 + 1 + 48 + 12 = 74 words need 9 + 108 × 74 = 8001.
-- No network needs 7997 to 8000 words
pub last-that-fits : sheet_output (text "T,7,7,1,8,2,6\nT,6,6,3,2,1,1\n") ≡ text "T,0\r\nT,1\r\n"
unfolding computed
last-that-fits = refl

-- R244, R245: of two nodes, a packet that is offered at node 0 for node 1 with tag 9, three chunks, moved to the escape queue x+ and delivered there
pub moved-by-hand : sheet_output (text "T,2,1,1,2,1,1\nO,0,1,9,3\nM,0,0,7\nM,1,7,0\n") ≡ text "T,0\r\nO,0\r\nM,0\r\nP,9,1\r\nM,0\r\n"
unfolding computed
moved-by-hand = refl

-- R244, R253: an O prints its letter, and the refusal of its chunks
pub offer-printed : (perform (Command.Offer 0 1 9 5) two-nodes).output ≡ text "O,0\r\n"
unfolding computed
offer-printed = refl

pub chunks-refused : (perform (Command.Offer 0 1 9 9) two-nodes).output ≡ text "O,2\r\n"
unfolding computed
chunks-refused = refl

-- R244: behind the nine words of the header stand the number held and the packet: tag 9, five chunks, destination 1, one hop along x
pub packet-offered : take 2 (drop 9 (perform (Command.Offer 0 1 9 5) two-nodes).store) ≡ 1 ∷ (9 * 2 ^ 32 + 4 * 2 ^ 28 + 1 * 2 ^ 16 + 1 * 2 ^ 10) ∷ []
unfolding computed
packet-offered = refl

-- R245: from queue 0 to queue 7; no packet waits in queue 7
pub move-printed : (perform (Command.Move 0 0 7) one-waiting).output ≡ text "M,0\r\n"
unfolding computed
move-printed = refl

-- R248
pub bad-printed : (perform Command.Bad one-waiting).output ≡ text "?,13\r\n"
unfolding computed
bad-printed = refl

-- a D prints 64 lines of 7 bytes, `P,7,0` and `P,7,1` with their ends; then its ledger is full
pub ledger-of-64 : drop 448 (perform (Command.Drain 99) sixty-five).output ≡ text "D,0,64,full\r\n"
unfolding computed
ledger-of-64 = refl
