-- How long the lines of an answer are at most, for a caller who lends the buffer. Order: a line of a letter and a number; a packet's; packets'; a
-- delivery's; a Drain's. Assumes nothing.
use Rattle.std.specs.Prelude.{List, [], ◌∷◌, ◌++◌, ℕ, suc, ◌*◌, ◌^◌, ◌<◌, ◌≤◌, length, get_or}
use Rattle.std.proofs.Common.{arith, length-append}
use Rattle.network.specs.declared.Stop.{Stop}
use Rattle.network.specs.Packet.{tag, destination}
use Rattle.network.proofs.PacketLaws.{tag-within, destination-within}
use Rattle.sheet.specs.Commands.{ten}
use Rattle.sheet.specs.Output.{decimal, fields_and_end, line, answer_line, packet_line, packet_lines, stop_word, stopped_line, answer_room, packet_room, moved_room, drain_room}
use Rattle.sheet.proofs.Numerals.{numeral-length}

pub answer-length : (letter n : ℕ) → n < 2 ^ 64 → length (answer_line letter n) ≤ answer_room
unfolding answer_line line fields_and_end
answer-length letter n h =
    let d : length (decimal n) ≤ 20 = numeral-length ten (omega arith) 19 n (omega arith) in
    simp length-append (omega arith)

pub packet-length : (p : ℕ) → p < 2 ^ 64 → length (packet_line p) ≤ packet_room
unfolding packet_line line fields_and_end
packet-length p h =
    let t : length (decimal (tag p)) ≤ 10 = numeral-length ten (omega arith) 9 (tag p) (let l = tag-within p h in omega arith) in
    let d : length (decimal (destination p)) ≤ 5 = numeral-length ten (omega arith) 4 (destination p) (let l = destination-within p in omega arith) in
    simp length-append (omega arith)

pub packets-length : (ps : List ℕ) → ((i : ℕ) → get_or ps i 0 < 2 ^ 64) → length (packet_lines ps) ≤ packet_room * length ps
unfolding packet_lines
packets-length [] h = omega arith
packets-length (p ∷ ps) h =
    let one = packet-length p (h 0) in
    let more = packets-length ps (λ i. h (suc i)) in
    simp length-append (omega arith)

-- what a Move that delivers prints
pub delivery-length : (letter p : ℕ) → p < 2 ^ 64 → length (packet_line p ++ answer_line letter 0) ≤ moved_room
delivery-length letter p h =
    let a = packet-length p h in
    let b = answer-length letter 0 (omega arith) in
    simp length-append (omega arith)

stop-length : (s : Stop) → length (stop_word s) ≤ 7
unfolding stop_word
stop-length Stop.Emptied = omega arith
stop-length Stop.Spent = omega arith
stop-length Stop.Full = omega arith

pub stopped-length : (moves : ℕ) (stop : Stop) → moves < 2 ^ 64 → length (stopped_line moves stop) ≤ drain_room
unfolding stopped_line line fields_and_end
stopped-length moves stop h =
    let s = stop-length stop in
    let d : length (decimal moves) ≤ 20 = numeral-length ten (omega arith) 19 moves (omega arith) in
    let z : length (decimal 0) ≤ 1 = numeral-length ten (omega arith) 0 0 (omega arith) in
    simp length-append (omega arith)
