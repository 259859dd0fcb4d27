-- R252 to R256 and R248: the bytes that are printed. Order: a number; a line of fields; the lines of each answer; where bytes are put.
-- Assumes nothing.
use Rattle.std.specs.Prelude.{◌≡◌, true, false, List, [], ◌∷◌, ◌++◌, ℕ, zero, suc, ◌+◌, ◌/◌, ◌%◌, ◌≤◌, ltb, length, take, drop, Option, None, Some, Ok, Err}
use Prim.Native.Char.{code}
use Rattle.network.specs.declared.Stop.{Stop}
use Rattle.network.specs.declared.Drained.{Drained}
use Rattle.network.specs.Packet.{tag, destination}
use Rattle.network.specs.Refusals.{bad_line}
use Rattle.network.specs.Calls.{drained_delivered, Answer, drain_of}
use Rattle.sheet.specs.Text.{text, comma, cr, lf}
use Rattle.sheet.specs.Commands.{ten}

-- R9, R247, in a base up to ten: the digits of the number divided by the base, if it has more than one, then the last one.
-- `digits` bounds how many there are, and n + 1 is always enough
unfoldable pub numeral_within : ℕ → ℕ → ℕ → List ℕ
numeral_within base zero n = []
numeral_within base (suc digits) n = elim (ltb n base) [ true ↦ [] | false ↦ numeral_within base digits (n / base) ] ++ ((code "0" + n % base) ∷ [])

unfoldable pub numeral : ℕ → ℕ → List ℕ
numeral base n = numeral_within base (suc n) n

abbrev pub decimal : ℕ → List ℕ
decimal n = numeral ten n

-- R252: a line of a first field and further ones
unfoldable pub fields_and_end : List (List ℕ) → List ℕ
fields_and_end [] = cr ∷ lf ∷ []
fields_and_end (field ∷ fields) = comma ∷ (field ++ fields_and_end fields)

unfoldable pub line : List ℕ → List (List ℕ) → List ℕ
line first fields = first ++ fields_and_end fields

-- R248, R173
unfoldable pub bad_line_answer : List ℕ
bad_line_answer = line (text "?") (decimal bad_line ∷ [])

-- R253
unfoldable pub answer_line : ℕ → ℕ → List ℕ
answer_line letter refusal = line (letter ∷ []) (decimal refusal ∷ [])

-- R255: a packet handed out
unfoldable pub packet_line : ℕ → List ℕ
packet_line p = line (text "P") (decimal (tag p) ∷ decimal (destination p) ∷ [])

unfoldable pub packet_lines : List ℕ → List ℕ
packet_lines [] = []
packet_lines (p ∷ ps) = packet_line p ++ packet_lines ps

-- R255: what a Move prints, and below what a Drain prints with its ledger
unfoldable pub moved_lines : Answer (Option ℕ) → List ℕ
moved_lines (Err r) = answer_line (code "M") r
moved_lines (Ok None) = answer_line (code "M") 0
moved_lines (Ok (Some p)) = packet_line p ++ answer_line (code "M") 0

-- R254: a stop in a word
unfoldable pub stop_word : Stop → List ℕ
stop_word Stop.Emptied = text "emptied"
stop_word Stop.Spent = text "spent"
stop_word Stop.Full = text "full"

-- R254
unfoldable pub stopped_line : ℕ → Stop → List ℕ
stopped_line moves stop = line (text "D") (decimal 0 ∷ decimal moves ∷ stop_word stop ∷ [])

-- R256: a refused one has neither moves nor stop
unfoldable pub drain_line : Answer Drained → List ℕ
drain_line (Err r) = answer_line (code "D") r
drain_line (Ok d) = stopped_line d.moves d.stop

unfoldable pub drained_lines : Answer Drained → List ℕ → List ℕ
drained_lines answer ledger = packet_lines (take (drained_delivered answer) ledger) ++ drain_line answer

-- `out` with bytes put at a place
unfoldable pub written : List ℕ → ℕ → List ℕ → List ℕ
written out at bytes = take at out ++ (bytes ++ drop (at + length bytes) out)

-- room that is enough for each answer, whatever its numbers are: one of 64 bits has at most 20 digits, a tag 10, a destination 5
abbrev pub answer_room : ℕ
answer_room = 24

abbrev pub packet_room : ℕ
packet_room = 20

abbrev pub moved_room : ℕ
moved_room = 44

abbrev pub drain_room : ℕ
drain_room = 34

-- there is room for bytes at a place of the buffer
abbrev pub Room : List ℕ → ℕ → List ℕ → Type 0
Room out at bytes = at + length bytes ≤ length out

-- what a function that puts bytes at a place leaves in the buffer, and that it answers the place behind them
pub record Put (before : List ℕ) (at : ℕ) (bytes after : List ℕ) (next : ℕ) : Type 0 where
  pub leaves : after ≡ written before at bytes
  pub answers : next ≡ at + length bytes
