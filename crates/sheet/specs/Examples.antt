-- Kept rows of the sheet's text: the lines of R257 and many others, as they are cut, read and printed, worked out by hand from docs/RULES.md and computed
-- from the definitions. A must-fail edit of a definition names the row that it breaks; so each row is a law of its own, and `examples` has them all.
-- Order: lines; commands; what is printed; all of them. Assumes nothing.
use Rattle.std.specs.Prelude.{◌≡◌, [], ◌∷◌, ◌++◌, map, ◌+◌, ◌*◌, ◌^◌, replicate, None, Some, Ok, Err}
use Rattle.network.specs.Calls.{drain_of}
use Rattle.network.specs.declared.Stop.{Stop}
use Rattle.network.specs.declared.Drained.{Drained}
use Rattle.sheet.specs.declared.Command.{Command}
use Rattle.sheet.specs.Text.{text}
use Rattle.sheet.specs.Lines.{lines, ended_part, whole, too_long, kept}
use Rattle.sheet.specs.Commands.{first_field, later_fields, command_of}
use Rattle.sheet.specs.Output.{decimal, bad_line_answer, answer_line, moved_lines, drained_lines}

-- Lines ---------------------------------------------------------------------------------------------------------------------------------

-- R241: both ends; empty lines; a CR within a line, before the CR of an end, and behind the last end
abbrev pub Ends : Type 0
Ends = (lines (text "D,1\r\nD,2\n") ≡ text "D,1" ∷ text "D,2" ∷ [])
    × (lines (text "\n\r\n") ≡ [] ∷ [] ∷ [])
    × (lines (text "D\r,1\r\r\nD\r") ≡ text "D\r,1\r" ∷ text "D\r" ∷ [])

-- R249: bytes behind the last LF are a line
abbrev pub LastLine : Type 0
LastLine = lines (text "D,1\nD,2") ≡ text "D,1" ∷ text "D,2" ∷ []

-- R250: if there are none, no line follows
abbrev pub NoFurtherLine : Type 0
NoFurtherLine = (lines (text "D,1\n") ≡ text "D,1" ∷ [])
    × (lines [] ≡ [])

-- R242: 64 and CRLF, 65, 64 with a CR that is not the end's, 65 and CRLF, 65 without an end
abbrev pub Limit : Type 0
Limit = (map kept (lines (replicate 64 48 ++ text "\r\n")) ≡ whole (replicate 64 48) ∷ [])
    × (map kept (lines (replicate 65 48 ++ text "\n")) ≡ too_long ∷ [])
    × (map kept (lines (replicate 64 48 ++ text "\r0\n")) ≡ too_long ∷ [])
    × (map kept (lines (replicate 65 48 ++ text "\r\n")) ≡ too_long ∷ [])
    × (map kept (lines (replicate 65 48)) ≡ too_long ∷ [])

-- R259: of an input the part whose lines have ended: up to the last LF
abbrev pub EndedPart : Type 0
EndedPart = (ended_part (text "D,1\nD,2\nD,3") ≡ text "D,1\nD,2\n")
    × (ended_part (text "D,1") ≡ [])

-- Commands ------------------------------------------------------------------------------------------------------------------------------

-- R240: the fields of a line stand between commas; one may be empty, and a quote or a blank is a byte like any other
abbrev pub FieldsBetween : Type 0
FieldsBetween = (first_field (text "T,4,, 1,\"x\",") ≡ text "T")
    × (later_fields (text "T,4,, 1,\"x\",") ≡ text "4" ∷ [] ∷ text " 1" ∷ text "\"x\"" ∷ [] ∷ [])

-- R243: T takes X, Y, Z, E, A, J in this order, no fewer numbers and no more
abbrev pub MakeLine : Type 0
MakeLine = (command_of (text "T,4,1,1,2,1,1") ≡ Command.Make 4 1 1 2 1 1)
    × (command_of (text "T,2,3,5,8,7,6") ≡ Command.Make 2 3 5 8 7 6)
    × (command_of (text "T,4,1,2,1,1") ≡ Command.Bad)
    × (command_of (text "T,4,1,1,2,1,1,0") ≡ Command.Bad)

-- R244: O takes a node, a destination, a tag and a chunk number; the longest has 45 bytes
abbrev pub OfferLine : Type 0
OfferLine = (command_of (text "O,0,2,7,1") ≡ Command.Offer 0 2 7 1)
    × (command_of (text "O,4294967292,4294967293,4294967294,4294967295") ≡ Command.Offer 4294967292 4294967293 4294967294 4294967295)
    × (command_of (text "O,0,2,7") ≡ Command.Bad)
    × (command_of (text "O,0,2,7,1,1") ≡ Command.Bad)

-- R245: M takes a node, a queue and an output
abbrev pub MoveLine : Type 0
MoveLine = (command_of (text "M,1,7,0") ≡ Command.Move 1 7 0)
    × (command_of (text "M,0,0") ≡ Command.Bad)
    × (command_of (text "M,0,0,7,1") ≡ Command.Bad)

-- R246: D takes a budget
abbrev pub DrainLine : Type 0
DrainLine = (command_of (text "D,10") ≡ Command.Drain 10)
    × (command_of (text "D") ≡ Command.Bad)
    × (command_of (text "D,1,2") ≡ Command.Bad)
    × (command_of (text "D,1,") ≡ Command.Bad)

-- R247: the largest number, and one more
abbrev pub LargestNumber : Type 0
LargestNumber = (command_of (text "D,4294967295") ≡ Command.Drain 4294967295)
    × (command_of (text "D,4294967296") ≡ Command.Bad)

-- R247: no 0 in front of another digit; at least one digit, and nothing but digits
abbrev pub Numbers : Type 0
Numbers = (command_of (text "D,0") ≡ Command.Drain 0)
    × (command_of (text "D,00") ≡ Command.Bad)
    × (command_of (text "D,01") ≡ Command.Bad)
    × (command_of (text "D,") ≡ Command.Bad)
    × (command_of (text "D,+1") ≡ Command.Bad)
    × (command_of (text "D, 1") ≡ Command.Bad)
    × (command_of (text "D,1\r") ≡ Command.Bad)

-- R248: lines that are no command
abbrev pub Others : Type 0
Others = (command_of [] ≡ Command.Bad)
    × (command_of (text "d,1") ≡ Command.Bad)
    × (command_of (text "DD,1") ≡ Command.Bad)
    × (command_of (text ",1") ≡ Command.Bad)
    × (command_of (text "\"D\",1") ≡ Command.Bad)
    × (command_of (text "X,1") ≡ Command.Bad)

-- R242, R248: a T with six numbers of ten digits has 67 bytes and is no command, though its fields could be read; with one of them of seven digits it has 64
abbrev pub LongestSizes : Type 0
LongestSizes = (map kept (lines (text "T,4294967295,4294967295,4294967295,4294967295,4294967295,4294967295\n")) ≡ too_long ∷ [])
    × (command_of (text "T,4294967295,4294967295,4294967295,4294967295,4294967295,4294967295") ≡ Command.Bad)
    × (map kept (lines (text "T,4294967295,4294967295,4294967295,4294967295,4294967295,4294967\n"))
    ≡ whole (text "T,4294967295,4294967295,4294967295,4294967295,4294967295,4294967") ∷ [])
    × (command_of (text "T,4294967295,4294967295,4294967295,4294967295,4294967295,4294967")
    ≡ Command.Make 4294967295 4294967295 4294967295 4294967295 4294967295 4294967)

-- What is printed -----------------------------------------------------------------------------------------------------------------------

-- R9: numbers are decimal: 0, 9, 10 and the largest of 64 bits
abbrev pub Decimals : Type 0
Decimals = (map decimal (0 ∷ 9 ∷ 10 ∷ []) ≡ text "0" ∷ text "9" ∷ text "10" ∷ [])
    × (decimal 18446744073709551615 ≡ text "18446744073709551615")

-- R252: the bytes of a line, T, comma, 0, and its end, CR LF
abbrev pub LineEnd : Type 0
LineEnd = answer_line 84 0 ≡ 84 ∷ 44 ∷ 48 ∷ 13 ∷ 10 ∷ []

-- R253: a letter and a refusal
abbrev pub Answered : Type 0
Answered = (answer_line 79 7 ≡ text "O,7\r\n")
    × (moved_lines (Err 10) ≡ text "M,10\r\n")
    × (moved_lines (Ok None) ≡ text "M,0\r\n")

-- R248: a line that is no command
abbrev pub BadLine : Type 0
BadLine = bad_line_answer ≡ text "?,13\r\n"

-- R255: a packet handed out by a Move, of eight chunks: its tag and its destination, and no chunks, before the line of the M
abbrev pub HandedOut : Type 0
HandedOut = moved_lines (Ok (Some (7 * 2 ^ 32 + 7 * 2 ^ 28 + 2 * 2 ^ 16))) ≡ text "P,7,2\r\nM,0\r\n"

-- R256: a Drain that is refused
abbrev pub RefusedDrain : Type 0
RefusedDrain = drained_lines (Err 3) (0 ∷ []) ≡ text "D,3\r\n"

-- R254: the moves of a Drain and its stop, in the three words
abbrev pub StopWords : Type 0
StopWords = (drained_lines (Ok (drain_of 2 0 Stop.Emptied)) (0 ∷ []) ≡ text "D,0,2,emptied\r\n")
    × (drained_lines (Ok (drain_of 0 0 Stop.Spent)) (0 ∷ []) ≡ text "D,0,0,spent\r\n")
    × (drained_lines (Ok (drain_of 5 0 Stop.Full)) [] ≡ text "D,0,5,full\r\n")

-- R255: the packets that a Drain handed out, in their order, before the line of the D; what stands behind them in the ledger is not printed
abbrev pub PacketsBefore : Type 0
PacketsBefore = (drained_lines (Ok (drain_of 2 1 Stop.Emptied)) ((7 * 2 ^ 32 + 2 * 2 ^ 16) ∷ 0 ∷ []) ≡ text "P,7,2\r\nD,0,2,emptied\r\n")
    × (drained_lines (Ok (drain_of 5 2 Stop.Full)) ((8 * 2 ^ 32 + 3 * 2 ^ 16) ∷ (9 * 2 ^ 32 + 4 * 2 ^ 16) ∷ [])
    ≡ text "P,8,3\r\nP,9,4\r\nD,0,5,full\r\n")

-- All of them ---------------------------------------------------------------------------------------------------------------------------

pub record Examples : Type 0 where
  pub ends : Ends
  pub last_line_kept : LastLine
  pub no-further-line : NoFurtherLine
  pub limit : Limit
  pub ended-part : EndedPart
  pub fields-between : FieldsBetween
  pub make-line : MakeLine
  pub offer-line : OfferLine
  pub move-line : MoveLine
  pub drain-line : DrainLine
  pub largest-number : LargestNumber
  pub numbers : Numbers
  pub others : Others
  pub longest-sizes : LongestSizes
  pub decimals : Decimals
  pub line-end : LineEnd
  pub answered : Answered
  pub bad-line : BadLine
  pub handed_out : HandedOut
  pub refused-drain : RefusedDrain
  pub stop-words : StopWords
  pub packets-before : PacketsBefore
