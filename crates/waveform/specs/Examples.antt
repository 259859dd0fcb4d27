-- Texts that the definitions give, written out line by line by hand from docs/WAVEFORM.md and docs/RULES.md, and computed: nothing else in this crate says which
-- bytes a dump has. A must-fail edit of a definition names the row that it breaks; so each row is a law of its own, and small: the other edits of its file leave
-- it as it is. Order: single lines; what a step tells; the dump of one node; the dump that docs/WAVEFORM.md shows, written and read; the fullest queue; what
-- the writer refuses and leaves; what the reader takes, refuses and leaves. Assumes nothing.
use Rattle.std.specs.Prelude.{true, List, [], ◌∷◌, ◌++◌, map, ℕ, set, replicate}
use Prim.Native.String.{String}
use Rattle.network.specs.Sizes.{Shape, shape_of, sized}
use Rattle.network.specs.Calls.{offer_words, move_words}
use Rattle.network.specs.ByHand.{here, of_chunks, empty, holding, definitions}
use Rattle.sheet.specs.Text.{text, lf}
use Rattle.sheet.specs.Commands.{up_to, is_digit, value_from, value, no_leading_zero, is_number}
use Rattle.sheet.specs.Output.{numeral_within, numeral}
use Rattle.waveform.specs.Dump.{fills_to, fills, variable_line, variable_lines, stamp_line, Change, value_line, value_lines, tells, changes_to, changes, step_bytes}
use Rattle.waveform.specs.Reading.{is_stamp, read_stamp, is_value_line, read_value, next_value, one_more, run_within, value_run, starts_with, variables_from, are_names}
use Rattle.waveform.specs.Reading.{read_names, needed_from, later_step, read_later, tells_all, header_step, read_stamped, read_header, read_step, applied}
use Rattle.waveform.specs.Calls.{written_step, write_rules, write_refusal, write_answer, write_page, write_list}
use Rattle.waveform.specs.Calls.{read_refusal, step_told, read_answer, read_list, written_length, read_number, read_time}
use Rattle.waveform.specs.Theorem.{Call}

-- lines, each ended by LF (R401)
abbrev pub lines_of : List String → List ℕ
lines_of [] = []
lines_of (l ∷ ls) = text l ++ (lf ∷ lines_of ls)

-- the definitions with which a row is computed: of numbers, of the writer's bytes, of the reader, of the calls, and one name for all
unfoldable numbers : Unit {0}
unfolding definitions up_to is_digit value_from value no_leading_zero is_number numeral_within numeral
numbers = tt

unfoldable writing : Unit {0}
unfolding fills_to fills variable_line variable_lines stamp_line value_line value_lines tells changes_to changes step_bytes
writing = tt

unfoldable reading : Unit {0}
unfolding is_stamp read_stamp is_value_line read_value next_value one_more run_within value_run starts_with variables_from are_names read_names needed_from
reading = tt

unfoldable steps : Unit {0}
unfolding later_step read_later tells_all header_step read_stamped read_header read_step applied
steps = tt

unfoldable calling : Unit {0}
unfolding written_step write_rules write_refusal write_answer write_page write_list read_refusal step_told read_answer read_list written_length read_number read_time
calling = tt

unfoldable pub dumped : Unit {0}
unfolding numbers writing reading steps calling
dumped = tt

abbrev pub told : ℕ → ℕ → Change
told v f = record { variable = v; fill = f }

-- The dump of one node --------------------------------------------------------------------------------------------------------------------

-- 1 by 1 by 1, E 2, A 1, J 6. Five packets wait in queue 0; 7 were accepted, 2 delivered, and 12 moves made
abbrev one : Shape
one = shape_of (sized 1 1 1 2 1 6)

abbrev pub counting : List ℕ → ℕ → ℕ → ℕ → List ℕ
counting w accepted delivered moves = set (set (set w 6 accepted) 7 delivered) 8 moves

abbrev pub five-waiting : List ℕ
five-waiting = counting (holding (empty one) 0 0 (replicate 5 (here 0))) 7 2 12

abbrev pub header-of-one-is : List ℕ
header-of-one-is =
    lines_of
    ("$timescale 1 ns $end" ∷ "$scope module network $end"
    ∷ "$var wire 8 0 n0q0 $end" ∷ "$var wire 8 1 n0q1 $end" ∷ "$var wire 8 2 n0q2 $end" ∷ "$var wire 8 3 n0q3 $end" ∷ "$var wire 8 4 n0q4 $end"
    ∷ "$var wire 8 5 n0q5 $end" ∷ "$var wire 8 6 n0q6 $end" ∷ "$var wire 8 7 n0q7 $end" ∷ "$var wire 8 8 n0q8 $end" ∷ "$var wire 8 9 n0q9 $end"
    ∷ "$var wire 8 10 n0q10 $end" ∷ "$var wire 8 11 n0q11 $end" ∷ "$var wire 8 12 n0q12 $end"
    ∷ "$upscope $end" ∷ "$enddefinitions $end" ∷ "#12" ∷ "$dumpvars"
    ∷ "b101 0" ∷ "b0 1" ∷ "b0 2" ∷ "b0 3" ∷ "b0 4" ∷ "b0 5" ∷ "b0 6" ∷ "b0 7" ∷ "b0 8" ∷ "b0 9" ∷ "b0 10" ∷ "b0 11" ∷ "b0 12"
    ∷ "$end" ∷ [])

-- three of them delivered. R408, R409: a later step by the fills before, and one by the fills as they are
abbrev pub two-waiting : List ℕ
two-waiting = counting (holding (empty one) 0 0 (replicate 2 (here 0))) 7 5 15

-- The dump of docs/WAVEFORM.md --------------------------------------------------------------------------------------------------------------

-- T,2,1,1,2,1,1 and O,0,1,7,8 and M,0,0,1
abbrev pub pair : Shape
pair = shape_of (sized 2 1 1 2 1 1)

abbrev pub made : List ℕ
made = empty pair

abbrev pub offered : List ℕ
offered = offer_words made 0 1 7 8

abbrev pub moved : List ℕ
moved = move_words offered 0 0 1

-- M,0,0,7 in its place: the packet is in queue 7 of node 1
abbrev pub escaped : List ℕ
escaped = move_words offered 0 0 7

abbrev pub header-of-two-is : List ℕ
header-of-two-is =
    lines_of
    ("$timescale 1 ns $end" ∷ "$scope module network $end"
    ∷ "$var wire 8 0 n0q0 $end" ∷ "$var wire 8 1 n0q1 $end" ∷ "$var wire 8 2 n0q2 $end" ∷ "$var wire 8 3 n0q3 $end" ∷ "$var wire 8 4 n0q4 $end"
    ∷ "$var wire 8 5 n0q5 $end" ∷ "$var wire 8 6 n0q6 $end" ∷ "$var wire 8 7 n0q7 $end" ∷ "$var wire 8 8 n0q8 $end" ∷ "$var wire 8 9 n0q9 $end"
    ∷ "$var wire 8 10 n0q10 $end" ∷ "$var wire 8 11 n0q11 $end" ∷ "$var wire 8 12 n0q12 $end"
    ∷ "$var wire 8 13 n1q0 $end" ∷ "$var wire 8 14 n1q1 $end" ∷ "$var wire 8 15 n1q2 $end" ∷ "$var wire 8 16 n1q3 $end" ∷ "$var wire 8 17 n1q4 $end"
    ∷ "$var wire 8 18 n1q5 $end" ∷ "$var wire 8 19 n1q6 $end" ∷ "$var wire 8 20 n1q7 $end" ∷ "$var wire 8 21 n1q8 $end" ∷ "$var wire 8 22 n1q9 $end"
    ∷ "$var wire 8 23 n1q10 $end" ∷ "$var wire 8 24 n1q11 $end" ∷ "$var wire 8 25 n1q12 $end"
    ∷ "$upscope $end" ∷ "$enddefinitions $end" ∷ "#0" ∷ "$dumpvars"
    ∷ "b0 0" ∷ "b0 1" ∷ "b0 2" ∷ "b0 3" ∷ "b0 4" ∷ "b0 5" ∷ "b0 6" ∷ "b0 7" ∷ "b0 8" ∷ "b0 9" ∷ "b0 10" ∷ "b0 11" ∷ "b0 12"
    ∷ "b0 13" ∷ "b0 14" ∷ "b0 15" ∷ "b0 16" ∷ "b0 17" ∷ "b0 18" ∷ "b0 19" ∷ "b0 20" ∷ "b0 21" ∷ "b0 22" ∷ "b0 23" ∷ "b0 24" ∷ "b0 25"
    ∷ "$end" ∷ [])

-- R406: the fills at each of the three steps, and by the other move
abbrev pub zeros : List ℕ
zeros = replicate 26 0

abbrev pub fills-offered : List ℕ
fills-offered = 1 ∷ replicate 25 0

abbrev pub fills-moved : List ℕ
fills-moved = replicate 14 0 ++ (1 ∷ replicate 11 0)

abbrev pub fills-escaped : List ℕ
fills-escaped = replicate 20 0 ++ (1 ∷ replicate 5 0)

-- R411 to R413: the three calls, with a list of another dump and pages that are as long as the steps: 893, 8 and 14 bytes
abbrev calls-on : ℕ → ℕ → ℕ → List Call
calls-on a b c =
    record { words = made; page = replicate a 7 }
    ∷ record { words = offered; page = replicate b 7 }
    ∷ record { words = moved; page = replicate c 7 }
    ∷ []

abbrev pub calls : List Call
calls = calls-on 893 8 14

abbrev pub dump-of-two : List (List ℕ)
dump-of-two = header-of-two-is ∷ lines_of ("#0" ∷ "b1 0" ∷ []) ∷ lines_of ("#1" ∷ "b0 0" ∷ "b1 14" ∷ []) ∷ []

-- R413, R421: pages of 120 + 48 × 26 bytes are enough for each of them; "$" begins a header, and "#" a later step
abbrev pub calls-on-long : List Call
calls-on-long = calls-on 1368 1368 1368

-- The fullest queue ------------------------------------------------------------------------------------------------------------------------

-- 2 by 1 by 1, E 2, A 8, J 1: in the adaptive queue x+ of node 0, which takes 64 chunks, 64 packets of one chunk; and eight of eight
abbrev pub longest : Shape
longest = shape_of (sized 2 1 1 2 8 1)

abbrev pub filled : ℕ → ℕ → List ℕ
filled count chunks = holding (empty longest) 0 1 (replicate count (of_chunks chunks (here 0)))

-- What the writer refuses and leaves --------------------------------------------------------------------------------------------------------

-- the header of five-waiting has 490 bytes and 13 variables. A page and a list of so many bytes do; a byte less is 15
abbrev pub refused : List ℕ → ℕ → ℕ → ℕ
refused w list page = write_refusal true w (replicate list 9) (replicate page 7)

-- what bytes are refused by, with a list of thirteen
abbrev pub judged : List String → List ℕ
judged ss = map (λ s. read_refusal (text s) (replicate 13 0)) ss
