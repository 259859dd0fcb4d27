-- Texts that the definitions give, written out line by line by hand from docs/WAVEFORM.md and docs/RULES.md, and computed: nothing else in this crate says which
-- bytes a dump has. A must-fail edit of a definition names the row that it breaks; so each row is a law of its own, and small: the other edits of its file leave
-- it as it is. Order: single lines; what a step tells; the dump of one node; the dump that docs/WAVEFORM.md shows, written and read; the fullest queue; what
-- the writer refuses and leaves; what the reader takes, refuses and leaves. Assumes nothing.
use Rattle.std.specs.Prelude.{◌≡◌, refl, true, false, [], ◌∷◌, ◌++◌, map, get_or, take, drop, set, replicate, Ok, Err}
use Prim.Native.Char.{code}
use Rattle.sheet.specs.Text.{text, lf}
use Rattle.waveform.specs.declared.StepRead.{StepRead}
use Rattle.waveform.specs.Dump.{fills, variable_line, stamp_line, value_line, changes, step_bytes}
use Rattle.waveform.specs.Reading.{read_step}
use Rattle.waveform.specs.Calls.{written_step, write_page, write_list}
use Rattle.waveform.specs.Calls.{read_answer, read_list, read_number}
use Rattle.waveform.specs.Lengths.{page_room}
use Rattle.waveform.specs.Theorem.{WrittenAll, steps_of, read_all}
use Rattle.waveform.specs.Examples.{lines_of, dumped, told, counting, five-waiting, header-of-one-is, two-waiting, pair, made, offered, moved, escaped, header-of-two-is, zeros, fills-offered, fills-moved, fills-escaped, calls, dump-of-two, calls-on-long, longest, filled, refused, judged}

-- Single lines ----------------------------------------------------------------------------------------------------------------------------

-- R403: queue 4 of node 2; the first variable of the second node; the last variable that there is
variable-lines : map variable_line (30 ∷ 13 ∷ 53247 ∷ [])
    ≡ text "$var wire 8 30 n2q4 $end\n" ∷ text "$var wire 8 13 n1q0 $end\n" ∷ text "$var wire 8 53247 n4095q12 $end\n" ∷ []
unfolding dumped
variable-lines = refl

-- of such a line the bits alone, and the name alone
variable-bits : map (λ i. take 12 (variable_line i)) (0 ∷ 30 ∷ 53247 ∷ []) ≡ replicate 3 (text "$var wire 8 ")
unfolding dumped
variable-bits = refl

variable-names : map (λ i. drop 15 (variable_line i)) (30 ∷ 13 ∷ 57 ∷ []) ≡ text "n2q4 $end\n" ∷ text "n1q0 $end\n" ∷ text "n4q5 $end\n" ∷ []
unfolding dumped
variable-names = refl

-- R404, R410: the first time and the last
stamp-lines : map stamp_line (0 ∷ 10 ∷ 18446744073709551615 ∷ []) ≡ text "#0\n" ∷ text "#10\n" ∷ text "#18446744073709551615\n" ∷ []
unfolding dumped
stamp-lines = refl

-- R405, R410: an empty queue, three packets, ten, the most that a queue holds, and the most that eight digits say
value-lines : map value_line (told 0 0 ∷ told 30 3 ∷ told 12 10 ∷ told 1 64 ∷ told 53247 255 ∷ [])
    ≡ text "b0 0\n" ∷ text "b11 30\n" ∷ text "b1010 12\n" ∷ text "b1000000 1\n" ∷ text "b11111111 53247\n" ∷ []
unfolding dumped
value-lines = refl

-- R402: the lines that every header has, and its time stamp; there are no variables here
header-lines : step_bytes true 12 [] []
    ≡ lines_of ("$timescale 1 ns $end" ∷ "$scope module network $end" ∷ "$upscope $end" ∷ "$enddefinitions $end" ∷ [])
    ++ (stamp_line 12 ++ lines_of ("$dumpvars" ∷ "$end" ∷ []))
unfolding dumped
header-lines = refl

-- What a step tells -----------------------------------------------------------------------------------------------------------------------

-- R407: a header every variable, also where the list has its fill
header-tells : changes true (2 ∷ 0 ∷ 3 ∷ []) (2 ∷ 0 ∷ 3 ∷ []) ≡ told 0 2 ∷ told 1 0 ∷ told 2 3 ∷ []
unfolding dumped
header-tells = refl

-- R408: a later step, by rising variables, the fills that are other than those of the list
changed-told : changes false (2 ∷ 0 ∷ 3 ∷ []) (1 ∷ 4 ∷ 5 ∷ []) ≡ told 0 2 ∷ told 1 0 ∷ told 2 3 ∷ []
unfolding dumped
changed-told = refl

-- and none that are the same
unchanged-untold : changes false (2 ∷ 0 ∷ 3 ∷ []) (2 ∷ 0 ∷ 3 ∷ []) ≡ []
unfolding dumped
unchanged-untold = refl

-- R409: a step is written then too
unchanged-step : step_bytes false 7 (2 ∷ 0 ∷ 3 ∷ []) (2 ∷ 0 ∷ 3 ∷ []) ≡ text "#7\n"
unfolding dumped
unchanged-step = refl

-- R402 to R407: the whole header, whatever the list has
header-of-one : written_step true five-waiting (replicate 13 9) ≡ header-of-one-is
unfolding dumped
header-of-one = refl

later-of-one : (written_step false two-waiting (5 ∷ replicate 12 0) ≡ lines_of ("#15" ∷ "b10 0" ∷ []))
    × (written_step false two-waiting (2 ∷ replicate 12 0) ≡ lines_of ("#15" ∷ []))
unfolding dumped
later-of-one = (refl, refl)

-- R404: the stamps of both are the moves made; every fill is another than the list's
stamps-of-one : map (λ w. take 4 (written_step false w (replicate 13 9))) (five-waiting ∷ two-waiting ∷ []) ≡ text "#12\n" ∷ text "#15\n" ∷ []
unfolding dumped
stamps-of-one = refl

header-of-two : written_step true made [] ≡ header-of-two-is
unfolding dumped
header-of-two = refl

fills-of-two : map (fills pair) (made ∷ offered ∷ moved ∷ escaped ∷ []) ≡ zeros ∷ fills-offered ∷ fills-moved ∷ fills-escaped ∷ []
unfolding dumped
fills-of-two = refl

-- R408: an offer makes no move; a move tells both queues, by rising variables
later-of-two : written_step false offered zeros ∷ written_step false moved fills-offered ∷ []
    ≡ lines_of ("#0" ∷ "b1 0" ∷ []) ∷ lines_of ("#1" ∷ "b0 0" ∷ "b1 14" ∷ []) ∷ []
unfolding dumped
later-of-two = refl

calls-written : WrittenAll pair true (replicate 26 9) calls
unfolding dumped WrittenAll
calls-written = (refl, refl, (refl, refl, (refl, refl, tt)))

steps-of-two : steps_of true (replicate 26 9) calls ≡ dump-of-two
unfolding dumped steps_of
steps-of-two = refl

long-written : WrittenAll pair true (replicate 26 9) calls-on-long
unfolding dumped WrittenAll
long-written = (refl, refl, (refl, refl, (refl, refl, tt)))

kinds-of-two : map (λ step. get_or step 0 0) (steps_of true (replicate 26 9) calls-on-long) ≡ code "$" ∷ code "#" ∷ code "#" ∷ []
unfolding dumped steps_of
kinds-of-two = refl

-- R415, R416, R421: read with a list that is two bytes longer
read-of-two : read_all (replicate 28 9) dump-of-two
    ≡ record { number = 0; time = 0; list = zeros ++ (9 ∷ 9 ∷ []) }
    ∷ record { number = 0; time = 0; list = fills-offered ++ (9 ∷ 9 ∷ []) }
    ∷ record { number = 0; time = 1; list = fills-moved ++ (9 ∷ 9 ∷ []) }
    ∷ []
unfolding dumped read_all
read-of-two = refl

-- R406: packets are counted, whatever their chunks
fullest : map (fills longest) (filled 64 1 ∷ filled 8 8 ∷ []) ≡ (0 ∷ 64 ∷ replicate 24 0) ∷ (0 ∷ 8 ∷ replicate 24 0) ∷ []
unfolding dumped
fullest = refl

-- R405, R408, R416: the step of the first, written and read
fullest-told : (written_step false (filled 64 1) zeros ≡ lines_of ("#0" ∷ "b1000000 1" ∷ []))
    × (read_list (lines_of ("#0" ∷ "b1000000 1" ∷ [])) zeros ≡ 0 ∷ 64 ∷ replicate 24 0)
unfolding dumped
fullest-told = (refl, refl)

-- R413: both long enough; the page too short; the list; both
too_short : refused five-waiting 13 490 ∷ refused five-waiting 13 489 ∷ refused five-waiting 12 490 ∷ refused five-waiting 0 0 ∷ [] ≡ 0 ∷ 15 ∷ 15 ∷ 15 ∷ []
unfolding dumped
too_short = refl

-- no byte of page; no byte of list
no_room : refused five-waiting 13 0 ∷ refused five-waiting 0 744 ∷ [] ≡ 15 ∷ 15 ∷ []
unfolding dumped
no_room = refl

-- R413: a page that is long enough for any step: of one node, 120 + 48 × 13 bytes; of the most nodes, 120 + 48 × 53248
page-rooms : map page_room (13 ∷ 53248 ∷ []) ≡ 744 ∷ 2556024 ∷ []
page-rooms = refl

-- R413: no words; sizes that no network has; five packets held where three were accepted; each before 15
words-first : map (λ w. refused w 0 0) ([] ∷ replicate 9 0 ∷ counting five-waiting 3 0 0 ∷ []) ≡ 1 ∷ 2 ∷ 3 ∷ []
unfolding dumped
words-first = refl

-- R411, R414: a page and a list that are two bytes longer
behind-kept : (write_page true five-waiting (replicate 15 9) (replicate 492 7) ≡ header-of-one-is ++ (7 ∷ 7 ∷ []))
    × (write_list true five-waiting (replicate 15 9) (replicate 492 7) ≡ 5 ∷ (replicate 12 0 ++ (9 ∷ 9 ∷ [])))
unfolding dumped
behind-kept = (refl, refl)

-- R411, R412: after a header and after a later step a list that is no longer than the fills has the fills
lists-written : map (λ first. write_list first five-waiting (replicate 13 9) (replicate 744 7)) (true ∷ false ∷ []) ≡ replicate 2 (5 ∷ replicate 12 0)
unfolding dumped
lists-written = refl

-- R414: refused by 15, and by 3
refused-kept : (write_page true five-waiting (replicate 13 9) (replicate 489 7) ≡ replicate 489 7)
    × (write_list true five-waiting (replicate 13 9) (replicate 489 7) ≡ replicate 13 9)
    × (write_page true (counting five-waiting 3 0 0) (replicate 13 9) (replicate 490 7) ≡ replicate 490 7)
    × (write_list true (counting five-waiting 3 0 0) (replicate 13 9) (replicate 490 7) ≡ replicate 13 9)
unfolding dumped
refused-kept = (refl, refl, refl, refl)

-- What the reader takes, refuses and leaves -------------------------------------------------------------------------------------------------

-- R415: a header and its variables
header-taken : read_answer header-of-one-is (replicate 13 9) ≡ Ok (StepRead.Header 12 13)
unfolding dumped
header-taken = refl

-- a later step; one that tells nothing, to a list that has nothing
later-taken : read_answer (text "#1\nb0 0\nb1 14\n") (replicate 26 9) ∷ read_answer (text "#7\n") [] ∷ []
    ≡ Ok (StepRead.Later 1 2) ∷ Ok (StepRead.Later 7 0) ∷ []
unfolding dumped
later-taken = refl

-- the number of an answer
numbers-told : map read_number (Err 13 ∷ Err 15 ∷ Ok (StepRead.Header 12 13) ∷ Ok (StepRead.Later 1 2) ∷ []) ≡ 13 ∷ 15 ∷ 0 ∷ 0 ∷ []
unfolding dumped
numbers-told = refl

-- R402, R403, R417: the header of one node with 9 bits in place of 8 in its first variable; with a byte behind it
headers-refused : map (λ bs. read_number (read_answer bs (replicate 13 0))) (set header-of-one-is 58 57 ∷ (header-of-one-is ++ (lf ∷ [])) ∷ []) ≡ 13 ∷ 13 ∷ []
unfolding dumped
headers-refused = refl

-- R403: a header of one variable, which is no whole node
part-of-a-node : read_number
    (read_answer
    (lines_of
    ("$timescale 1 ns $end" ∷ "$scope module network $end" ∷ "$var wire 8 0 n0q0 $end" ∷ "$upscope $end" ∷ "$enddefinitions $end" ∷ "#0" ∷ "$dumpvars"
    ∷ "b0 0" ∷ "$end" ∷ []))
    (replicate 13 0))
    ≡ 13
unfolding dumped
part-of-a-node = refl

-- and the bytes that a header of one fill would have
one-variable : (read_step (step_bytes true 0 (0 ∷ []) [])).good ≡ false
unfolding dumped
one-variable = refl

-- R403 to R405: the last time, fill and variable that are taken; below, the first that are not
largest-taken : map (λ s. (read_step (text s)).good) ("#18446744073709551615\n" ∷ "#1\nb11111111 0\n" ∷ "#1\nb1 53247\n" ∷ [])
    ≡ true ∷ true ∷ true ∷ []
unfolding dumped
largest-taken = refl

time-too-large : judged ("#18446744073709551616\n" ∷ []) ≡ 13 ∷ []
unfolding dumped
time-too-large = refl

fill-too-large : judged ("#1\nb100000000 0\n" ∷ []) ≡ 13 ∷ []
unfolding dumped
fill-too-large = refl

variable-too-large : judged ("#1\nb1 53248\n" ∷ []) ≡ 13 ∷ []
unfolding dumped
variable-too-large = refl

-- R410: a number is digits of its base, none of them a zero before others
numbers-longer : judged ("#\n" ∷ "#01\n" ∷ "#-1\n" ∷ "#1\nb01 0\n" ∷ "#1\nb2 0\n" ∷ "#1\nb 0\n" ∷ "#1\nb1 00\n" ∷ "#1\nb1 \n" ∷ [])
    ≡ replicate 8 13
unfolding dumped
numbers-longer = refl

-- R401, R417: no byte; no LF; a CR; a blank at the end; two blanks; an empty line; a time twice; another letter
other-bytes : judged ("" ∷ "#1" ∷ "#1\r\n" ∷ "#1 \n" ∷ "#1\nb1  0\n" ∷ "#1\n\n" ∷ "#1\n#2\n" ∷ "#1\nB1 0\n" ∷ [])
    ≡ replicate 8 13
unfolding dumped
other-bytes = refl

-- R408: a variable behind a later one, and one twice
not-rising : judged ("#1\nb1 3\nb1 2\n" ∷ "#1\nb1 3\nb0 3\n" ∷ "#1\nb1 2\nb1 3\n" ∷ []) ≡ 13 ∷ 13 ∷ 0 ∷ []
unfolding dumped
not-rising = refl

-- R418: the step tells variable 14, and so needs a list of 15; what is no step is 13 before that
lists-needed : (map (λ n. read_number (read_answer (text "#1\nb0 0\nb1 14\n") (replicate n 9))) (15 ∷ 14 ∷ 0 ∷ []) ≡ 0 ∷ 15 ∷ 15 ∷ [])
    × (read_number (read_answer (text "#1\nb0 0\nb1 14") []) ≡ 13)
unfolding dumped
lists-needed = (refl, refl)

-- the header of one node needs a list of 13, which `header-taken` has
header-needs : read_number (read_answer header-of-one-is (replicate 12 9)) ≡ 15
unfolding dumped
header-needs = refl

-- R416: what a step leaves in a list that is long enough
lists-left : read_list (text "#1\nb10 1\nb1 3\n") (9 ∷ 8 ∷ 7 ∷ 6 ∷ 5 ∷ []) ≡ 9 ∷ 2 ∷ 7 ∷ 1 ∷ 5 ∷ []
unfolding dumped
lists-left = refl

-- R420: refused by 15, and by 13
lists-kept : (read_list (text "#1\nb10 1\nb1 3\n") (9 ∷ 8 ∷ []) ≡ 9 ∷ 8 ∷ [])
    × (read_list (text "#1\nb10 1\nb1 3") (9 ∷ 8 ∷ 7 ∷ 6 ∷ 5 ∷ []) ≡ 9 ∷ 8 ∷ 7 ∷ 6 ∷ 5 ∷ [])
unfolding dumped
lists-kept = (refl, refl)
