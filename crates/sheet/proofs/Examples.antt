-- Kept rows of the sheet's text: the lines of R257 and many others, as they are cut, read and printed, worked out by hand from docs/RULES.md and computed
-- from the definitions. A must-fail edit of a definition names the row that it breaks; so each row is a law of its own, and `examples` has them all.
-- Order: lines; commands; what is printed; all of them. Assumes nothing.
use Rattle.std.specs.Prelude.{refl}
use Rattle.base.specs.Tests.{all_of, elem}
use Rattle.base.specs.Digits.{product, digit}
use Rattle.network.specs.Packet.{tag, destination}
use Rattle.network.specs.Calls.{drained_delivered}
use Rattle.sheet.specs.Lines.{without_cr, last_line, lines_from, lines, ended_part, kept}
use Rattle.sheet.specs.Commands.{up_to, later_fields, is_digit, value_from, value, no_leading_zero, is_number, command_with, well_formed, command_of}
use Rattle.sheet.specs.Output.{numeral_within, numeral, fields_and_end, line, bad_line_answer, answer_line, packet_line, packet_lines, moved_lines, stop_word, stopped_line, drain_line, drained_lines}
use Rattle.sheet.specs.Examples.{Ends, LastLine, NoFurtherLine, Limit, EndedPart, FieldsBetween, MakeLine, OfferLine, MoveLine, DrainLine, LargestNumber, Numbers, Others, LongestSizes, Decimals, LineEnd, Answered, BadLine, HandedOut, RefusedDrain, StopWords, PacketsBefore, Examples}

-- what a row is computed with, to be unfolded by one name
computed : Unit {0}
unfolding all_of elem product digit tag destination without_cr last_line lines_from lines ended_part kept up_to later_fields is_digit value_from value no_leading_zero is_number command_with well_formed command_of numeral_within numeral fields_and_end line bad_line_answer answer_line packet_line packet_lines moved_lines stop_word stopped_line drain_line drained_delivered drained_lines
computed = tt

ends : Ends
unfolding computed
ends = (refl, refl, refl)

last_line_kept : LastLine
unfolding computed
last_line_kept = refl

no-further-line : NoFurtherLine
unfolding computed
no-further-line = (refl, refl)

limit : Limit
unfolding computed
limit = (refl, refl, refl, refl, refl)

ended-part : EndedPart
unfolding computed
ended-part = (refl, refl)

fields-between : FieldsBetween
unfolding computed
fields-between = (refl, refl)

make-line : MakeLine
unfolding computed
make-line = (refl, refl, refl, refl)

offer-line : OfferLine
unfolding computed
offer-line = (refl, refl, refl, refl)

move-line : MoveLine
unfolding computed
move-line = (refl, refl, refl)

drain-line : DrainLine
unfolding computed
drain-line = (refl, refl, refl, refl)

largest-number : LargestNumber
unfolding computed
largest-number = (refl, refl)

numbers : Numbers
unfolding computed
numbers = (refl, refl, refl, refl, refl, refl, refl)

others : Others
unfolding computed
others = (refl, refl, refl, refl, refl, refl)

longest-sizes : LongestSizes
unfolding computed
longest-sizes = (refl, refl, refl, refl)

decimals : Decimals
unfolding computed
decimals = (refl, refl)

line-end : LineEnd
unfolding computed
line-end = refl

answered : Answered
unfolding computed
answered = (refl, refl, refl)

bad-line : BadLine
unfolding computed
bad-line = refl

handed_out : HandedOut
unfolding computed
handed_out = refl

refused-drain : RefusedDrain
unfolding computed
refused-drain = refl

stop-words : StopWords
unfolding computed
stop-words = (refl, refl, refl)

packets-before : PacketsBefore
unfolding computed
packets-before = (refl, refl)

pub examples : Examples
examples =
    record {
      ends = ends;
      last_line_kept = last_line_kept;
      no-further-line = no-further-line;
      limit = limit;
      ended-part = ended-part;
      fields-between = fields-between;
      make-line = make-line;
      offer-line = offer-line;
      move-line = move-line;
      drain-line = drain-line;
      largest-number = largest-number;
      numbers = numbers;
      others = others;
      longest-sizes = longest-sizes;
      decimals = decimals;
      line-end = line-end;
      answered = answered;
      bad-line = bad-line;
      handed_out = handed_out;
      refused-drain = refused-drain;
      stop-words = stop-words;
      packets-before = packets-before;
    }
