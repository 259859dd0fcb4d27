-- `writer::put_answer` meets its contract: a number of 64 bits has at most 20 digits. Assumes nothing.
use Rattle.std.proofs.Common.{sym, arith}
use Rattle.sheet.specs.Output.{answer_line, answer_room}
use Rattle.sheet.proofs.Lengths.{answer-length}
use Rattle.sheet.proofs.Puts.{enough}
use Rattle.writer.proofs.put_answer.Goals as goal

pub put_line-requires : goal.put_line-requires
put_line-requires c =
    enough c.args.page.now.out.now c.args.page.now.at (answer_line c.args.letter c.number_of-number.result) answer_room
    (answer-length c.args.letter c.number_of-number.result (omega (arith, c.number_of-number.type_inv)))
    c.requires

pub returns : goal.returns
returns c = rw (sym c.number_of-number.ensures) c.put_line.ensures
