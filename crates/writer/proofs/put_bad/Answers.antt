-- `writer::put_bad` meets its contract. Assumes nothing.
use Rattle.sheet.specs.Output.{bad_line_answer, answer_line}
use Rattle.writer.proofs.put_bad.Goals as goal

pub returns : goal.returns
unfolding bad_line_answer answer_line
returns c = c.put_answer.ensures
