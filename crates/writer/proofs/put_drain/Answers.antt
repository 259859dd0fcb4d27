-- `writer::put_drain` meets its contract, by cases on the answer. Assumes nothing.
use Rattle.sheet.specs.Output.{drain_line}
use Rattle.writer.proofs.put_drain.Goals as goal

pub returns-in-Err : goal.returns-in-Err
unfolding drain_line
returns-in-Err c = rw c.in-Err.is c.put_answer.ensures

pub returns-in-Ok : goal.returns-in-Ok
unfolding drain_line
returns-in-Ok c = rw c.in-Ok.is c.put_stopped.ensures
