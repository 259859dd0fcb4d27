-- `dump_writer::put_variables` meets its contract: the goals that the check does not find by itself. Assumes nothing.
use Rattle.dump_writer.proofs.Loops.{variable-room, variables-more, variables-all}
use Rattle.dump_writer.proofs.put_variables.Goals as goal

pub put_variable-requires : goal.put_variable-requires
put_variable-requires c = variable-room c.loop-i.invariant c.loop-i-test.true

pub loop-i-preserved : goal.loop-i-preserved
loop-i-preserved c = variables-more c.loop-i.invariant c.loop-i-test.true c.put_variable.ensures

pub returns : goal.returns
returns c = variables-all c.loop-i.invariant c.loop-i-test.false
