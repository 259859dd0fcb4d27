-- `dump_writer::variables_length` meets its contract: the goals that the check does not find by itself. Assumes nothing.
use Rattle.std.proofs.Common.{arith}
use Rattle.dump_writer.proofs.Loops.{counted-more, counted-few, counted-all}
use Rattle.dump_writer.proofs.variables_length.Goals as goal

pub overflow_add-length : goal.overflow_add-length
overflow_add-length c =
    let few = counted-few c.variable_length-length.result c.loop-i.invariant c.loop-i-test.true c.variable_length-length.ensures c.requires in
    omega arith

pub loop-i-preserved : goal.loop-i-preserved
loop-i-preserved c = counted-more c.variable_length-length.result c.loop-i.invariant c.loop-i-test.true c.variable_length-length.ensures

pub returns : goal.returns
returns c = counted-all c.loop-i.invariant c.loop-i-test.false
