-- `dump_reader::count_variables` meets its contract: the goals that the check does not find by itself. Assumes nothing.
use Rattle.std.proofs.Common.{arith}
use Rattle.dump_reader.proofs.Headers.{counting-none, counting-stop, counting_more, counting-end}
use Rattle.dump_reader.proofs.count_variables.Goals as goal

pub loop-count-init : goal.loop-count-init
loop-count-init c = counting-none c.args.bytes.now c.args.start c.requires

pub returns-in_default : goal.returns-in_default
returns-in_default c = counting-stop c.loop-count.invariant c.loop-count-test.true c.variable_at.ensures c.in_default.is

pub loop-count-preserved : goal.loop-count-preserved
loop-count-preserved c = counting_more c.loop-count.invariant c.loop-count-test.true c.variable_at.ensures _ c.in-Some.is

pub overflow_add-at : goal.overflow_add-at
overflow_add-at c =
    let p = counting_more c.loop-count.invariant c.loop-count-test.true c.variable_at.ensures _ c.in-Some.is in
    omega arith

pub returns : goal.returns
returns c = counting-end c.loop-count.invariant c.loop-count-test.false
