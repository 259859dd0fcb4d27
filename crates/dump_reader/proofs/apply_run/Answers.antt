-- `dump_reader::apply_run` meets its contract: the goals that the check does not find by itself. Assumes nothing.
use Rattle.std.proofs.Common.{arith}
use Rattle.dump_reader.proofs.Runs.{applying-none, applying-more, applying-index, applying-end, LineContinues, line-goes}
use Rattle.dump_reader.proofs.apply_run.Goals as goal
use Rattle.dump_reader.proofs.apply_run.Goals.{In-Some}

pub loop-line-init : goal.loop-line-init
loop-line-init c = applying-none c.args.bytes.now c.args.fills.now c.requires

pub bounds-fills-variable : goal.bounds-fills-variable
bounds-fills-variable c = applying-index c.loop-line.invariant c.read_value.ensures _ c.in-Some.is

-- the line goes on with the run
goes : (c : In-Some) → LineContinues c.args.bytes.now c.loop-line.at c.in-Some.line
goes c = line-goes c.args.bytes.now c.loop-line.at c.loop-line.from c.read_value.ensures _ c.in-Some.is c.loop-line.invariant.within

pub loop-line-preserved : goal.loop-line-preserved
loop-line-preserved c = applying-more c.loop-line.invariant c.read_value.ensures _ c.in-Some.is

pub overflow_add-at : goal.overflow_add-at
overflow_add-at c = omega (arith, goes (goal.at.overflow_add-at c).In-Some)

pub overflow_add-from : goal.overflow_add-from
overflow_add-from c = omega (arith, goes (goal.at.overflow_add-from c).In-Some)

pub loop-line-smaller : goal.loop-line-smaller
loop-line-smaller c = omega (arith, goes (goal.at.loop-line-smaller c).In-Some)

pub returns : goal.returns
returns c = applying-end c.loop-line.invariant c.read_value.ensures c.in_default.is
