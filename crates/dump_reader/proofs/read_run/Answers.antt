-- `dump_reader::read_run` meets its contract: the goals that the check does not find by itself. Assumes nothing.
use Rattle.std.proofs.Common.{arith}
use Rattle.dump_reader.proofs.Runs.{reading-none, reading-more, reading-end, LineContinues, line-goes}
use Rattle.dump_reader.proofs.read_run.Goals as goal
use Rattle.dump_reader.proofs.read_run.Goals.{In-Some}

pub loop-line-init : goal.loop-line-init
loop-line-init c = reading-none c.args.bytes.now

-- the line goes on with the run
goes : (c : In-Some) → LineContinues c.args.bytes.now c.loop-line.at c.in-Some.line
goes c = line-goes c.args.bytes.now c.loop-line.at c.loop-line.from c.read_value.ensures _ c.in-Some.is c.loop-line.invariant.within

pub loop-line-preserved : goal.loop-line-preserved
loop-line-preserved c = reading-more c.loop-line.invariant c.read_value.ensures _ c.in-Some.is

pub overflow_add-at : goal.overflow_add-at
overflow_add-at c = omega (arith, goes (goal.at.overflow_add-at c).In-Some)

pub overflow_add-from : goal.overflow_add-from
overflow_add-from c = omega (arith, goes (goal.at.overflow_add-from c).In-Some)

pub overflow_add-named : goal.overflow_add-named
overflow_add-named c = let p = reading-more c.loop-line.invariant c.read_value.ensures _ c.in-Some.is in omega arith

pub loop-line-smaller : goal.loop-line-smaller
loop-line-smaller c = omega (arith, goes (goal.at.loop-line-smaller c).In-Some)

pub returns : goal.returns
returns c = reading-end c.loop-line.invariant c.read_value.ensures c.in_default.is
