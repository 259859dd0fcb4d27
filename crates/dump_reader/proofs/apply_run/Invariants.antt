-- `dump_reader::apply_run` meets its contract. The loop's invariant is `Applying`: the lines before `at` have been put into the list. Assumes nothing.
use Rattle.std.proofs.Common.{◌-◌, length}
use Rattle.dump_reader.proofs.Runs.{Applying}
use Rattle.dump_reader.proofs.apply_run.Given as goal

abbrev pub invariant-loop-line : goal.invariant-loop-line
invariant-loop-line l = Applying l.bytes l.initial.fills l.at l.from l.fills

abbrev pub decreases-loop-line : goal.decreases-loop-line
decreases-loop-line l = length l.bytes - l.at
