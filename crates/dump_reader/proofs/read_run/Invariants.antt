-- `dump_reader::read_run` meets its contract. The loop's invariant is `Reading`: `named` lines have been read, with `at` bytes. Assumes nothing.
use Rattle.std.proofs.Common.{◌-◌, length}
use Rattle.dump_reader.proofs.Runs.{Reading}
use Rattle.dump_reader.proofs.read_run.Given as goal

abbrev pub invariant-loop-line : goal.invariant-loop-line
invariant-loop-line l = Reading l.bytes l.at l.from l.named

abbrev pub decreases-loop-line : goal.decreases-loop-line
decreases-loop-line l = length l.bytes - l.at
