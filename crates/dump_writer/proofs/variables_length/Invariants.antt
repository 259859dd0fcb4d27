-- `dump_writer::variables_length` meets its contract. The loop's invariant is `Counted`. Assumes nothing.
use Rattle.dump_writer.proofs.Loops.{Counted}
use Rattle.dump_writer.proofs.variables_length.Given as goal

abbrev pub invariant-loop-i : goal.invariant-loop-i
invariant-loop-i l = Counted l.count l.length l.i
