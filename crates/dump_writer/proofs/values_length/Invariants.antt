-- `dump_writer::values_length` meets its contract. The loop's invariant is `ValuesCounted`. Assumes nothing.
use Rattle.dump_writer.proofs.Loops.{ValuesCounted}
use Rattle.dump_writer.proofs.values_length.Given as goal

abbrev pub invariant-loop-i : goal.invariant-loop-i
invariant-loop-i l = ValuesCounted l.every l.counts l.fills l.length l.i
