-- `dump_writer::put_values` meets its contract. The loop's invariant is `ValuesPut`. Assumes nothing.
use Rattle.dump_writer.proofs.Loops.{ValuesPut}
use Rattle.dump_writer.proofs.put_values.Given as goal

abbrev pub invariant-loop-i : goal.invariant-loop-i
invariant-loop-i l = ValuesPut l.every l.counts l.fills l.initial.page l.page l.i
