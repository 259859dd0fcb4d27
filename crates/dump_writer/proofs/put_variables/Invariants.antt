-- `dump_writer::put_variables` meets its contract. The loop's invariant is `VariablesPut`. Assumes nothing.
use Rattle.dump_writer.proofs.Loops.{VariablesPut}
use Rattle.dump_writer.proofs.put_variables.Given as goal

abbrev pub invariant-loop-i : goal.invariant-loop-i
invariant-loop-i l = VariablesPut l.initial.page l.count l.page l.i
