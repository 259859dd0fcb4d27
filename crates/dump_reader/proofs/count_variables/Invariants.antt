-- `dump_reader::count_variables` meets its contract. The loop's invariant is `Counting`: `count` lines have been read, and end at `at`. Assumes nothing.
use Rattle.dump_reader.proofs.Headers.{Counting}
use Rattle.dump_reader.proofs.count_variables.Given as goal

abbrev pub invariant-loop-count : goal.invariant-loop-count
invariant-loop-count l = Counting l.bytes l.start l.count l.at
