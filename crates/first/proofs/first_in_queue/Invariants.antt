-- `first::first_in_queue` meets its contract. The loop's invariant: what is left of the lines is found. Assumes nothing.
use Rattle.first.proofs.Searching.{FoundFrom}
use Rattle.first.proofs.first_in_queue.Given as goal

abbrev pub invariant-loop-k : goal.invariant-loop-k
invariant-loop-k l = FoundFrom l.s l.words l.n l.q l.output-items l.k
