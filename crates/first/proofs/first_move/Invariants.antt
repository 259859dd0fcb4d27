-- `first::first_move` meets its contract. The loops' invariants: what is left of the nodes, of a node's queues,
-- or of the lines of a head's routes, is found. Assumes nothing.
use Rattle.first.proofs.Searching.{FoundFrom, AtQueue, AtNode}
use Rattle.first.proofs.first_move.Given as goal

abbrev pub invariant-loop-k : goal.invariant-loop-k
invariant-loop-k l = FoundFrom l.s l.words l.n l.q l.o-items l.k

abbrev pub invariant-loop-q : goal.invariant-loop-q
invariant-loop-q l = AtQueue l.s l.words l.n l.start l.q

abbrev pub invariant-loop-n : goal.invariant-loop-n
invariant-loop-n l = AtNode l.s l.words l.start l.n
