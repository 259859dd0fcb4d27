-- `queue_check::queues_fit` meets its contract. The loop's invariant: the nodes before n are tested and summed. Assumes nothing.
use Rattle.queue_check.proofs.Walks.{NetWalk}
use Rattle.queue_check.proofs.queues_fit.Given as goal

abbrev pub invariant-loop-n : goal.invariant-loop-n
invariant-loop-n l = NetWalk l.s l.words l._n l.place l.start l.held l.work
