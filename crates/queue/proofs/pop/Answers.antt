-- `queue::pop` meets its contract: what `remove_at` does from the queue's start to its end is the change of that queue. Assumes nothing.
use Rattle.std.proofs.Common.{drop}
use Rattle.network.specs.Calls.{head_leaves}
use Rattle.queue.specs.QueueLaws.{placed, queue-at, some_at, head_at, put-at}
use Rattle.queue.proofs.pop.Goals as goal

pub remove_at-requires : goal.remove_at-requires
remove_at-requires c =
    let a = c.args in
    let at = placed c.requires.checked_queue c.queue_start-start.ensures c.queue_end-end.ensures in
    record { queue_at = queue-at at; nonzero = some_at at c.requires.nonzero }

pub returns : goal.returns
unfolding head_leaves
returns c =
    let a = c.args in
    let at = placed c.requires.checked_queue c.queue_start-start.ensures c.queue_end-end.ensures in
    record { words = put-at at (drop 1) c.remove_at.ensures.words; head = head_at at c.remove_at.ensures.head }
