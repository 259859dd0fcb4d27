-- `queue::queue_end` meets its contract: every queue's end is small. Assumes nothing.
use Rattle.std.proofs.Common.{◌+◌, ◌≤◌, arith}
use Rattle.network.specs.Layout.{queue_length, queue_end}
use Rattle.queue.proofs.ClosedForms.{most_words, end-small}
use Rattle.queue.proofs.queue_end.Goals as goal
use Rattle.queue.proofs.queue_end.Goals.{After-capacity-slots}

sum-small : (c : After-capacity-slots) → c.queue_start-start.result + (1 + c.capacity-slots.result) ≤ most_words
unfolding queue_end queue_length
sum-small c =
    let a = c.args in
    let p = c.requires in
    let s = c.queue_start-start.ensures in
    let k = c.capacity-slots.ensures in
    let l = end-small a.s a.n a.q p.0 p.1 p.2 in
    omega arith

pub overflow_add-result : goal.overflow_add-result
overflow_add-result c = omega (arith, sum-small (goal.at.overflow_add-result c).After-capacity-slots)

pub overflow_add-result-2 : goal.overflow_add-result-2
overflow_add-result-2 c = omega (arith, sum-small (goal.at.overflow_add-result-2 c).After-capacity-slots)

pub returns : goal.returns
unfolding queue_end queue_length
returns c =
    let s = c.queue_start-start.ensures in
    let k = c.capacity-slots.ensures in
    omega arith
