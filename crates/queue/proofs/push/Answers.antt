-- `queue::push` meets its contract: what `append_at` does from the queue's start to its end is the change of that queue. Assumes nothing.
use Rattle.std.proofs.Common.{List, [], ◌∷◌, ◌++◌, ℕ}
use Rattle.network.specs.Calls.{packet_arrives}
use Rattle.queue.specs.QueueLaws.{placed, queue-at, room_at, put-at}
use Rattle.queue.proofs.push.Goals as goal

pub append_at-requires : goal.append_at-requires
append_at-requires c =
    let a = c.args in
    let at = placed c.requires.checked_queue c.queue_start-start.ensures c.queue_end-end.ensures in
    record { queue_at = queue-at at; end_bound = room_at at c.requires.q_len_bound }

pub returns : goal.returns
unfolding packet_arrives
returns c =
    let a = c.args in
    let at = placed c.requires.checked_queue c.queue_start-start.ensures c.queue_end-end.ensures in
    put-at at (λ (ps : List ℕ). ps ++ (a.p ∷ [])) c.append_at.ensures
