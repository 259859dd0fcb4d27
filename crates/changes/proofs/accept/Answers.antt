-- `changes::accept` meets its contract: the injection queue is one of a network, and accepted, at most 2^32 - 1, may rise. Assumes nothing.
use Rattle.std.proofs.Common.{arith}
use Rattle.queue.specs.Queue.{CheckedQueue}
use Rattle.queue.specs.QueueLaws.{checked, checked-fits}
use Rattle.network.specs.Sizes.{shape_of, injection_queue}
use Rattle.network.specs.Layout.{accepted_at}
use Rattle.changes.proofs.ChangeLaws.{accepted-may, arrives-may, offered-words}
use Rattle.changes.proofs.accept.Goals as goal
use Rattle.changes.proofs.accept.Goals.{Start}

injection-checked : (s : Start) → CheckedQueue (shape_of s.args.s) s.args.words.now s.args.n injection_queue
injection-checked s = checked (shape_of s.args.s) s.args.words.now s.args.n injection_queue s.requires.network s.requires.n_bound (omega arith)

pub raise-requires : goal.raise-requires
raise-requires c =
    let a = c.args in
    let S = shape_of a.s in
    let may = arrives-may S a.words.now c.push.new.words a.n injection_queue c.offered-p.result accepted_at c.push.ensures
    (checked-fits S a.words.now a.n injection_queue (injection-checked (goal.at.raise-requires c).Start)) c.requires.injection_queue_len_bound (omega arith) (accepted-may c.requires.network) in
    record { at_in_bounds = may.0; at_bound = may.1 }

pub returns : goal.returns
returns c =
    let a = c.args in
    offered-words (shape_of a.s) a.words.now c.push.new.words c.raise.new.words a.n a.destination a.tag a.chunks c.offered-p.result
    c.offered-p.ensures c.push.ensures c.raise.ensures
