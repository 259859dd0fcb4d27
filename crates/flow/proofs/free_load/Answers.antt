-- `flow::free_load` meets its contract: the target is a node, and its queue takes no more than its capacity. Assumes nothing.
use Rattle.flow.proofs.Targets.{at_target, target-few, target_free}
use Rattle.flow.proofs.free_load.Goals as goal

pub target-m-requires : goal.target-m-requires
target-m-requires c =
    let k = c.requires.queue_of in
    (k.network.in-range, k.node, c.requires.o_nonzero, k.queue)

pub taken-requires : goal.taken-requires
taken-requires c =
    let a = c.args in
    at_target a.s a.words.now a.n a.o c.target-m.result c.requires.queue_of c.target-m.ensures

pub overflow_sub-result : goal.overflow_sub-result
overflow_sub-result c =
    let a = c.args in
    target-few a.s a.words.now a.n a.o c.target-m.result c.requires.queue_of c.target-m.ensures
    c.capacity-slots.result c.taken.result c.capacity-slots.ensures c.taken.ensures

pub returns : goal.returns
returns c =
    let a = c.args in
    target_free a.s a.words.now a.n a.o c.target-m.result c.requires.queue_of c.target-m.ensures
    c.capacity-slots.result c.taken.result c.capacity-slots.ensures c.taken.ensures
