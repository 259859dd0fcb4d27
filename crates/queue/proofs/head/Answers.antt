-- `queue::head` meets its contract. Assumes nothing.
use Rattle.std.proofs.Common.{arith}
use Rattle.queue.specs.HeldWords.{inside-at, head_read}
use Rattle.queue.proofs.head.Goals as goal

pub overflow_add-result : goal.overflow_add-result
overflow_add-result c =
    let a = c.args in
    let i = inside-at a.s a.words.now a.n a.q c.requires.queue_of c.queue_start-start.result c.queue_start-start.ensures in
    omega arith

pub offset_bounds-words-start : goal.offset_bounds-words-start
offset_bounds-words-start c =
    let a = c.args in
    let i = inside-at a.s a.words.now a.n a.q c.requires.queue_of c.queue_start-start.result c.queue_start-start.ensures in
    omega arith

pub bounds-words-start : goal.bounds-words-start
bounds-words-start c =
    let a = c.args in
    let i = inside-at a.s a.words.now a.n a.q c.requires.queue_of c.queue_start-start.result c.queue_start-start.ensures in
    omega arith

pub returns : goal.returns
returns c =
    let a = c.args in
    head_read a.s a.words.now a.n a.q c.requires.queue_of c.queue_start-start.result c.queue_start-start.ensures c.requires.nonzero
