-- `queue::taken` meets its contract. In an adaptive queue the packets are the part that is summed. Assumes nothing.
use Rattle.std.proofs.Common.{sym, ◌∙◌, ap, ◌+◌, ◌≤◌, arith, length}
use Rattle.base.specs.Sums.{sum_of}
use Rattle.network.specs.Sizes.{shape_of}
use Rattle.network.proofs.SizesLaws.{range-of, capacity-most}
use Rattle.network.specs.Packet.{chunks}
use Rattle.network.proofs.LayoutLaws.{taken-length, taken-chunks}
use Rattle.queue.specs.HeldWords.{held-part, held-end, held-few}
use Rattle.queue.proofs.taken.Goals as goal
use Rattle.queue.proofs.taken.Goals.{After-queue_start-first}

pub returns-then-not-is_adaptive : goal.returns-then-not-is_adaptive
returns-then-not-is_adaptive c =
    let a = c.args in
    c.held_count-count.ensures
    ∙ sym (taken-length (shape_of a.s) a.words.now a.n a.q (sym c.is_adaptive.ensures ∙ c.if-not-is_adaptive.true))

-- the packets end before the words do
ends : (c : After-queue_start-first) → c.queue_start-first.result + 1 + c.held_count-count.result ≤ length c.args.words.now
ends c =
    let a = c.args in
    held-end (shape_of a.s) a.words.now a.n a.q c.queue_start-first.result c.held_count-count.result c.requires c.queue_start-first.ensures c.held_count-count.ensures

pub overflow_add-first : goal.overflow_add-first
overflow_add-first c = omega (arith, ends (goal.at.overflow_add-first c).After-queue_start-first)

pub overflow_add-first-2 : goal.overflow_add-first-2
overflow_add-first-2 c = omega (arith, ends (goal.at.overflow_add-first-2 c).After-queue_start-first)

pub offset_bounds-words-first : goal.offset_bounds-words-first
offset_bounds-words-first c = omega (arith, ends (goal.at.offset_bounds-words-first c).After-queue_start-first)

pub slice_bounds-chunks_of-end : goal.slice_bounds-chunks_of-end
slice_bounds-chunks_of-end c = ends (goal.at.slice_bounds-chunks_of-end c).After-queue_start-first

pub chunks_of-requires : goal.chunks_of-requires
chunks_of-requires c =
    let a = c.args in
    let part = held-part (shape_of a.s) a.words.now a.n a.q c.queue_start-first.result c.held_count-count.result c.requires
    c.queue_start-first.ensures c.held_count-count.ensures in
    let few = held-few a.s a.words.now a.n a.q c.requires in
    let most = capacity-most (shape_of a.s) a.q (range-of (shape_of a.s) c.requires.network.in-range) in
    rw part (omega (arith, few, most))

pub returns : goal.returns
returns c =
    let a = c.args in
    c.chunks_of.ensures
    ∙ ap (sum_of chunks)
    (held-part (shape_of a.s) a.words.now a.n a.q c.queue_start-first.result c.held_count-count.result c.requires
    c.queue_start-first.ensures c.held_count-count.ensures)
    ∙ sym (taken-chunks (shape_of a.s) a.words.now a.n a.q (sym c.is_adaptive.ensures ∙ c.if-not-is_adaptive.false))
