-- `dump_writer::read_node` meets its contract: the goals that the check does not find by itself. Assumes nothing.
use Rattle.std.proofs.Common.{arith}
use Rattle.network.specs.Sizes.{shape_of}
use Rattle.network.proofs.SizesLaws.{range-of, capacity-most}
use Rattle.dump_writer.proofs.Node.{node-count, node-more}
use Rattle.dump_writer.proofs.read_node.Goals as goal

pub offset_bounds-words-at : goal.offset_bounds-words-at
offset_bounds-words-at c =
    let k = (node-count c.loop-q.invariant c.requires.0 c.requires.1 c.requires.3 c.loop-q-test.true).inside in
    omega arith

pub bounds-words-at : goal.bounds-words-at
bounds-words-at c = (node-count c.loop-q.invariant c.requires.0 c.requires.1 c.requires.3 c.loop-q-test.true).inside

pub overflow_cast-counts : goal.overflow_cast-counts
overflow_cast-counts c =
    let k = (node-count c.loop-q.invariant c.requires.0 c.requires.1 c.requires.3 c.loop-q-test.true).small in
    omega arith

pub overflow_add-at : goal.overflow_add-at
overflow_add-at c =
    let m = capacity-most (shape_of c.args.s) c.loop-q.q (range-of (shape_of c.args.s) c.requires.0.in-range) in
    let e = c.capacity.ensures in
    omega arith

pub overflow_add-at-in-loop-q : goal.overflow_add-at-in-loop-q
overflow_add-at-in-loop-q c =
    let m = capacity-most (shape_of c.args.s) c.loop-q.q (range-of (shape_of c.args.s) c.requires.0.in-range) in
    let e = c.capacity.ensures in
    let k = (node-count c.loop-q.invariant c.requires.0 c.requires.1 c.requires.3 c.loop-q-test.true).inside in
    omega arith

pub loop-q-preserved : goal.loop-q-preserved
loop-q-preserved c = node-more c.loop-q.invariant c.requires.0 c.requires.1 c.requires.3 c.loop-q-test.true c.capacity.result c.capacity.ensures
