-- `dump_writer::read_fills` meets its contract: the goals that the check does not find by itself. Assumes nothing.
use Rattle.std.proofs.Common.{◌∙◌, arith}
use Rattle.network.specs.Sizes.{shape_of}
use Rattle.dump_writer.specs.Writing.{filled-length}
use Rattle.dump_writer.proofs.Node.{nodes-none, nodes-start, nodes-within, nodes-all}
use Rattle.dump_writer.proofs.read_fills.Goals as goal

pub loop-n-init : goal.loop-n-init
loop-n-init c = nodes-none (shape_of c.args.s) c.args.words.now c.args.counts.now

pub read_node-requires : goal.read_node-requires
read_node-requires c =
    let e = c.nodes-nodes.ensures in
    let t = c.loop-n-test.true in
    (c.requires.0, omega arith, nodes-start c.loop-n.invariant, filled-length c.loop-n.invariant.filled ∙ c.requires.1)

pub overflow_add-start : goal.overflow_add-start
overflow_add-start c =
    let e = c.nodes-nodes.ensures in
    let w = c.node_words-node.ensures in
    let t = c.loop-n-test.true in
    let within = nodes-within c.loop-n.invariant c.requires.0 (omega arith) in
    omega arith

pub returns : goal.returns
returns c =
    let e = c.nodes-nodes.ensures in
    let t = c.loop-n-test.false in
    nodes-all c.loop-n.invariant (omega arith) c.requires.1
