-- `dump_writer::read_node` meets its contract. The loop's invariant is `NodeRead`. Assumes nothing.
use Rattle.network.specs.Sizes.{shape_of}
use Rattle.dump_writer.proofs.Node.{NodeRead}
use Rattle.dump_writer.proofs.read_node.Given as goal

abbrev pub invariant-loop-q : goal.invariant-loop-q
invariant-loop-q l = NodeRead (shape_of l.s) l.words l.n l.initial.counts l.counts l.at l.q
