-- `dump_writer::read_fills` meets its contract. The loop's invariant is `NodesRead`. Assumes nothing.
use Rattle.network.specs.Sizes.{shape_of}
use Rattle.dump_writer.proofs.Node.{NodesRead}
use Rattle.dump_writer.proofs.read_fills.Given as goal

abbrev pub invariant-loop-n : goal.invariant-loop-n
invariant-loop-n l = NodesRead (shape_of l.s) l.words l.initial.counts l.counts l.start l.n
