-- `queue_check::node_fits` meets its contract. The loop's invariant: the queues before q are tested and summed. Assumes nothing.
use Rattle.network.specs.Sizes.{shape_of}
use Rattle.torus.specs.Geometry.{node_at}
use Rattle.queue_check.proofs.Walks.{NodeWalk}
use Rattle.queue_check.proofs.node_fits.Given as goal

abbrev pub invariant-loop-q : goal.invariant-loop-q
invariant-loop-q l = NodeWalk (shape_of l.s) l.words (node_at l.s l.place) l.q l.at l.held l.work
