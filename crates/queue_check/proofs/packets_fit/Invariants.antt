-- `queue_check::packets_fit` meets its contract. The loop's invariant: what is left to test decides for all, and what is left to sum is
-- missing from the sum. Assumes nothing.
use Rattle.network.specs.Sizes.{shape_of}
use Rattle.network.specs.Packet.{work}
use Rattle.network.specs.Check.{packet_fits}
use Rattle.torus.specs.Geometry.{node_at}
use Rattle.queue_check.proofs.Tallies.{Left}
use Rattle.queue_check.proofs.packets_fit.Given as goal

abbrev pub invariant-loop-p : goal.invariant-loop-p
invariant-loop-p l = Left (packet_fits (shape_of l.s) (node_at l.s l.place) l.q) work l.packets l.p-index l.work
