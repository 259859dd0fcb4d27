-- `packet::offered` meets its contract. The loop's invariant: the offsets of the dimensions below i stand in the word. Assumes nothing.
use Rattle.std.proofs.Common.{◌≡◌}
use Rattle.network.specs.Sizes.{shape_of}
use Rattle.network.specs.Packet.{with_offsets}
use Rattle.network.specs.Calls.{offered_way}
use Rattle.packet.proofs.FieldWords.{word_start}
use Rattle.packet.proofs.offered.Given as goal

abbrev pub invariant-loop-i : goal.invariant-loop-i
invariant-loop-i l = l.p ≡ with_offsets l.i (offered_way (shape_of l.s) l.n l.destination) (word_start l.tag l.chunks l.destination)
