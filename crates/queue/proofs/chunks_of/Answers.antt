-- `queue::chunks_of` meets its contract. Assumes nothing.
use Rattle.std.proofs.Common.{◌≡◌, ◌∙◌, ◌^◌, rules, arith}
use Rattle.std.specs.List.{sum_by}
use Rattle.std.proofs.lemmas.Iterator.{YieldsList-from_slice}
use Rattle.std.proofs.lemmas.Iterator.Adapters.{fits_from_length, at_most_from_yields_List}
use Rattle.network.specs.Sizes.{largest_capacity}
use Rattle.network.specs.Packet.{chunks}
use Rattle.network.proofs.PacketLaws.{chunks-most}
use Rattle.queue.proofs.ChunkSums.{by-of}
use Rattle.queue.proofs.chunks_of.Goals as goal

pub sum-requires-clause-fits : goal.sum-requires-clause-fits
sum-requires-clause-fits c =
    fits_from_length _ _ largest_capacity (2 ^ 64) (at_most_from_yields_List (YieldsList-from_slice c.args.packets.now cc) c.requires) c.map.ensures.closure (omega arith)
    (λ x r q k. let m = chunks-most x.now in search rules)

pub returns : goal.returns
returns c =
    let total : c.sum.result ≡ sum_by chunks c.args.packets.now = search rules in
    total ∙ by-of chunks c.args.packets.now
