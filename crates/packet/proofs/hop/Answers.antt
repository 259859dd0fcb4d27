-- `packet::hop` meets its contract. Assumes nothing.
use Rattle.std.proofs.Common.{◌≡◌, ap, ◌∙◌, ℕ}
use Rattle.network.specs.Packet.{offset, shrunk, hop, with_offset}
use Rattle.network.specs.PacketLaws.{OffsetRange}
use Rattle.network.proofs.PacketLaws.{offset-range, shrunk-range}
use Rattle.packet.proofs.Numbers.{back, range_back}
use Rattle.packet.proofs.hop.Goals as goal
use Rattle.packet.proofs.hop.Goals.{After-shrunk}

hop-range : (i p : ℕ) → OffsetRange (shrunk (offset i p))
hop-range i p = shrunk-range (offset i p) (offset-range i p)

-- what the call of `shrunk` gave
shrunk-is : (c : After-shrunk) → c.shrunk.result ≡ shrunk (offset c.args.i c.args.p)
shrunk-is c =
    let a = c.args in
    c.shrunk.ensures ∙ ap shrunk (back c.offset.ensures (offset-range a.i a.p))

pub shrunk-requires : goal.shrunk-requires
shrunk-requires c = let a = c.args in range_back c.offset.ensures (offset-range a.i a.p)

pub with_offset-requires : goal.with_offset-requires
with_offset-requires c = let a = c.args in (c.requires, range_back (shrunk-is (goal.at.with_offset-requires c).After-shrunk) (hop-range a.i a.p))

pub returns : goal.returns
unfolding hop
returns c =
    let a = c.args in
    c.with_offset.ensures ∙ ap (λ z. with_offset a.i z a.p) (back (shrunk-is (goal.at.returns c).After-shrunk) (hop-range a.i a.p))
