-- `packet::offset` meets its contract. Assumes nothing.
use Rattle.std.proofs.Common.{ap, ◌∙◌, arith}
use Rattle.network.specs.Packet.{signed, offset}
use Rattle.network.proofs.PacketLaws.{signed_range, field_lt}
use Rattle.packet.proofs.Numbers.{back}
use Rattle.packet.proofs.offset.Goals as goal

pub signed-requires : goal.signed-requires
signed-requires c =
    let e = c.offset_field.ensures in
    let l = field_lt c.args.i c.args.p c.requires in
    omega arith

pub returns : goal.returns
unfolding offset
returns c = back c.signed.ensures (signed_range c.offset_field.result) ∙ ap signed c.offset_field.ensures
