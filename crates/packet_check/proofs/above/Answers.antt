-- `packet_check::above` meets its contract. Assumes nothing.
use Rattle.std.proofs.Common.{arith}
use Rattle.network.proofs.PacketLaws.{field_lt}
use Rattle.packet_check.proofs.Offsets.{above-is}
use Rattle.packet_check.proofs.above.Goals as goal

pub overflow_add-result : goal.overflow_add-result
overflow_add-result c =
    let e = c.offset_field.ensures in
    let l = field_lt c.args.i c.args.p c.requires in
    omega arith

pub returns : goal.returns
returns c =
    let a = c.args in
    let e = c.offset_field.ensures in
    let l = field_lt a.i a.p c.requires in
    record { small = omega arith; offset = above-is a.i a.p _ e (omega arith) }
