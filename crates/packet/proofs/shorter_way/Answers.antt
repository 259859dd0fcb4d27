-- `packet::shorter_way` meets its contract. Assumes nothing.
use Rattle.std.proofs.Common.{sym, ◌∙◌, ◌-◌, arith, w64}
use mir.Facts.{to_z_pos}
use Rattle.network.proofs.PacketLaws.{shorter_way-plus, shorter_way-minus}
use Rattle.packet.proofs.Numbers.{small-negation}
use Rattle.packet.proofs.shorter_way.Goals as goal

pub returns-then-ahead-from : goal.returns-then-ahead-from
returns-then-ahead-from c =
    let a = c.args in
    to_z_pos w64 {n = a.ahead} (omega arith) ∙ sym (shorter_way-plus a.size a.ahead a.from (let t = c.if-ahead-from.true in omega arith))

pub returns-else-ahead-from : goal.returns-else-ahead-from
returns-else-ahead-from c =
    let a = c.args in
    let m = a.size - a.ahead in
    small-negation m (m - 1) (omega arith) (omega arith) ∙ sym (shorter_way-minus a.size a.ahead a.from (let t = c.if-ahead-from.false in omega arith))
