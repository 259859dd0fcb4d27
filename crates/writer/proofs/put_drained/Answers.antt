-- `writer::put_drained` meets its contract: the packets, which are the first words of the ledger, then the line. Assumes nothing.
use Rattle.std.proofs.Common.{sym, ℕ, ◌≤◌, ◌^◌, ◌<◌, arith, length, get_or, take}
use Rattle.sheet.specs.Output.{packet_lines, drained_lines, Room}
use Rattle.fields.proofs.Pages.{puts-behind}
use Rattle.writer.proofs.DrainRoom.{packets-room, drain-room}
use Rattle.writer.proofs.put_drained.Goals as goal
use Rattle.writer.proofs.put_drained.Goals.{After-drained_delivered-delivered}

-- from where the number of packets is known
within : (d : After-drained_delivered-delivered) → d.drained_delivered-delivered.result ≤ length d.args.ledger.now
within d = omega arith

words : (d : After-drained_delivered-delivered) (i : ℕ) → get_or d.args.ledger.now i 0 < 2 ^ 64
words d i = (d.type_inv.ledger i).fits

room : (d : After-drained_delivered-delivered)
    → Room d.args.page.now.out.now d.args.page.now.at (packet_lines (take d.drained_delivered-delivered.result d.args.ledger.now))
room d =
    packets-room d.args.page.now.out.now d.args.page.now.at d.args.ledger.now d.drained_delivered-delivered.result (words d) (within d) d.requires.drain_room_in_bounds

pub put_packets-requires : goal.put_packets-requires
put_packets-requires c = room (goal.at.put_packets-requires c).After-drained_delivered-delivered

pub put_drain-requires : goal.put_drain-requires
put_drain-requires c = drain-room c.args.page.now.out.now c.args.page.now.at c.args.ledger.now c.drained_delivered-delivered.result (words (goal.at.put_drain-requires c).After-drained_delivered-delivered) (within (goal.at.put_drain-requires c).After-drained_delivered-delivered) c.requires.drain_room_in_bounds c.put_packets.ensures.put

pub returns : goal.returns
unfolding drained_lines
returns c = rw (sym c.drained_delivered-delivered.ensures) (puts-behind c.put_packets.ensures c.put_drain.ensures (room (goal.at.returns c).After-drained_delivered-delivered))
