-- `writer::put_packets` meets its contract. The loop's invariant: this packet and those behind it are left to put. Assumes nothing.
use Rattle.std.proofs.Common.{drop}
use Rattle.sheet.specs.Output.{packet_lines}
use Rattle.fields.proofs.Pages.{Left}
use Rattle.writer.proofs.put_packets.Given as goal

abbrev pub invariant-loop-p : goal.invariant-loop-p
invariant-loop-p l = Left l.initial.page (packet_lines l.packets) l.page (packet_lines (drop l.p-index l.packets))
