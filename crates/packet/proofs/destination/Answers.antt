-- `packet::destination` meets its contract. Assumes nothing.
use Rattle.std.proofs.Common.{sym, ◌∙◌}
use Rattle.network.proofs.PacketLaws.{destination-is}
use Rattle.packet.proofs.destination.Goals as goal

pub returns : goal.returns
returns c = c.field.ensures ∙ sym (destination-is c.args.p)
