-- `packet::upper_spare` meets its contract. Assumes nothing.
use Rattle.std.proofs.Common.{sym, ◌∙◌}
use Rattle.network.proofs.PacketLaws.{upper_spare-is}
use Rattle.packet.proofs.upper_spare.Goals as goal

pub returns : goal.returns
returns c = c.field.ensures ∙ sym (upper_spare-is c.args.p)
