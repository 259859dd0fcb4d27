-- `packet::spare` meets its contract. Assumes nothing.
use Rattle.std.proofs.Common.{sym, ◌∙◌}
use Rattle.network.proofs.PacketLaws.{spare-is}
use Rattle.packet.proofs.spare.Goals as goal

pub returns : goal.returns
returns c = c.field.ensures ∙ sym (spare-is c.args.p)
