-- `packet::signed` meets its contract. Assumes nothing.
use Rattle.packet.proofs.Numbers.{turned}
use Rattle.packet.proofs.signed.Goals as goal

pub returns : goal.returns
returns c = turned c.args.b c.requires
