-- `packet::shrunk` meets its contract. Assumes nothing.
use Rattle.packet.proofs.Numbers.{shrunk-back}
use Rattle.packet.proofs.shrunk.Goals as goal

pub returns : goal.returns
returns c = shrunk-back c.requires c.signum.ensures.value
