-- `headset::set_bit` meets its contract, by the law `bit-set`. Assumes nothing.
use Rattle.headset.proofs.Sets.{bit-set}
use Rattle.headset.proofs.set_bit.Goals as goal

pub returns : goal.returns
returns c = bit-set c.args.set.now c.args.k c.requires
