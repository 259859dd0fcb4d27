-- `headset::clear_bit` meets its contract, by the law `bit-cleared`. Assumes nothing.
use Rattle.headset.proofs.Sets.{bit-cleared}
use Rattle.headset.proofs.clear_bit.Goals as goal

pub returns-clause-words : goal.returns-clause-words
returns-clause-words c = bit-cleared c.args.set.now c.args.k c.requires
