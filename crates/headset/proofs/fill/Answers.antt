-- `headset::fill` meets its contract: the goals that the check does not find by itself. Assumes nothing.
use Rattle.headset.proofs.Sets.{filled_none}
use Rattle.headset.proofs.fill.Goals as goal

pub loop-n-init : goal.loop-n-init
loop-n-init c = filled_none c.args.set.now c.requires.set_value
