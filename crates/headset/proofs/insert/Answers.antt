-- `headset::insert` meets its contract, by the law `inserted`. Assumes nothing.
use Rattle.headset.proofs.Sets.{inserted}
use Rattle.headset.proofs.insert.Goals as goal

pub returns : goal.returns
returns c = inserted c.args.set.now c.unite.new.set c.args.h c.unite.ensures
