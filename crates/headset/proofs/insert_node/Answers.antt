-- `headset::insert_node` meets its contract, by the law `node-inserted`. Assumes nothing.
use Rattle.headset.proofs.Sets.{node-inserted}
use Rattle.headset.proofs.insert_node.Goals as goal

pub returns : goal.returns
returns c = node-inserted c.args.set.now c.unite.new.set c.args.n c.unite.ensures
