-- `flow::target` meets its contract. Assumes nothing.
use Rattle.network.proofs.RoutesLaws.{target_is}
use Rattle.flow.proofs.target.Goals as goal

pub returns : goal.returns
returns c = let a = c.args in target_is _ a.n a.o _ _ c.direction_of.ensures c.neighbour.ensures
