-- `network::drained_moves` meets its contract, by cases on the answer. Assumes nothing.
use Rattle.std.proofs.Common.{refl}
use Rattle.network.specs.Calls.{drained_moves}
use Rattle.network.proofs.drained_moves.Goals as goal

pub returns-in-Ok : goal.returns-in-Ok
unfolding drained_moves
returns-in-Ok c = rw c.in-Ok.is refl

pub returns-in-Err : goal.returns-in-Err
unfolding drained_moves
returns-in-Err c = rw c.in-Err.is refl
