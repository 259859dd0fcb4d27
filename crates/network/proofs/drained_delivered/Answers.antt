-- `network::drained_delivered` meets its contract, by cases on the answer. Assumes nothing.
use Rattle.std.proofs.Common.{refl}
use Rattle.network.specs.Calls.{drained_delivered}
use Rattle.network.proofs.drained_delivered.Goals as goal

pub returns-in-Ok : goal.returns-in-Ok
unfolding drained_delivered
returns-in-Ok c = rw c.in-Ok.is refl

pub returns-in-Err : goal.returns-in-Err
unfolding drained_delivered
returns-in-Err c = rw c.in-Err.is refl
