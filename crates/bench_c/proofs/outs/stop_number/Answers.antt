-- `bench_c::outs::stop_number` meets its contract: each case of the answer, and of its stop, by its definition. Assumes nothing.
use Rattle.std.proofs.Common.{refl}
use Rattle.network.specs.Calls.{drained_stop}
use Rattle.bench_c.specs.Outs.{stop_number}
use Rattle.bench_c.proofs.outs.stop_number.Goals as goal

pub returns-in-Err : goal.returns-in-Err
unfolding drained_stop stop_number
returns-in-Err c = rw c.in-Err.is refl

pub returns-in-Emptied : goal.returns-in-Emptied
unfolding drained_stop stop_number
returns-in-Emptied c = rw (c.in-Ok.is, c.in-Emptied.is) refl

pub returns-in-Spent : goal.returns-in-Spent
unfolding drained_stop stop_number
returns-in-Spent c = rw (c.in-Ok.is, c.in-Spent.is) refl

pub returns-in-Full : goal.returns-in-Full
unfolding drained_stop stop_number
returns-in-Full c = rw (c.in-Ok.is, c.in-Full.is) refl
