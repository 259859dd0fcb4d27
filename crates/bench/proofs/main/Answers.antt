-- `bench::main` is safe and ends: the sheet is at its start, and each read leads on. Assumes nothing.
use Rattle.session.proofs.ReadLaws.{reached-start}
use Rattle.bench.proofs.main.Goals as goal

pub loop-init : goal.loop-init
loop-init c = reached-start _ _ (c.start-pending.ensures _)

pub loop-preserved : goal.loop-preserved
loop-preserved c = c.read_once.ensures.sheet _ c.loop.invariant
