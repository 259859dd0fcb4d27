-- `wave::main` is safe and ends: the sheet is at its start, and each read leads on. Assumes nothing.
use Rattle.std.proofs.Common.{[]}
use Rattle.session.proofs.ReadLaws.{reached-start}
use Rattle.replay.proofs.FillsLaws.{fills-start}
use Rattle.wave.proofs.main.Goals as goal

pub loop-init : goal.loop-init
loop-init c = record { reached = reached-start _ _ (c.start-pending.ensures _); fills = fills-start _ [] _ _ (c.start-pending.ensures []) }
