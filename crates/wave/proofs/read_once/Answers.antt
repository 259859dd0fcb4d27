-- `wave::read_once` meets its contract: it leaves the sheet as the read did, or does not go on. Assumes nothing.
use Rattle.session.proofs.ReadLaws.{reached-more}
use Rattle.wave.proofs.read_once.Goals as goal

pub returns-clause-sheet : goal.returns-clause-sheet
returns-clause-sheet g c = λ buffer reached. reached-more buffer _ _ _ c.in_ok-pending.ensures.sheet reached
