-- `bench::read_once` meets its contract: it leaves the sheet as the read did, or as it was. Assumes nothing.
use Rattle.session.proofs.ReadLaws.{reached-more}
use Rattle.bench.proofs.read_once.Goals as goal

pub returns-in_err-write-clause-sheet : goal.returns-in_err-write-clause-sheet
returns-in_err-write-clause-sheet g c = λ buffer reached. reached-more buffer _ _ _ c.answer_read-answered.ensures.sheet reached

pub returns-clause-sheet : goal.returns-clause-sheet
returns-clause-sheet g c = λ buffer reached. reached-more buffer _ _ _ c.answer_read-answered.ensures.sheet reached
