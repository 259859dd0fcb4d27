-- The sheet has come from its start to here by reads. Assumes nothing.
use Rattle.session.specs.Reads.{sheet, Reached}
use Rattle.bench.proofs.main.Given as goal

abbrev pub invariant-loop : goal.invariant-loop
invariant-loop l = Reached l.initial.line (sheet l.store l.line l.pending)
