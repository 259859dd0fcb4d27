-- The sheet has come from its start to here by reads; and the list of fills is the store's. Assumes nothing.
use Rattle.session.specs.Reads.{sheet, Reached}
use Rattle.replay.specs.Replay.{FillsOf}
use Rattle.wave.proofs.main.Given as goal

abbrev pub invariant-loop : goal.invariant-loop
invariant-loop l = record { reached : Reached l.initial.line (sheet l.store l.line l.pending); fills : FillsOf l.store l.fills }
