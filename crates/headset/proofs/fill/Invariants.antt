-- `headset::fill` meets its contract. The loop's invariant: the members are the heads of the nodes below n. Assumes nothing.
use Rattle.headset.specs.Set.{HeadsBelow}
use Rattle.headset.proofs.fill.Given as goal

abbrev pub invariant-loop-n : goal.invariant-loop-n
invariant-loop-n l = HeadsBelow l.set l.n
