-- `loads::fill` meets its contract. The loop's invariant: the entries before i are there. Assumes nothing.
use Rattle.network.specs.Sizes.{shape_of}
use Rattle.near.specs.Table.{TableTo}
use Rattle.loads.specs.Loads.{load_in}
use Rattle.loads.proofs.fill.Given as goal

abbrev pub invariant-loop-i : goal.invariant-loop-i
invariant-loop-i l = TableTo (shape_of l.s) (load_in (shape_of l.s) l.words) l.i l.loads
