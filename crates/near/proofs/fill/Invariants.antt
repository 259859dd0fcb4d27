-- `near::fill` meets its contract. The loop's invariant: the entries of the nodes before n are there, and the walk has come to n. Assumes nothing.
use Rattle.std.proofs.Common.{◌*◌}
use Rattle.network.specs.Sizes.{shape_of, directions}
use Rattle.torus.specs.Geometry.{WalkTo}
use Rattle.near.specs.Table.{NearTo}
use Rattle.near.proofs.fill.Given as goal

abbrev pub invariant-loop-n : goal.invariant-loop-n
invariant-loop-n l = NearTo (shape_of l.s) (directions * l.n) l.near × WalkTo l.s l.n l.place
