-- `near::fill_node` meets its contract. The loop's invariant: the entries of the directions before d are there. Assumes nothing.
use Rattle.std.proofs.Common.{◌+◌, ◌*◌}
use Rattle.network.specs.Sizes.{shape_of, directions}
use Rattle.near.specs.Table.{NearTo}
use Rattle.near.proofs.fill_node.Given as goal

abbrev pub invariant-loop-d : goal.invariant-loop-d
invariant-loop-d l = NearTo (shape_of l.s) (directions * l.n + l.d) l.near
