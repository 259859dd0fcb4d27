-- `near::fill_entry` meets its contract. Assumes nothing.
use Rattle.std.proofs.Common.{arith}
use Rattle.network.specs.Sizes.{shape_of}
use Rattle.network.proofs.TorusLaws.{sizes-torus, sizes-nodes, neighbour-lt}
use Rattle.near.proofs.fill_entry.Goals as goal

pub overflow_cast-near : goal.overflow_cast-near
overflow_cast-near c =
    let e = c.step_from-there.ensures in
    let l = neighbour-lt (shape_of c.args.s) c.args.d c.args.n (sizes-torus c.args.s c.requires.t.0) c.requires.t.1 c.requires.t.2 in
    let m = sizes-nodes c.args.s c.requires.t.0 in
    omega arith
