-- `torus::coordinate` meets its contract. Assumes nothing.
use Rattle.std.proofs.Common.{arith}
use Rattle.network.specs.Sizes.{shape_of}
use Rattle.network.proofs.TorusLaws.{sizes-torus, size-pos}
use Rattle.torus.specs.GeometryLaws.{coordinate-is, weight-some}
use Rattle.torus.proofs.coordinate.Goals as goal

pub nonzero_div-result : goal.nonzero_div-result
nonzero_div-result c =
    let e = c.weight-w.ensures in
    omega (arith, weight-some c.args.s c.args.i c.requires.0 c.requires.1)

pub nonzero_rem-result : goal.nonzero_rem-result
nonzero_rem-result c =
    let e = c.size-k.ensures in
    omega (arith, size-pos (shape_of c.args.s) c.args.i (sizes-torus c.args.s c.requires.0) c.requires.1)

pub returns : goal.returns
returns c = coordinate-is c.args.s c.args.i c.args.n _ _ c.requires.1 c.size-k.ensures c.weight-w.ensures
