-- `torus::nodes` meets its contract. Assumes nothing.
use Rattle.std.proofs.Common.{arith}
use Rattle.network.proofs.TorusLaws.{sizes-nodes}
use Rattle.torus.specs.GeometryLaws.{nodes-is, plane-most}
use Rattle.torus.proofs.nodes.Goals as goal

pub overflow_mul-result : goal.overflow_mul-result
overflow_mul-result c = let s = c.args.s in omega (arith, plane-most s c.requires, sizes-nodes s c.requires)

pub overflow_mul-result-2 : goal.overflow_mul-result-2
overflow_mul-result-2 c = let s = c.args.s in omega (arith, nodes-is s, sizes-nodes s c.requires)

pub returns : goal.returns
returns c = nodes-is c.args.s
