-- `torus::weight` meets its contract: the goal that the check does not find by itself. Assumes nothing.
use Rattle.std.proofs.Common.{arith}
use Rattle.network.proofs.TorusLaws.{sizes-nodes}
use Rattle.torus.specs.GeometryLaws.{plane-most}
use Rattle.torus.proofs.weight.Goals as goal

pub overflow_mul-result : goal.overflow_mul-result
overflow_mul-result c = omega (arith, plane-most c.args.s c.requires.0, sizes-nodes c.args.s c.requires.0)
