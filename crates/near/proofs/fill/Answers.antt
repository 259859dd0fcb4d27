-- `near::fill` meets its contract: the goals that the check does not find by itself. Assumes nothing.
use Rattle.network.specs.Sizes.{shape_of}
use Rattle.network.specs.Torus.{neighbour}
use Rattle.torus.specs.GeometryLaws.{walk_start}
use Rattle.near.specs.Table.{table_none}
use Rattle.near.proofs.fill.Goals as goal

pub loop-n-init : goal.loop-n-init
loop-n-init c = (table_none (shape_of c.args.s) (neighbour (shape_of c.args.s)) c.args.near.now c.requires.1, walk_start _ c.requires.0)
