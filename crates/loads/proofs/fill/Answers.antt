-- `loads::fill` meets its contract: the goal that the check does not find by itself. Assumes nothing.
use Rattle.std.proofs.Common.{◌/◌, ◌%◌, arith}
use Rattle.network.specs.Sizes.{shape_of, directions, adaptive_queue}
use Rattle.loads.specs.Loads.{load-small}
use Rattle.loads.proofs.fill.Goals as goal

pub overflow_cast-loads : goal.overflow_cast-loads
overflow_cast-loads c =
    let i = c.loop-i.i in
    let e = c.nodes-i-end.ensures in
    let h = c.loop-i-test.true in
    let l = load-small (shape_of c.args.s) c.args.words.now (i / directions) (adaptive_queue (i % directions)) c.requires.network (omega arith) (omega arith) in
    omega (arith, c.taken-load.ensures, l)
