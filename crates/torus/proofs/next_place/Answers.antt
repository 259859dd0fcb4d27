-- `torus::next_place` meets its contract: the goals that the check does not find by itself. Assumes nothing.
use Rattle.std.proofs.Common.{refl, arith}
use Rattle.network.specs.Sizes.{shape_of}
use Rattle.network.proofs.TorusLaws.{in_range-size}
use Rattle.torus.specs.GeometryLaws.{carry-start, carry-end, carry-more, carry-round}
use Rattle.torus.proofs.next_place.Goals as goal

pub loop-i-init : goal.loop-i-init
loop-i-init c = carry-start _ _ c.requires

pub overflow_add-c : goal.overflow_add-c
overflow_add-c c =
    let b = c.loop-i.invariant.on.below c.loop-i.i c.loop-i-test.true in
    let m = in_range-size (shape_of c.args.s) c.loop-i.i c.requires.sizes in
    omega arith

pub returns-then-c-size : goal.returns-then-c-size
returns-then-c-size c = carry-end _ _ _ _ _ _ c.requires c.loop-i.invariant c.loop-i-test.true refl c.size.ensures c.if-c-size.true

pub loop-i-preserved : goal.loop-i-preserved
loop-i-preserved c = carry-more _ _ _ _ _ _ c.loop-i.invariant c.loop-i-test.true refl c.size.ensures c.if-c-size.false

pub returns : goal.returns
returns c = carry-round _ _ _ _ c.requires c.loop-i.invariant c.loop-i-test.false
