-- `torus::step_from` meets its contract. Assumes nothing.
use Rattle.std.proofs.Common.{arith, le_trans, le_of_eq}
use Rattle.network.specs.Sizes.{shape_of, dimension_of}
use Rattle.network.proofs.TorusLaws.{sizes-torus, sizes-nodes, in_range-size}
use Rattle.torus.specs.GeometryLaws.{Ring, within-ring, neighbour-small, step-on, step-round, step_back, step-back-round}
use Rattle.torus.proofs.step_from.Goals as goal
use Rattle.torus.proofs.step_from.Goals.{After-weight-w, Start}

-- the start of the function, from its last call
abbrev start : After-weight-w → Start
start c = c.before.before

-- what is known after the two calls
ring : (c : After-weight-w)
    → Ring (shape_of (start c).args.s) (start c).args.d (start c).args.n
    (start c).args.c c.size-k.result c.weight-w.result
ring c =
    let a = (start c).args in
    let p = (start c).requires in
    record {
      torus = sizes-torus a.s p.0;
      way = p.1;
      node = p.2;
      few = sizes-nodes a.s p.0;
      at = p.3;
      round = c.size-k.ensures;
      short = le_trans (le_of_eq c.size-k.ensures) (in_range-size (shape_of a.s) (dimension_of a.d) p.0);
      step = c.weight-w.ensures;
    }

pub overflow_add-c : goal.overflow_add-c
overflow_add-c c = let r = ring (goal.at.overflow_add-c c).After-weight-w in omega (arith, within-ring r)

pub overflow_add-result : goal.overflow_add-result
overflow_add-result c = let r = ring (goal.at.overflow_add-result c).After-weight-w in omega (arith, step-on r c.if-d-eq0.true c.if-c-k.true, neighbour-small r)

pub returns-then-c-k : goal.returns-then-c-k
returns-then-c-k c = step-on (ring (goal.at.returns-then-c-k c).After-weight-w) c.if-d-eq0.true c.if-c-k.true

pub overflow_mul-result : goal.overflow_mul-result
overflow_mul-result c = let r = ring (goal.at.overflow_mul-result c).After-weight-w in omega (arith, step-round r c.if-d-eq0.true c.if-c-k.false)

pub overflow_sub-result : goal.overflow_sub-result
overflow_sub-result c = omega (arith, step-round (ring (goal.at.overflow_sub-result c).After-weight-w) c.if-d-eq0.true c.if-c-k.false)

pub returns-then-d-eq0 : goal.returns-then-d-eq0
returns-then-d-eq0 c = omega (arith, step-round (ring (goal.at.returns-then-d-eq0 c).After-weight-w) c.if-d-eq0.true c.if-c-k.false)

pub overflow_sub-result-then-c-gt0 : goal.overflow_sub-result-then-c-gt0
overflow_sub-result-then-c-gt0 c = omega (arith, step_back (ring (goal.at.overflow_sub-result-then-c-gt0 c).After-weight-w) c.if-d-eq0.false c.if-c-gt0.true)

pub returns-then-c-gt0 : goal.returns-then-c-gt0
returns-then-c-gt0 c = omega (arith, step_back (ring (goal.at.returns-then-c-gt0 c).After-weight-w) c.if-d-eq0.false c.if-c-gt0.true)

pub overflow_sub-result-2 : goal.overflow_sub-result-2
overflow_sub-result-2 c = omega (arith, within-ring (ring (goal.at.overflow_sub-result-2 c).After-weight-w))

pub overflow_mul-result-2 : goal.overflow_mul-result-2
overflow_mul-result-2 c = let r = ring (goal.at.overflow_mul-result-2 c).After-weight-w in omega (arith, step-back-round r c.if-d-eq0.false c.if-c-gt0.false, neighbour-small r)

pub overflow_add-result-2 : goal.overflow_add-result-2
overflow_add-result-2 c = let r = ring (goal.at.overflow_add-result-2 c).After-weight-w in omega (arith, step-back-round r c.if-d-eq0.false c.if-c-gt0.false, neighbour-small r)

pub returns : goal.returns
returns c = step-back-round (ring (goal.at.returns c).After-weight-w) c.if-d-eq0.false c.if-c-gt0.false
