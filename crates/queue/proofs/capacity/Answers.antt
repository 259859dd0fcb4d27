-- `queue::capacity` meets its contract, a law for each kind of queue. Assumes nothing.
use Rattle.std.proofs.Common.{sym, arith}
use Rattle.queue.proofs.ClosedForms.{capacity-injection, capacity-escape, capacity-adaptive}
use Rattle.network.specs.Sizes.{shape_of}
use Rattle.network.proofs.SizesLaws.{range-of}
use Rattle.queue.proofs.capacity.Goals as goal

pub returns-then-q-eq-INJECTION_QUEUE : goal.returns-then-q-eq-INJECTION_QUEUE
unfolding shape_of
returns-then-q-eq-INJECTION_QUEUE c =
    let a = c.args in
    sym (capacity-injection (shape_of a.s) a.q (omega arith))

pub returns-then-q-gt-DIRECTIONS : goal.returns-then-q-gt-DIRECTIONS
unfolding shape_of
returns-then-q-gt-DIRECTIONS c =
    let a = c.args in
    sym (capacity-escape (shape_of a.s) a.q (omega arith))

-- the number is small
pub overflow_mul-result : goal.overflow_mul-result
unfolding shape_of
overflow_mul-result c = omega (arith, (range-of (shape_of c.args.s) c.requires).adaptive.high)

pub returns : goal.returns
unfolding shape_of
returns c =
    let a = c.args in
    sym (capacity-adaptive (shape_of a.s) a.q (omega arith) (omega arith))
