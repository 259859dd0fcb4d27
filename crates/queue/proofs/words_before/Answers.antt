-- `queue::words_before` meets its contract, a law for each of its three answers. Assumes nothing.
use Rattle.std.proofs.Common.{◌*◌, ◌-◌, ◌≤◌, arith}
use Rattle.network.specs.Sizes.{shape_of, directions, largest_capacity, escape_queue}
use Rattle.queue.proofs.ClosedForms.{before-none, before-few, before-many, product_small, capacity-small}
use Rattle.queue.proofs.words_before.Goals as goal
use Rattle.queue.proofs.words_before.Goals.{After-capacity-adaptive, After-capacity-escape, Then-q-le-FIRST_ESCAPE}

pub returns-then-q-eq0 : goal.returns-then-q-eq0
returns-then-q-eq0 c =
    let a = c.args in
    before-none (shape_of a.s) a.q (omega arith)

-- the capacities of the injection queue and of an adaptive queue
small : (c : After-capacity-adaptive) → (c.capacity-injection.result ≤ largest_capacity) × (c.capacity-adaptive.result ≤ largest_capacity)
small c =
    (capacity-small c.args.s _ _ c.requires.0 c.capacity-injection.ensures, capacity-small c.args.s _ _ c.requires.0 c.capacity-adaptive.ensures)

pub overflow_add-result : goal.overflow_add-result
overflow_add-result c = omega (arith, small (goal.at.overflow_add-result c).After-capacity-adaptive)

adaptive : (c : Then-q-le-FIRST_ESCAPE) → (c.args.q - 1) * c.capacity-adaptive.result ≤ 2 * directions * largest_capacity
adaptive c =
    product_small (c.args.q - 1) c.capacity-adaptive.result (2 * directions) largest_capacity (omega arith) (small c.before).1

pub overflow_mul-result : goal.overflow_mul-result
overflow_mul-result c = omega (arith, adaptive (goal.at.overflow_mul-result c).Then-q-le-FIRST_ESCAPE)

pub overflow_add-result-then-q-le-FIRST_ESCAPE : goal.overflow_add-result-then-q-le-FIRST_ESCAPE
overflow_add-result-then-q-le-FIRST_ESCAPE c = omega (arith, small (goal.at.overflow_add-result-then-q-le-FIRST_ESCAPE c).After-capacity-adaptive, adaptive (goal.at.overflow_add-result-then-q-le-FIRST_ESCAPE c).Then-q-le-FIRST_ESCAPE)

pub returns-then-q-le-FIRST_ESCAPE : goal.returns-then-q-le-FIRST_ESCAPE
returns-then-q-le-FIRST_ESCAPE c =
    let a = c.args in
    before-few (shape_of a.s) _ _ c.capacity-injection.ensures c.capacity-adaptive.ensures a.q (omega arith) (omega arith)

pub overflow_add-result-2 : goal.overflow_add-result-2
overflow_add-result-2 c = omega (arith, small (goal.at.overflow_add-result-2 c).After-capacity-adaptive)

pub overflow_mul-result-2 : goal.overflow_mul-result-2
overflow_mul-result-2 c = omega (arith, small (goal.at.overflow_mul-result-2 c).After-capacity-adaptive)

pub overflow_add-result-3 : goal.overflow_add-result-3
overflow_add-result-3 c = omega (arith, small (goal.at.overflow_add-result-3 c).After-capacity-adaptive)

escape : (c : After-capacity-escape) → (c.args.q - escape_queue 0) * c.capacity-escape.result ≤ 2 * directions * largest_capacity
escape c =
    product_small (c.args.q - escape_queue 0) c.capacity-escape.result (2 * directions) largest_capacity (omega arith)
    (capacity-small c.args.s _ _ c.requires.0 c.capacity-escape.ensures)

pub overflow_mul-result-3 : goal.overflow_mul-result-3
overflow_mul-result-3 c = omega (arith, escape (goal.at.overflow_mul-result-3 c).After-capacity-escape)

pub overflow_add-result-4 : goal.overflow_add-result-4
overflow_add-result-4 c = omega (arith, small (goal.at.overflow_add-result-4 c).After-capacity-adaptive, escape (goal.at.overflow_add-result-4 c).After-capacity-escape)

pub returns : goal.returns
returns c =
    let a = c.args in
    before-many (shape_of a.s) _ _ c.capacity-injection.ensures c.capacity-adaptive.ensures a.q _ c.capacity-escape.ensures (omega arith)
