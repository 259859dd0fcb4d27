-- `queue::node_words` meets its contract: the capacities are small. Assumes nothing.
use Rattle.std.proofs.Common.{arith, ◌≤◌}
use Rattle.network.specs.Sizes.{shape_of, largest_capacity}
use Rattle.queue.proofs.ClosedForms.{capacity-small, node-is}
use Rattle.queue.proofs.node_words.Goals as goal
use Rattle.queue.proofs.node_words.Goals.{After-capacity-escape}

-- the three capacities
small : (c : After-capacity-escape)
    → (c.capacity-injection.result ≤ largest_capacity) × (c.capacity-adaptive.result ≤ largest_capacity) × (c.capacity-escape.result ≤ largest_capacity)
small c = (
  capacity-small c.args.s _ _ c.requires c.capacity-injection.ensures,
  capacity-small c.args.s _ _ c.requires c.capacity-adaptive.ensures,
  capacity-small c.args.s _ _ c.requires c.capacity-escape.ensures,
)

pub overflow_add-result : goal.overflow_add-result
overflow_add-result c = omega (arith, small (goal.at.overflow_add-result c).After-capacity-escape)

pub overflow_mul-result : goal.overflow_mul-result
overflow_mul-result c = omega (arith, small (goal.at.overflow_mul-result c).After-capacity-escape)

pub overflow_add-result-2 : goal.overflow_add-result-2
overflow_add-result-2 c = omega (arith, small (goal.at.overflow_add-result-2 c).After-capacity-escape)

pub overflow_mul-result-2 : goal.overflow_mul-result-2
overflow_mul-result-2 c = omega (arith, small (goal.at.overflow_mul-result-2 c).After-capacity-escape)

pub overflow_add-result-3 : goal.overflow_add-result-3
overflow_add-result-3 c = omega (arith, small (goal.at.overflow_add-result-3 c).After-capacity-escape)

pub returns : goal.returns
returns c = node-is (shape_of c.args.s) _ _ c.capacity-injection.ensures c.capacity-adaptive.ensures _ c.capacity-escape.ensures
