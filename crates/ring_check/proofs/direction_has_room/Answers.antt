-- `ring_check::direction_has_room` meets its contract. Assumes nothing.
use Rattle.std.proofs.Common.{◌*◌, arith}
use Rattle.network.specs.Sizes.{shape_of}
use Rattle.network.proofs.TorusLaws.{sizes-torus, nodes-pos}
use Rattle.ring_check.specs.RingLines.{RingsIn}
use Rattle.ring_check.proofs.RingWalks.{Found, made, found_in, found-are}
use Rattle.ring_check.proofs.direction_has_room.Goals as goal
use Rattle.ring_check.proofs.direction_has_room.Goals.{After-queue_start-first}

pub queue_start-first-requires : goal.queue_start-first-requires
queue_start-first-requires c =
    let h = c.requires.1 in
    (c.requires.0.sizes, nodes-pos (shape_of c.args.s) (sizes-torus c.args.s c.requires.0.sizes), omega arith)

-- what the calls have found
found : (c : After-queue_start-first)
    → Found c.args.s c.args.d c.node_words-node.result c.weight-weight.result c.size-size.result
    c.above-groups.result c.queue_start-first.result
found c =
    record {
      one = c.node_words-node.ensures;
      apart = c.weight-weight.ensures;
      ring = c.size-size.ensures;
      rest = c.above-groups.ensures;
      start = c.queue_start-first.ensures;
    }

inside : (c : After-queue_start-first)
    → RingsIn c.args.words.now
    (made c.args.s.escape c.node_words-node.result c.weight-weight.result c.size-size.result
    c.above-groups.result) c.queue_start-first.result
    (c.above-groups.result * (c.size-size.result * (c.weight-weight.result * c.node_words-node.result)))
    c.node_words-node.result
inside c = found_in c.requires.0 c.requires.1 (found c)

pub overflow_mul-step : goal.overflow_mul-step
overflow_mul-step c = omega (arith, inside (goal.at.overflow_mul-step c).After-queue_start-first, c.well_formed)

pub overflow_mul-group : goal.overflow_mul-group
overflow_mul-group c = omega (arith, inside (goal.at.overflow_mul-group c).After-queue_start-first, c.well_formed)

pub groups_room-requires : goal.groups_room-requires
groups_room-requires c = inside (goal.at.groups_room-requires c).After-queue_start-first

pub returns : goal.returns
returns c = found-are c.requires.0 c.requires.1 (found (goal.at.returns c).After-queue_start-first) _ c.groups_room.ensures
