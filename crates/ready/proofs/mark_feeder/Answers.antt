-- `ready::mark_feeder` meets its contract. Assumes nothing.
use Rattle.std.proofs.Common.{◌≡◌, ℕ, ◌+◌, ◌*◌, ◌-◌, ◌/◌, ◌%◌, ◌<◌, lt_of_lt_of_le, arith}
use Rattle.network.specs.Sizes.{shape_of, nodes}
use Rattle.network.specs.Torus.{neighbour}
use Rattle.network.proofs.TorusLaws.{sizes-torus, sizes-nodes}
use Rattle.near.specs.Table.{entry-within}
use Rattle.ready.specs.ReadyHeads.{neighbour-node, before-is, feeder-marked}
use Rattle.ready.proofs.mark_feeder.Goals as goal
use Rattle.ready.proofs.mark_feeder.Goals.{After-look_up-there}

pub look_up-there-requires : goal.look_up-there-requires
look_up-there-requires c = (omega arith, lt_of_lt_of_le c.requires.t.1 (sizes-nodes c.args.s c.requires.t.0), entry-within c.args.n _ c.requires.near c.requires.t.1 (omega arith))

abbrev back : After-look_up-there → ℕ
back c = let d = c.direction_of-d.result in d / 2 * 2 + (1 - d % 2)

there-is : (c : After-look_up-there) → c.look_up-there.result ≡ neighbour (shape_of c.args.s) (back c) c.args.n
there-is c =
    c.look_up-there.ensures (shape_of c.args.s) c.requires.near c.requires.t.1

is-node : (c : After-look_up-there) → c.look_up-there.result < nodes (shape_of c.args.s)
is-node c =
    let e = c.direction_of-d.ensures in
    neighbour-node (shape_of c.args.s) (back c) c.args.n c.look_up-there.result (sizes-torus c.args.s c.requires.t.0) c.requires.t.1 (omega arith) (there-is c)

pub insert_node-requires : goal.insert_node-requires
insert_node-requires c = record { set = c.requires.set; n_lt_most_nodes = lt_of_lt_of_le (is-node (goal.at.insert_node-requires c).After-look_up-there) (sizes-nodes c.args.s c.requires.t.0) }

pub returns : goal.returns
returns c =
    feeder-marked (shape_of c.args.s) c.args.n c.args.q c.look_up-there.result c.args.ready.now c.insert_node.new.set (is-node (goal.at.returns c).After-look_up-there)
    (before-is (shape_of c.args.s) c.args.n c.args.q c.direction_of-d.result c.look_up-there.result c.direction_of-d.ensures (there-is (goal.at.returns c).After-look_up-there))
    c.insert_node.ensures
