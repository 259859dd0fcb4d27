-- `changes::make_move` meets its contract, by whether the move is a delivery. Assumes nothing.
use Rattle.network.specs.Sizes.{shape_of}
use Rattle.network.proofs.RoutesLaws.{target_is}
use Rattle.changes.proofs.make_move.Goals as goal

pub move_to-requires-2 : goal.move_to-requires-2
move_to-requires-2 c =
    let a = c.args in
    record {
      network = c.requires.network;
      permitted = c.requires.permitted;
      there_value = λ away. target_is (shape_of a.s) a.n a.o _ _ c.direction_of.ensures c.neighbour-there.ensures;
    }
