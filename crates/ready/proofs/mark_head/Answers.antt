-- `ready::mark_head` meets its contract. Assumes nothing.
use Rattle.std.proofs.Common.{◌<◌, lt_of_lt_of_le, arith}
use Rattle.network.specs.Sizes.{shape_of, most_nodes}
use Rattle.network.proofs.TorusLaws.{sizes-nodes}
use Rattle.ready.specs.ReadyHeads.{source-marked}
use Rattle.ready.proofs.mark_head.Goals as goal
use Rattle.ready.proofs.mark_head.Goals.{Start}

few : (c : Start) → c.args.n < most_nodes
few c = lt_of_lt_of_le c.requires.t.1 (sizes-nodes c.args.s c.requires.t.0)

pub overflow_mul-n : goal.overflow_mul-n
overflow_mul-n c = omega (arith, few (goal.at.overflow_mul-n c).Start)

pub overflow_add-n : goal.overflow_add-n
overflow_add-n c = let q = c.requires.t.2 in omega (arith, few (goal.at.overflow_add-n c).Start)

pub insert-requires : goal.insert-requires
insert-requires c = let q = c.requires.t.2 in record { set = c.requires.set; h_lt_heads = omega (arith, few (goal.at.insert-requires c).Start) }

pub returns : goal.returns
returns c =
    source-marked (shape_of c.args.s) c.args.n c.args.q c.args.ready.now c.insert.new.set c.requires.t.1 c.requires.t.2
    c.insert.ensures
