-- `drains::drain_sized` meets its contract: the tables are long enough, and the set of heads begins with all of them. Assumes nothing.
use Rattle.std.proofs.Common.{sym, subst, ℕ, ◌≤◌}
use Rattle.network.specs.Sizes.{shape_of, most_nodes}
use Rattle.headset.specs.Set.{HeadsBelow}
use Rattle.ready.specs.ReadyHeads.{covered-filled}
use Rattle.network.proofs.TorusLaws.{sizes-nodes}
use Rattle.drains.proofs.drain_sized.Goals as goal

pub fill-requires-3-clause-count_le_most_nodes : goal.fill-requires-3-clause-count_le_most_nodes
fill-requires-3-clause-count_le_most_nodes g c =
    subst (λ (x : ℕ). x ≤ most_nodes) (sym c.nodes.ensures) (sizes-nodes c.args.s c.requires.network.in-range)

pub take_turns-requires-clause-kept : goal.take_turns-requires-clause-kept
take_turns-requires-clause-kept g c =
    let covered =
    covered-filled (shape_of c.args.s) c.args.words.now c.fill-3.new.set
    (subst (λ (x : ℕ). HeadsBelow c.fill-3.new.set x) c.nodes.ensures c.fill-3.ensures) in
    record { covered = covered; loaded = c.fill-2.ensures }
