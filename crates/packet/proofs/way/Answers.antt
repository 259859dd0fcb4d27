-- `packet::way` meets its contract. Assumes nothing.
use Rattle.std.proofs.Common.{◌<◌, ◌≤◌, arith}
use Rattle.network.specs.Sizes.{largest_ring}
use Rattle.network.proofs.PacketLaws.{ahead-lt}
use Rattle.torus.specs.GeometryLaws.{on-ring}
use Rattle.packet.proofs.way.Goals as goal
use Rattle.packet.proofs.way.Goals.{After-coordinate-to}

-- both coordinates are on the ring
record OnRing (c : After-coordinate-to) : Type 0 where
  from : c.coordinate-from.result < c.size-k.result
  to : c.coordinate-to.result < c.size-k.result
  short : c.size-k.result ≤ largest_ring

on : (c : After-coordinate-to) → OnRing c
on c =
    let a = c.args in
    let p = c.requires in
    let from = on-ring a.s a.i a.n p.0 p.1 c.coordinate-from.ensures c.size-k.ensures in
    let to = on-ring a.s a.i a.destination p.0 p.1 c.coordinate-to.ensures c.size-k.ensures in
    record { from = from.0; to = to.0; short = to.1 }

pub overflow_sub-ahead : goal.overflow_sub-ahead
overflow_sub-ahead c = let r = (on (goal.at.overflow_sub-ahead c).After-coordinate-to).from in omega arith

pub overflow_add-ahead : goal.overflow_add-ahead
overflow_add-ahead c = let r = on (goal.at.overflow_add-ahead c).After-coordinate-to in let t = r.to in let s = r.short in omega arith

pub nonzero_rem-ahead : goal.nonzero_rem-ahead
nonzero_rem-ahead c = let r = (on (goal.at.nonzero_rem-ahead c).After-coordinate-to).from in omega arith

pub shorter_way-requires : goal.shorter_way-requires
shorter_way-requires c = (ahead-lt _ _ _ (on (goal.at.shorter_way-requires c).After-coordinate-to).from, (on (goal.at.shorter_way-requires c).After-coordinate-to).short)
