-- `ready::next_move` meets its contract. The loop's invariant: head is the lowest head of the set, and the set still covers every head that has a
-- permitted move. Assumes nothing.
use Rattle.std.proofs.Common.{◌-◌, unwrap_or}
use Rattle.headset.specs.Set.{heads, LowestMember}
use Rattle.network.specs.Sizes.{shape_of}
use Rattle.ready.specs.ReadyHeads.{Covered}
use Rattle.ready.proofs.next_move.Given as goal

abbrev pub invariant-loop-head : goal.invariant-loop-head
invariant-loop-head l = Covered (shape_of l.s) l.words l.ready × LowestMember l.ready l.head

abbrev pub decreases-loop-head : goal.decreases-loop-head
decreases-loop-head l = heads - unwrap_or l.head heads
