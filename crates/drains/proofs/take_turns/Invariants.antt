-- `drains::take_turns` meets its contract. The loop's invariant: what the turns so far have come to (SoFar), the set of heads covers all
-- that have a permitted move, and the table has the loads. The measure is what is left of the budget. Assumes nothing.
use Rattle.std.proofs.Common.{◌≡◌, ◌-◌, length}
use Rattle.network.specs.Sizes.{shape_of}
use Rattle.turns.specs.Turned.{Kept}
use Rattle.drains.specs.SoFar.{SoFar}
use Rattle.drains.proofs.take_turns.Given as goal

abbrev pub invariant-loop-why : goal.invariant-loop-why
invariant-loop-why l = SoFar (shape_of l.s) l.initial.words l.budget l.initial.ledger l.words l.ledger l.moves l.delivered
    × (Kept (shape_of l.s) l.words l.ready l.loads × ((length l.words ≡ length l.initial.words) × ((length l.loads ≡ length l.initial.loads) × (length l.ledger ≡ length l.initial.ledger))))

abbrev pub decreases-loop-why : goal.decreases-loop-why
decreases-loop-why l = l.budget - l.moves
