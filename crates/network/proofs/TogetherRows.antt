-- Kept rows of moves in either order (R600 to R616): what the definitions of Together.antt give for small networks, with every number worked out by hand from
-- docs/RULES.md, as in Rows.antt. For each pair of moves: whether the queues are all different, the sources, the targets; then what both orders answer and
-- leave. Order: the queues of a move; moves that go together; two deliveries at one node; three moves; a target that is the other's source; one target; one source; two
-- entries into one ring; all of them. Assumes nothing.
use Rattle.std.specs.Prelude.{refl}
use Rattle.network.specs.TogetherRows.{together, QueuesOfMoves, LinesShow, FourQueues, GoTogether, NoTarget, TwoDeliveries, HandedOutInOrder, DeliveriesCounted, AllOut, ThreeMoves, TargetIsSource, MovesUp, HeldAfterwards, NewcomerBehind, FullAhead, OneTarget, BehindEachOther, NoRoomForTwo, OneSource, FirstGoesFirst, TwoOfOneRing, TwoEntries, TogetherRows}

queues-of-moves : QueuesOfMoves
unfolding together
queues-of-moves = (refl, refl)

lines-show : LinesShow
unfolding together
lines-show = refl

four-queues : FourQueues
unfolding together
four-queues = refl

go-together : GoTogether
unfolding together
go-together = (refl, refl)

no_target : NoTarget
unfolding together
no_target = refl

two-deliveries : TwoDeliveries
unfolding together
two-deliveries = (refl, refl)

handed-out-in-order : HandedOutInOrder
unfolding together
handed-out-in-order = (refl, refl, refl)

deliveries-counted : DeliveriesCounted
unfolding together
deliveries-counted = refl

all-out-either-way : AllOut
unfolding together
all-out-either-way = (refl, refl)

three-moves : ThreeMoves
unfolding together
three-moves = (refl, refl, refl, refl, refl, refl)

target-is-source : TargetIsSource
unfolding together
target-is-source = refl

moves-up : MovesUp
unfolding together
moves-up = (refl, refl)

held-afterwards : HeldAfterwards
unfolding together
held-afterwards = (refl, refl, refl)

newcomer-behind : NewcomerBehind
unfolding together
newcomer-behind = refl

full-ahead : FullAhead
unfolding together
full-ahead = (refl, refl)

one-target : OneTarget
unfolding together
one-target = refl

behind-each-other : BehindEachOther
unfolding together
behind-each-other = (refl, refl)

no-room-for-two : NoRoomForTwo
unfolding together
no-room-for-two = (refl, refl)

one-source : OneSource
unfolding together
one-source = refl

first-goes-first : FirstGoesFirst
unfolding together
first-goes-first = (refl, refl)

two-of-one-ring : TwoOfOneRing
unfolding together
two-of-one-ring = refl

two-entries : TwoEntries
unfolding together
two-entries = (refl, refl, refl)

pub together_rows : TogetherRows
together_rows =
    record {
      queues-of-moves = queues-of-moves;
      lines-show = lines-show;
      four-queues = four-queues;
      go-together = go-together;
      no_target = no_target;
      two-deliveries = two-deliveries;
      handed-out-in-order = handed-out-in-order;
      deliveries-counted = deliveries-counted;
      all-out = all-out-either-way;
      three-moves = three-moves;
      target-is-source = target-is-source;
      moves-up = moves-up;
      held-afterwards = held-afterwards;
      newcomer-behind = newcomer-behind;
      full-ahead = full-ahead;
      one-target = one-target;
      behind-each-other = behind-each-other;
      no-room-for-two = no-room-for-two;
      one-source = one-source;
      first-goes-first = first-goes-first;
      two-of-one-ring = two-of-one-ring;
      two-entries = two-entries;
    }
