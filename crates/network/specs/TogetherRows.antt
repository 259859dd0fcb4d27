-- Kept rows of moves in either order (R600 to R616): what the definitions of Together.antt give for small networks, with every number worked out by hand from
-- docs/RULES.md, as in Rows.antt. For each pair of moves: whether the queues are all different, the sources, the targets; then what both orders answer and
-- leave. Order: the queues of a move; moves that go together; two deliveries at one node; three moves; a target that is the other's source; one target; one source; two
-- entries into one ring; all of them. Assumes nothing.
use Rattle.std.specs.Prelude.{◌≡◌, Bool, true, false, ℕ, ◌+◌, ◌*◌, ◌^◌, replicate, None, Some, Ok, Err}
use mathlib.Core.List.{List, [], ◌∷◌, ◌++◌, map, flat_map}
use Rattle.std.proofs.Math.Decide.{ℕ_discrete}
use Rattle.base.specs.Tests.{pair-discrete}
use Rattle.base.specs.Rearrangement.{one_if, count}
use Rattle.base.specs.Different.{all_different}
use Rattle.network.specs.declared.NamedMove.{NamedMove}
use Rattle.network.specs.Sizes.{Shape, shape_of, sized}
use Rattle.network.specs.Layout.{held}
use Rattle.network.specs.Check.{ring_has_room}
use Rattle.network.specs.Refusals.{move_refusal}
use Rattle.network.specs.Calls.{move_of, moved_number, moved_packets}
use Rattle.network.specs.Run.{Outcome, outcome, run}
use Rattle.network.specs.InLists.{words_of, nodes_of, as_moves}
use Rattle.network.specs.Together.{queue_at, same_place?, source, targets, queues_differ, sources_differ, targets_differ, output_named, outputs_differ, moved, answers, newcomers, held_after, deliveries_among}
use Rattle.network.specs.ByHand.{empty, holding, of_chunks, definitions}

-- 4 by 1 by 1, E 2, A 1, J 1: four nodes of 74 words each, 2 of queue 0, nine of an adaptive queue and three of an escape queue
abbrev ring : Shape
ring = shape_of (sized 4 1 1 2 1 1)

-- a packet of one chunk by its tag, its destination and its offset dx
abbrev tagged : ℕ → ℕ → ℕ → ℕ
tagged tag to dx = tag * 2 ^ 32 + to * 2 ^ 16 + dx * 2 ^ 10

-- the words of a node with this packet in queue 1 and no other
abbrev in_queue1 : ℕ → List ℕ
in_queue1 p = 0 ∷ 0 ∷ 1 ∷ p ∷ replicate 70 0

-- whether of two moves the queues are all different, the sources, and the targets
abbrev differ : Shape → NamedMove → NamedMove → List Bool
differ S a b = queues_differ S (a ∷ b ∷ []) ∷ sources_differ (a ∷ b ∷ []) ∷ targets_differ S (a ∷ b ∷ []) ∷ []

-- all that these are computed with
unfoldable pub together : Unit {0}
unfolding definitions one_if count all_different ℕ_discrete pair-discrete flat_map same_place? source targets queues_differ sources_differ targets_differ output_named outputs_differ answers newcomers held_after deliveries_among moved_number moved_packets outcome run
together = tt

-- The queues of a move --------------------------------------------------------------------------------------------------------------------

-- R601, R602: of a move from queue 5 of node 2, and of hops plus and minus from queue 3 of node 0, round the edge; a delivery has no target
abbrev pub QueuesOfMoves : Type 0
QueuesOfMoves = (map source (move_of 2 5 7 ∷ move_of 0 3 0 ∷ []) ≡ queue_at 2 5 ∷ queue_at 0 3 ∷ [])
    × (map (targets ring) (move_of 2 5 7 ∷ move_of 0 3 1 ∷ move_of 0 3 8 ∷ move_of 0 3 0 ∷ [])
    ≡ (queue_at 3 7 ∷ []) ∷ (queue_at 1 1 ∷ []) ∷ (queue_at 3 8 ∷ []) ∷ [] ∷ [])

-- R614: what the lines show of the pairs below: two deliveries of one node; outputs of two nodes; one output of one node; two outputs of it
abbrev pub LinesShow : Type 0
LinesShow =
    map outputs_differ
    ((move_of 1 0 0 ∷ move_of 1 1 0 ∷ [])
    ∷ (move_of 0 0 1 ∷ move_of 1 1 1 ∷ [])
    ∷ (move_of 0 0 1 ∷ move_of 0 1 1 ∷ [])
    ∷ (move_of 0 0 1 ∷ move_of 0 0 3 ∷ [])
    ∷ [])
    ≡ true ∷ true ∷ false ∷ true ∷ []

-- Moves that go together ------------------------------------------------------------------------------------------------------------------

-- a packet at node 0 and one at node 2, each with a hop to the next node
abbrev two-waiting : List ℕ
two-waiting = holding (holding (empty ring) 0 0 (tagged 1 1 1 ∷ [])) 2 0 (tagged 2 3 1 ∷ [])

-- R601 to R604: four different queues
abbrev pub FourQueues : Type 0
FourQueues = differ ring (move_of 0 0 1) (move_of 2 0 1) ≡ true ∷ true ∷ true ∷ []

-- R606: two accepted, none delivered, two moves made; 2^32 + 2^16 stands in node 1, and 2 × 2^32 + 3 × 2^16 in node 3. Behind the last node stand 7 and 9
abbrev both-moved : List ℕ
both-moved = 4 ∷ 1 ∷ 1 ∷ 2 ∷ 1 ∷ 1 ∷ 2 ∷ 0 ∷ 2 ∷ (replicate 74 0 ++ (in_queue1 4295032832 ++ (replicate 74 0 ++ (in_queue1 8590131200 ++ (7 ∷ 9 ∷ [])))))

abbrev pub GoTogether : Type 0
GoTogether = (moved (moved (two-waiting ++ (7 ∷ 9 ∷ [])) (move_of 0 0 1)) (move_of 2 0 1) ≡ both-moved)
    × (moved (moved (two-waiting ++ (7 ∷ 9 ∷ [])) (move_of 2 0 1)) (move_of 0 0 1) ≡ both-moved)

-- Two deliveries at one node --------------------------------------------------------------------------------------------------------------

-- two packets for node 1 are there, in queue 0 and in queue 1
abbrev two-arrived : List ℕ
two-arrived = holding (holding (empty ring) 1 0 (tagged 1 1 0 ∷ [])) 1 1 (tagged 2 1 0 ∷ [])

-- R602: a delivery has no target
abbrev pub NoTarget : Type 0
NoTarget = differ ring (move_of 1 0 0) (move_of 1 1 0) ≡ true ∷ true ∷ true ∷ []

-- R606, R608: each is handed out by its own move, whichever comes first
abbrev pub TwoDeliveries : Type 0
TwoDeliveries = (answers two-arrived (move_of 1 0 0 ∷ move_of 1 1 0 ∷ []) ≡ Ok (Some 4295032832) ∷ Ok (Some 8590000128) ∷ [])
    × (answers two-arrived (move_of 1 1 0 ∷ move_of 1 0 0 ∷ []) ≡ Ok (Some 8590000128) ∷ Ok (Some 4295032832) ∷ [])

-- R609: at node 1, and in the order of the moves
abbrev pub HandedOutInOrder : Type 0
HandedOutInOrder = (words_of (run (as_moves (move_of 1 0 0 ∷ move_of 1 1 0 ∷ [])) two-arrived).handed_out ≡ 4295032832 ∷ 8590000128 ∷ [])
    × (words_of (run (as_moves (move_of 1 1 0 ∷ move_of 1 0 0 ∷ [])) two-arrived).handed_out ≡ 8590000128 ∷ 4295032832 ∷ [])
    × (nodes_of (run (as_moves (move_of 1 1 0 ∷ move_of 1 0 0 ∷ [])) two-arrived).handed_out ≡ 1 ∷ 1 ∷ [])

-- R613: of a hop and two deliveries two are deliveries
abbrev pub DeliveriesCounted : Type 0
DeliveriesCounted = deliveries_among (move_of 0 0 1 ∷ move_of 1 0 0 ∷ move_of 1 1 0 ∷ []) ≡ 2

-- R613: two accepted, two delivered, two moves made, and no packet is left
abbrev pub all-out : List ℕ
all-out = 4 ∷ 1 ∷ 1 ∷ 2 ∷ 1 ∷ 1 ∷ 2 ∷ 2 ∷ 2 ∷ replicate 296 0

abbrev pub AllOut : Type 0
AllOut = (moved (moved two-arrived (move_of 1 0 0)) (move_of 1 1 0) ≡ all-out) × (moved (moved two-arrived (move_of 1 1 0)) (move_of 1 0 0) ≡ all-out)

-- A list of moves ------------------------------------------------------------------------------------------------------------------------

-- the same two, and at node 0 a packet with two hops left
abbrev three-there : List ℕ
three-there = holding two-arrived 0 0 (tagged 3 2 2 ∷ [])

-- it goes where the second delivery comes from: 3 × 2^32 + 2 × 2^16 + 2^10 stands in node 1. Three accepted, two delivered, three moves made
abbrev three_made : List ℕ
three_made = 4 ∷ 1 ∷ 1 ∷ 2 ∷ 1 ∷ 1 ∷ 3 ∷ 2 ∷ 3 ∷ (replicate 74 0 ++ (in_queue1 12885033984 ++ replicate 148 0))

-- R607, R609, R610: three moves, and the same with the last one first, which is not their reverse: all are made, the words are the same, and what is handed
-- out is the same in another order
abbrev in-turn : Outcome
in-turn = run (as_moves (move_of 0 0 1 ∷ move_of 1 0 0 ∷ move_of 1 1 0 ∷ [])) three-there

abbrev last-first : Outcome
last-first = run (as_moves (move_of 1 1 0 ∷ move_of 0 0 1 ∷ move_of 1 0 0 ∷ [])) three-there

abbrev pub ThreeMoves : Type 0
ThreeMoves = (in-turn.words ≡ three_made)
    × (last-first.words ≡ three_made)
    × (in-turn.told ≡ 3)
    × (last-first.told ≡ 3)
    × (words_of in-turn.handed_out ≡ 4295032832 ∷ 8590000128 ∷ [])
    × (words_of last-first.handed_out ≡ 8590000128 ∷ 4295032832 ∷ [])

-- A target that is the other's source -----------------------------------------------------------------------------------------------------

-- a packet with two hops left at node 0, and one with one hop left in the queue where it goes
abbrev one-behind : ℕ → List ℕ
one-behind chunks = holding (holding (empty ring) 0 0 (of_chunks chunks (tagged 1 2 2) ∷ [])) 1 1 (of_chunks chunks (tagged 2 2 1) ∷ [])

-- R603, R604: the queues are not all different, the sources are and the targets are
abbrev pub TargetIsSource : Type 0
TargetIsSource = differ ring (move_of 0 0 1) (move_of 1 1 1) ≡ false ∷ true ∷ true ∷ []

-- R606, R612: the first stands in queue 1 of node 1 and the second in queue 1 of node 2, each one hop nearer
abbrev one_on : List ℕ
one_on = 4 ∷ 1 ∷ 1 ∷ 2 ∷ 1 ∷ 1 ∷ 2 ∷ 0 ∷ 2 ∷ (replicate 74 0 ++ (in_queue1 4295099392 ++ (in_queue1 8590065664 ++ replicate 74 0)))

abbrev pub MovesUp : Type 0
MovesUp = (moved (moved (one-behind 1) (move_of 0 0 1)) (move_of 1 1 1) ≡ one_on) × (moved (moved (one-behind 1) (move_of 1 1 1)) (move_of 0 0 1) ≡ one_on)

-- R612: what the queues hold afterwards, said of both moves at once; and where nobody leaves the target, the newcomer stands behind who waits there
abbrev pub HeldAfterwards : Type 0
HeldAfterwards = (held_after ring (one-behind 1) (move_of 0 0 1 ∷ move_of 1 1 1 ∷ []) 0 0 ≡ [])
    × (held_after ring (one-behind 1) (move_of 0 0 1 ∷ move_of 1 1 1 ∷ []) 1 1 ≡ 4295099392 ∷ [])
    × (held_after ring (one-behind 1) (move_of 0 0 1 ∷ move_of 1 1 1 ∷ []) 2 1 ≡ 8590065664 ∷ [])

abbrev pub NewcomerBehind : Type 0
NewcomerBehind = held_after ring (one-behind 1) (move_of 0 0 1 ∷ []) 1 1 ≡ 8590066688 ∷ 4295099392 ∷ []

-- with eight chunks each the first does not fit behind the second, and nothing is claimed of the two
abbrev pub FullAhead : Type 0
FullAhead = (move_refusal (one-behind 8) 0 0 1 ≡ 11) × (move_refusal (one-behind 8) 1 1 1 ≡ 0)

-- One target ------------------------------------------------------------------------------------------------------------------------------

-- two packets of node 0 go to queue 1 of node 1, from queue 0 and from queue 1
abbrev same_way : ℕ → List ℕ
same_way chunks = holding (holding (empty ring) 0 0 (of_chunks chunks (tagged 1 1 1) ∷ [])) 0 1 (of_chunks chunks (tagged 2 1 1) ∷ [])

-- R603, R604: the sources are different and the targets are not
abbrev pub OneTarget : Type 0
OneTarget = differ ring (move_of 0 0 1) (move_of 0 1 1) ≡ false ∷ true ∷ false ∷ []

-- both are permitted in both orders, and stand behind each other in the order in which they came
abbrev pub BehindEachOther : Type 0
BehindEachOther = (held ring (moved (moved (same_way 1) (move_of 0 0 1)) (move_of 0 1 1)) 1 1 ≡ 4295032832 ∷ 8590000128 ∷ [])
    × (held ring (moved (moved (same_way 1) (move_of 0 1 1)) (move_of 0 0 1)) 1 1 ≡ 8590000128 ∷ 4295032832 ∷ [])

-- with eight chunks each the second does not fit, whichever it is
abbrev pub NoRoomForTwo : Type 0
NoRoomForTwo = (answers (same_way 8) (move_of 0 0 1 ∷ move_of 0 1 1 ∷ []) ≡ (Ok None) ∷ Err 11 ∷ [])
    × (answers (same_way 8) (move_of 0 1 1 ∷ move_of 0 0 1 ∷ []) ≡ (Ok None) ∷ Err 11 ∷ [])

-- One source ------------------------------------------------------------------------------------------------------------------------------

-- 4 by 4 by 1, J 2: two packets in queue 0 of node 0 go to node 5, which is (1, 1, 0): dx = dy = 1
abbrev square : Shape
square = shape_of (sized 4 4 1 2 1 2)

abbrev one-queue : List ℕ
one-queue = holding (empty square) 0 0 ((tagged 1 5 1 + 2 ^ 5) ∷ (tagged 2 5 1 + 2 ^ 5) ∷ [])

-- R603, R604: the targets are different and the sources are not
abbrev pub OneSource : Type 0
OneSource = differ square (move_of 0 0 1) (move_of 0 0 3) ≡ false ∷ false ∷ true ∷ []

-- whoever is first goes by the move that is made first: to queue 1 of node 1, where dx is used up, or to queue 3 of node 4, where dy is
abbrev pub FirstGoesFirst : Type 0
FirstGoesFirst =
    (arrived (moved (moved one-queue (move_of 0 0 1)) (move_of 0 0 3)) ≡ 4295295008 ∷ 8590263296 ∷ [])
    × (arrived (moved (moved one-queue (move_of 0 0 3)) (move_of 0 0 1)) ≡ 8590262304 ∷ 4295296000 ∷ [])
  where
    arrived : List ℕ → List ℕ
    arrived v = held square v 1 1 ++ held square v 4 3

-- Two entries into one ring ---------------------------------------------------------------------------------------------------------------

-- the packets of the first row, where the escape queues x+ of their nodes are full
abbrev half_full : List ℕ
half_full = holding (holding two-waiting 0 7 (tagged 3 1 1 ∷ tagged 4 1 1 ∷ [])) 2 7 (tagged 5 3 1 ∷ tagged 6 3 1 ∷ [])

-- R603: two queues of one ring are two queues
abbrev pub TwoOfOneRing : Type 0
TwoOfOneRing = differ ring (move_of 0 0 7) (move_of 2 0 7) ≡ true ∷ true ∷ true ∷ []

-- R606, R80: both enter, in either order, and the ring x+ keeps a free slot. The words of a node whose queue 7 holds these: 56 of the queues before it, then
-- three, then 15
abbrev in_queue7 : List ℕ → List ℕ
in_queue7 part = replicate 56 0 ++ (part ++ replicate 15 0)

abbrev both-entered : List ℕ
both-entered =
    4 ∷ 1 ∷ 1 ∷ 2 ∷ 1 ∷ 1 ∷ 6 ∷ 0 ∷ 2
    ∷ (in_queue7 (2 ∷ 12884968448 ∷ 17179935744 ∷ [])
    ++ (in_queue7 (1 ∷ 4295032832 ∷ 0 ∷ [])
    ++ (in_queue7 (2 ∷ 21475034112 ∷ 25770001408 ∷ []) ++ in_queue7 (1 ∷ 8590131200 ∷ 0 ∷ []))))

abbrev pub TwoEntries : Type 0
TwoEntries = (moved (moved half_full (move_of 0 0 7)) (move_of 2 0 7) ≡ both-entered)
    × (moved (moved half_full (move_of 2 0 7)) (move_of 0 0 7) ≡ both-entered)
    × (ring_has_room ring both-entered 0 0 ≡ true)

-- All of them -----------------------------------------------------------------------------------------------------------------------------

pub record TogetherRows : Type 0 where
  pub queues-of-moves : QueuesOfMoves
  pub lines-show : LinesShow
  pub four-queues : FourQueues
  pub go-together : GoTogether
  pub no_target : NoTarget
  pub two-deliveries : TwoDeliveries
  pub handed-out-in-order : HandedOutInOrder
  pub deliveries-counted : DeliveriesCounted
  pub all-out : AllOut
  pub three-moves : ThreeMoves
  pub target-is-source : TargetIsSource
  pub moves-up : MovesUp
  pub held-afterwards : HeldAfterwards
  pub newcomer-behind : NewcomerBehind
  pub full-ahead : FullAhead
  pub one-target : OneTarget
  pub behind-each-other : BehindEachOther
  pub no-room-for-two : NoRoomForTwo
  pub one-source : OneSource
  pub first-goes-first : FirstGoesFirst
  pub two-of-one-ring : TwoOfOneRing
  pub two-entries : TwoEntries
