-- Kept rows: what the definitions give for small networks, with every number worked out by hand from docs/RULES.md. A definition that is wrong contradicts
-- one of them, whatever the laws and the code beside it say. A must-fail edit of a definition names the row that it breaks; so each row is a law of its
-- own, `kept_rows` has them all, and `kept_cases` (Cases.antt) takes it. Words are counted from 0, as in R42. Order: the words; places and the packet word;
-- the ranges of the sizes; the check; the order of refusals; what refused calls leave; what is read of an answer; routes; flow; first in, first out;
-- Credit; First; Drain; a run of calls; all of them. Assumes nothing.
use Rattle.std.specs.Prelude.{◌≡◌, refl, ℕ}
use Rattle.std.proofs.Common.{ap, arith}
use Rattle.network.specs.Calls.{moved_number, moved_packets, credit_number, credit_free, found_number, found_move, drained_number, drained_moves, drained_delivered, drained_stop}
use Rattle.network.specs.Run.{delivery_nodes, at_nodes, ledger_of, words_written, outcome, run, is_labelled, held_with, handed_with, hops_of, hops_with, at_destination}
use Rattle.network.specs.FirstMoves.{ByFirst}
use Rattle.network.specs.ByHand.{definitions}
use Rattle.network.specs.Rows.{HeaderMade, QueuesMade, RestAfterMake, HeaderRead, SlotsOfQueues, QueueStarts, WordsNeeded, NumberHeld, FreeSlots, OwnWordsAlone, WordsAfterOffers, HeaderAfter, WordsAfterHops, RestAfterCalls, Neighbours, OwnNeighbour, NodesOf, Targets, FieldsRead, LabelRead, OfferedWord, ShorterWay, HalfWay, RangeOfX, RangeOfY, RangeOfZ, RangeOfE, RangeOfA, RangeOfJ, OneTooMany, LoadTooLarge, LoadOfSixtyFour, LastWordSet, LeadsThere, WhereOffsetsLead, QueuesBySign, QueuesByDistance, QueuesByLowerOffsets, QueuesByMinus, LastNodeChecked, OwnNodeHeld, SpareBitSet, UpperSpareBitSet, FullRing, FullRingOfZ, RingOfAColumn, RingOfThree, RingOfTheLastRow, MostAccepted, DeliveredAndHeld, WorkOfWords, MostMoves, Make2, Make1, Check1Header, Check2, Check1Need, Check3, OfferAsCheck, MoveAsCheck, CreditAsCheck, LookAsCheck, FirstAsCheck, DrainAsCheck, Offer4, Offer2, Offer14, Offer8, Offer7, CountSpent, Move4, Move5, Move6, Move9, Move10, Move11, Move12, Move0, Credit4, Credit6, Look4, Look5, TextNumbers, RefusedMake, RefusedOffer, RefusedMove, RefusedLook, RefusedDrain, MoveTold, CreditTold, FirstTold, DrainTold, ArrivedIsDelivered, RoutesOfHeads, EscapeOfHeads, AlongTheRing, IntoTheRing, AlongTheRingOfEight, IntoTheRingOfEight, IntoAnAdaptiveQueue, OneChunkFree, OneSlotFree, DeliveryNeedsNoSlot, NewestLastByOffer, NewestLastByHop, OldestOut, LookBegins, LookByQueue, OneHopNearer, CreditAdaptive, CreditByChunks, CreditEscape, FirstPermitted, FirstByNode, FirstByQueue, FirstByRoute, FirstAtTheLastNode, FirstNone, DrainWords, DrainEmptied, DrainInOrder, DrainSpent, DrainFull, WordsAtFull, LedgerAtFull, DrainLedger, queue_of, ByFirstsMoves, PermittedMoves, RunMoves, RunTold, RunHandedOut, RunLedgers, RunWords, RunWork, LabelsCounted, AtDestination, HopsOfALabel, KeptRows}

header_made : HeaderMade
unfolding definitions
header_made = refl

queues-made : QueuesMade
unfolding definitions
queues-made = refl

rest-after-make : RestAfterMake
unfolding definitions
rest-after-make = refl

header_read : HeaderRead
unfolding definitions
header_read = (refl, refl, refl)

slots-of-queues : SlotsOfQueues
unfolding definitions
slots-of-queues = refl

queue-starts : QueueStarts
unfolding definitions
queue-starts = (refl, refl)

words-needed : WordsNeeded
unfolding definitions
words-needed = refl

number-held : NumberHeld
unfolding definitions
number-held = refl

free-slots : FreeSlots
unfolding definitions
free-slots = refl

own-words-alone : OwnWordsAlone
unfolding definitions
own-words-alone = refl

words-after-offers : WordsAfterOffers
unfolding definitions
words-after-offers = refl

header-after : HeaderAfter
unfolding definitions
header-after = refl

words-after-hops : WordsAfterHops
unfolding definitions
words-after-hops = refl

rest-after-calls : RestAfterCalls
unfolding definitions
rest-after-calls = (refl, refl, refl)

neighbours : Neighbours
unfolding definitions
neighbours = (refl, refl)

own-neighbour : OwnNeighbour
unfolding definitions
own-neighbour = refl

nodes-of : NodesOf
unfolding definitions
nodes-of = refl

targets : Targets
unfolding definitions
targets = refl

fields_read : FieldsRead
unfolding definitions
fields_read = (refl, refl)

label-read : LabelRead
unfolding definitions
label-read = refl

offered-word : OfferedWord
unfolding definitions
offered-word = refl

shorter-way : ShorterWay
unfolding definitions
shorter-way = (refl, refl)

half-way : HalfWay
unfolding definitions
half-way = refl

range-of-x : RangeOfX
unfolding definitions
range-of-x = (refl, refl)

range-of-y : RangeOfY
unfolding definitions
range-of-y = (refl, refl)

range-of-z : RangeOfZ
unfolding definitions
range-of-z = (refl, refl)

range-of-e : RangeOfE
unfolding definitions
range-of-e = (refl, refl)

range-of-a : RangeOfA
unfolding definitions
range-of-a = (refl, refl)

range-of-j : RangeOfJ
unfolding definitions
range-of-j = (refl, refl)

one-too-many : OneTooMany
unfolding definitions
one-too-many = (refl, refl, refl)

load-too-large : LoadTooLarge
unfolding definitions
load-too-large = (refl, refl)

load-of-sixty-four : LoadOfSixtyFour
unfolding definitions
load-of-sixty-four = refl

last-word-set : LastWordSet
unfolding definitions
last-word-set = (refl, refl, refl, refl)

leads-there : LeadsThere
unfolding definitions
leads-there = refl

where-offsets-lead : WhereOffsetsLead
unfolding definitions
where-offsets-lead = refl

queues-by-sign : QueuesBySign
unfolding definitions
queues-by-sign = refl

queues-by-distance : QueuesByDistance
unfolding definitions
queues-by-distance = refl

queues-by-lower-offsets : QueuesByLowerOffsets
unfolding definitions
queues-by-lower-offsets = refl

queues-by-minus : QueuesByMinus
unfolding definitions
queues-by-minus = refl

last-node-checked : LastNodeChecked
unfolding definitions
last-node-checked = refl

own-node-held : OwnNodeHeld
unfolding definitions
own-node-held = refl

spare-bit-set : SpareBitSet
unfolding definitions
spare-bit-set = refl

upper-spare-bit-set : UpperSpareBitSet
unfolding definitions
upper-spare-bit-set = refl

full-ring : FullRing
unfolding definitions
full-ring = (refl, refl)

full-ring-of-z : FullRingOfZ
unfolding definitions
full-ring-of-z = refl

ring-of-a-column : RingOfAColumn
unfolding definitions
ring-of-a-column = refl

ring-of-three : RingOfThree
unfolding definitions
ring-of-three = refl

ring-of-the-last-row : RingOfTheLastRow
unfolding definitions
ring-of-the-last-row = refl

most-accepted : MostAccepted
unfolding definitions
most-accepted = (refl, refl)

delivered-and-held : DeliveredAndHeld
unfolding definitions
delivered-and-held = (refl, refl)

work-of-words : WorkOfWords
unfolding definitions
work-of-words = refl

most-moves : MostMoves
unfolding definitions
most-moves = refl

make-2 : Make2
unfolding definitions
make-2 = refl

make-1 : Make1
unfolding definitions
make-1 = (refl, refl)

check-1-header : Check1Header
unfolding definitions
check-1-header = refl

check-2 : Check2
unfolding definitions
check-2 = refl

check-1-need : Check1Need
unfolding definitions
check-1-need = refl

check-3 : Check3
unfolding definitions
check-3 = refl

offer-as-check : OfferAsCheck
unfolding definitions
offer-as-check = refl

move-as-check : MoveAsCheck
unfolding definitions
move-as-check = refl

credit-as-check : CreditAsCheck
unfolding definitions
credit-as-check = refl

look-as-check : LookAsCheck
unfolding definitions
look-as-check = refl

first-as-check : FirstAsCheck
unfolding definitions
first-as-check = refl

drain-as-check : DrainAsCheck
unfolding definitions
drain-as-check = refl

offer-4 : Offer4
unfolding definitions
offer-4 = refl

offer-2 : Offer2
unfolding definitions
offer-2 = refl

offer-14 : Offer14
unfolding definitions
offer-14 = refl

offer-8 : Offer8
unfolding definitions
offer-8 = refl

offer-7 : Offer7
unfolding definitions
offer-7 = (refl, refl)

count-is-spent : CountSpent
unfolding definitions
count-is-spent = refl

move-4 : Move4
unfolding definitions
move-4 = refl

move-5 : Move5
unfolding definitions
move-5 = refl

move-6 : Move6
unfolding definitions
move-6 = refl

move-9 : Move9
unfolding definitions
move-9 = refl

move-10 : Move10
unfolding definitions
move-10 = refl

move-11 : Move11
unfolding definitions
move-11 = refl

move-12 : Move12
unfolding definitions
move-12 = refl

move-0 : Move0
unfolding definitions
move-0 = (refl, refl)

credit-4 : Credit4
unfolding definitions
credit-4 = refl

credit-6 : Credit6
unfolding definitions
credit-6 = refl

look-4 : Look4
unfolding definitions
look-4 = refl

look-5 : Look5
unfolding definitions
look-5 = refl

text-numbers : TextNumbers
text-numbers = refl

refused-make : RefusedMake
unfolding definitions
refused-make = (refl, refl)

refused-offer : RefusedOffer
unfolding definitions
refused-offer = (refl, refl)

refused-move : RefusedMove
unfolding definitions
refused-move = (refl, refl)

refused-look : RefusedLook
unfolding definitions
refused-look = refl

refused-drain : RefusedDrain
unfolding definitions
refused-drain = (refl, refl)

move-told : MoveTold
unfolding definitions moved_number moved_packets
move-told = (refl, refl)

credit-told : CreditTold
unfolding definitions credit_number credit_free
credit-told = (refl, refl)

first-told : FirstTold
unfolding definitions found_number found_move
first-told = (refl, refl)

drain-told : DrainTold
unfolding definitions drained_number drained_moves drained_delivered drained_stop
drain-told = (refl, refl, refl, refl)

arrived-is-delivered : ArrivedIsDelivered
unfolding definitions
arrived-is-delivered = refl

routes-of-heads : RoutesOfHeads
unfolding definitions
routes-of-heads = (refl, refl, refl)

escape-of-heads : EscapeOfHeads
unfolding definitions
escape-of-heads = refl

along-the-ring : AlongTheRing
unfolding definitions
along-the-ring = refl

into-the-ring : IntoTheRing
unfolding definitions
into-the-ring = (refl, refl)

along-the-ring-of-eight : AlongTheRingOfEight
unfolding definitions
along-the-ring-of-eight = refl

into-the-ring-of-eight : IntoTheRingOfEight
unfolding definitions
into-the-ring-of-eight = (refl, refl)

into-an-adaptive-queue : IntoAnAdaptiveQueue
unfolding definitions
into-an-adaptive-queue = refl

one-chunk-free : OneChunkFree
unfolding definitions
one-chunk-free = (refl, refl, refl)

one-slot-free : OneSlotFree
unfolding definitions
one-slot-free = (refl, refl)

delivery-needs-no-slot : DeliveryNeedsNoSlot
unfolding definitions
delivery-needs-no-slot = refl

newest-last-by-offer : NewestLastByOffer
unfolding definitions
newest-last-by-offer = refl

newest-last-by-hop : NewestLastByHop
unfolding definitions
newest-last-by-hop = refl

oldest-out : OldestOut
unfolding definitions
oldest-out = (refl, refl)

look-begins : LookBegins
unfolding definitions
look-begins = refl

look-by-queue : LookByQueue
unfolding definitions
look-by-queue = refl

one-hop-nearer : OneHopNearer
unfolding definitions
one-hop-nearer = (refl, refl, refl)

credit-adaptive : CreditAdaptive
unfolding definitions
credit-adaptive = refl

credit-by-chunks : CreditByChunks
unfolding definitions
credit-by-chunks = refl

credit-escape : CreditEscape
unfolding definitions
credit-escape = refl

first-permitted : FirstPermitted
unfolding definitions
first-permitted = refl

first-by-node : FirstByNode
unfolding definitions
first-by-node = refl

first-by-queue : FirstByQueue
unfolding definitions
first-by-queue = refl

first-by-route : FirstByRoute
unfolding definitions
first-by-route = (refl, refl)

first-at-the-last-node : FirstAtTheLastNode
unfolding definitions
first-at-the-last-node = refl

first-none : FirstNone
unfolding definitions
first-none = refl

drain-words : DrainWords
unfolding definitions
drain-words = refl

drain-emptied : DrainEmptied
unfolding definitions
drain-emptied = refl

drain-in-order : DrainInOrder
unfolding definitions
drain-in-order = refl

drain-spent : DrainSpent
unfolding definitions
drain-spent = (refl, refl)

drain-full : DrainFull
unfolding definitions
drain-full = (refl, refl)

words-at-full : WordsAtFull
unfolding definitions
words-at-full = refl

ledger-at-full : LedgerAtFull
unfolding definitions
ledger-at-full = refl

drain-ledger : DrainLedger
unfolding definitions
drain-ledger = refl

by-firsts-moves : ByFirstsMoves
unfolding definitions found_move ByFirst
by-firsts-moves = ((refl, (refl, refl)), λ e. let z : ◌≡◌ {A = ℕ} 1 2 = ap queue_of e.0 in omega arith)

-- what a run is computed with, to be unfolded by one name
running : Unit {0}
unfolding definitions moved_number moved_packets drained_moves drained_delivered delivery_nodes at_nodes ledger_of words_written outcome run
running = tt

permitted-moves : PermittedMoves
unfolding definitions
permitted-moves = (refl, λ e. let z : ◌≡◌ {A = ℕ} 12 0 = e in omega arith)

run-moves : RunMoves
unfolding running
run-moves = refl

run-told : RunTold
unfolding running
run-told = refl

run-handed-out : RunHandedOut
unfolding running
run-handed-out = (refl, refl)

run-ledgers : RunLedgers
unfolding running
run-ledgers = (refl, refl, refl)

run-words : RunWords
unfolding running
run-words = refl

run-work : RunWork
unfolding running
run-work = refl

labels-counted : LabelsCounted
unfolding running is_labelled held_with handed_with
labels-counted = (refl, refl, refl)

at-destination : AtDestination
unfolding definitions at_destination
at-destination = refl

hops-of-a-label : HopsOfALabel
unfolding definitions hops_of hops_with
hops-of-a-label = (refl, refl)

pub kept_rows : KeptRows
kept_rows =
    record {
      header_made = header_made;
      queues-made = queues-made;
      rest-after-make = rest-after-make;
      header_read = header_read;
      slots-of-queues = slots-of-queues;
      queue-starts = queue-starts;
      words-needed = words-needed;
      number-held = number-held;
      free-slots = free-slots;
      own-words-alone = own-words-alone;
      words-after-offers = words-after-offers;
      header-after = header-after;
      words-after-hops = words-after-hops;
      rest-after-calls = rest-after-calls;
      neighbours = neighbours;
      own-neighbour = own-neighbour;
      nodes-of = nodes-of;
      targets = targets;
      fields_read = fields_read;
      label-read = label-read;
      offered-word = offered-word;
      shorter-way = shorter-way;
      half-way = half-way;
      range-of-x = range-of-x;
      range-of-y = range-of-y;
      range-of-z = range-of-z;
      range-of-e = range-of-e;
      range-of-a = range-of-a;
      range-of-j = range-of-j;
      one-too-many = one-too-many;
      load-too-large = load-too-large;
      load-of-sixty-four = load-of-sixty-four;
      last-word-set = last-word-set;
      leads-there = leads-there;
      where-offsets-lead = where-offsets-lead;
      queues-by-sign = queues-by-sign;
      queues-by-distance = queues-by-distance;
      queues-by-lower-offsets = queues-by-lower-offsets;
      queues-by-minus = queues-by-minus;
      last-node-checked = last-node-checked;
      own-node-held = own-node-held;
      spare-bit-set = spare-bit-set;
      upper-spare-bit-set = upper-spare-bit-set;
      full-ring = full-ring;
      full-ring-of-z = full-ring-of-z;
      ring-of-a-column = ring-of-a-column;
      ring-of-three = ring-of-three;
      ring-of-the-last-row = ring-of-the-last-row;
      most-accepted = most-accepted;
      delivered-and-held = delivered-and-held;
      work-of-words = work-of-words;
      most-moves = most-moves;
      make-2 = make-2;
      make-1 = make-1;
      check-1-header = check-1-header;
      check-2 = check-2;
      check-1-need = check-1-need;
      check-3 = check-3;
      offer-as-check = offer-as-check;
      move-as-check = move-as-check;
      credit-as-check = credit-as-check;
      look-as-check = look-as-check;
      first-as-check = first-as-check;
      drain-as-check = drain-as-check;
      offer-4 = offer-4;
      offer-2 = offer-2;
      offer-14 = offer-14;
      offer-8 = offer-8;
      offer-7 = offer-7;
      count-is-spent = count-is-spent;
      move-4 = move-4;
      move-5 = move-5;
      move-6 = move-6;
      move-9 = move-9;
      move-10 = move-10;
      move-11 = move-11;
      move-12 = move-12;
      move-0 = move-0;
      credit-4 = credit-4;
      credit-6 = credit-6;
      look-4 = look-4;
      look-5 = look-5;
      text-numbers = text-numbers;
      refused-make = refused-make;
      refused-offer = refused-offer;
      refused-move = refused-move;
      refused-look = refused-look;
      refused-drain = refused-drain;
      move-told = move-told;
      credit-told = credit-told;
      first-told = first-told;
      drain-told = drain-told;
      arrived-is-delivered = arrived-is-delivered;
      routes-of-heads = routes-of-heads;
      escape-of-heads = escape-of-heads;
      along-the-ring = along-the-ring;
      into-the-ring = into-the-ring;
      along-the-ring-of-eight = along-the-ring-of-eight;
      into-the-ring-of-eight = into-the-ring-of-eight;
      into-an-adaptive-queue = into-an-adaptive-queue;
      one-chunk-free = one-chunk-free;
      one-slot-free = one-slot-free;
      delivery-needs-no-slot = delivery-needs-no-slot;
      newest-last-by-offer = newest-last-by-offer;
      newest-last-by-hop = newest-last-by-hop;
      oldest-out = oldest-out;
      look-begins = look-begins;
      look-by-queue = look-by-queue;
      one-hop-nearer = one-hop-nearer;
      credit-adaptive = credit-adaptive;
      credit-by-chunks = credit-by-chunks;
      credit-escape = credit-escape;
      first-permitted = first-permitted;
      first-by-node = first-by-node;
      first-by-queue = first-by-queue;
      first-by-route = first-by-route;
      first-at-the-last-node = first-at-the-last-node;
      first-none = first-none;
      drain-words = drain-words;
      drain-emptied = drain-emptied;
      drain-in-order = drain-in-order;
      drain-spent = drain-spent;
      drain-full = drain-full;
      words-at-full = words-at-full;
      ledger-at-full = ledger-at-full;
      drain-ledger = drain-ledger;
      by-firsts-moves = by-firsts-moves;
      permitted-moves = permitted-moves;
      run-moves = run-moves;
      run-told = run-told;
      run-handed-out = run-handed-out;
      run-ledgers = run-ledgers;
      run-words = run-words;
      run-work = run-work;
      labels-counted = labels-counted;
      at-destination = at-destination;
      hops-of-a-label = hops-of-a-label;
    }
