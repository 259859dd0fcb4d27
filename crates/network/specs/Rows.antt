-- Kept rows: what the definitions give for small networks, with every number worked out by hand from docs/RULES.md. A definition that is wrong contradicts
-- one of them, whatever the laws and the code beside it say. A must-fail edit of a definition names the row that it breaks; so each row is a law of its
-- own, `kept_rows` has them all, and `kept_cases` (Cases.antt) takes it. Words are counted from 0, as in R42. Order: the words; places and the packet word;
-- the ranges of the sizes; the check; the order of refusals; what refused calls leave; what is read of an answer; routes; flow; first in, first out;
-- Credit; First; Drain; a run of calls; all of them. Assumes nothing.
use Rattle.std.specs.Prelude.{◌≡◌, true, false, List, [], ◌∷◌, ◌++◌, map, ℕ, ◌+◌, ◌*◌, ◌-◌, ◌%◌, ◌^◌, pos, negsuc, take, drop, set, replicate, Option, None, Some, Ok, Err}
use Rattle.network.specs.declared.NamedMove.{NamedMove}
use Rattle.network.specs.declared.Sizes.{Sizes}
use Rattle.network.specs.declared.Stop.{Stop}
use Rattle.network.specs.declared.Drained.{Drained}
use Rattle.network.specs.Sizes.{Shape, shape_of, sized, size, nodes, most_nodes, capacity}
use Rattle.network.specs.Packet.{tag, destination, chunks, spare, upper_spare, offset, label, work, hop}
use Rattle.network.specs.Torus.{neighbour, moved_by}
use Rattle.network.specs.Layout.{shape, accepted, delivered, moves_made, need, queue_start, queue_words, put_queue}
use Rattle.network.specs.Check.{packet_fits, work_left}
use Rattle.network.specs.Routes.{routes, target}
use Rattle.network.specs.Refusals.{bad_line, short_page, network_refusal, make_refusal, offer_refusal, move_refusal, look_refusal}
use Rattle.network.specs.Calls.{make_words, offered, offer_words, move_words, move_answer, credit_answer, look_part, look_at, first_answer, drain_words, drain_ledger, drain_answer, Answer, drain_of}
use Rattle.network.specs.Calls.{move_of, Delivery, moved_number, moved_packets, credit_number, credit_free, found_number, found_move, drained_number, drained_moves, drained_delivered, drained_stop}
use Rattle.network.specs.Choices.{Permits}
use Rattle.network.specs.Run.{move, drain, Ledger, Outcome, run, held_with, handed_with, hops_with, at_destination}
use Rattle.network.specs.FirstMoves.{ByFirst}
use Rattle.network.specs.ByHand.{packet, here, of_chunks, empty, holding, only, chosen}

-- the numbers of the queues
abbrev thirteen : List ℕ
thirteen = 0 ∷ 1 ∷ 2 ∷ 3 ∷ 4 ∷ 5 ∷ 6 ∷ 7 ∷ 8 ∷ 9 ∷ 10 ∷ 11 ∷ 12 ∷ []

-- the words with these numbers of packets accepted, packets delivered and moves made
abbrev counting : List ℕ → ℕ → ℕ → ℕ → List ℕ
counting w a d m = set (set (set w 6 a) 7 d) 8 m

-- The words -----------------------------------------------------------------------------------------------------------------------------

-- 3 by 1 by 2, E 4, A 5, J 6: six different sizes. A node has 13 + 6 + 48 × 5 + 6 × 4 = 283 words, six nodes 1698, and with the header there are 1707
abbrev uneven : Shape
uneven = shape_of (sized 3 1 2 4 5 6)

-- Make in a store that is two words longer, where all words are 7 before
abbrev made : List ℕ
made = make_words uneven (replicate 1709 7)

-- R42, R92: the sizes in their order, and three counters 0
abbrev pub HeaderMade : Type 0
HeaderMade = take 9 made ≡ 3 ∷ 1 ∷ 2 ∷ 4 ∷ 5 ∷ 6 ∷ 0 ∷ 0 ∷ 0 ∷ []

-- R91: no packet anywhere
abbrev pub QueuesMade : Type 0
QueuesMade = take 1698 (drop 9 made) ≡ replicate 1698 0

-- R48: behind the last node Make leaves what there was
abbrev pub RestAfterMake : Type 0
RestAfterMake = drop 1707 made ≡ 7 ∷ 7 ∷ []

-- R42: a header with nine different words, as it is read
abbrev nine-different : List ℕ
nine-different = 3 ∷ 1 ∷ 2 ∷ 4 ∷ 5 ∷ 6 ∷ 9 ∷ 8 ∷ 7 ∷ []

abbrev pub HeaderRead : Type 0
HeaderRead = (map (size (shape nine-different)) (0 ∷ 1 ∷ 2 ∷ []) ≡ 3 ∷ 1 ∷ 2 ∷ [])
    × ((shape nine-different).escape ∷ (shape nine-different).adaptive ∷ (shape nine-different).injection ∷ [] ≡ 4 ∷ 5 ∷ 6 ∷ [])
    × (accepted nine-different ∷ delivered nine-different ∷ moves_made nine-different ∷ [] ≡ 9 ∷ 8 ∷ 7 ∷ [])

-- R22 to R24, R28, R31 to R34: the capacities of the thirteen queues, J slots in queue 0, 8 × A chunks in six and E slots in six
abbrev pub SlotsOfQueues : Type 0
SlotsOfQueues = map (capacity uneven) thirteen ≡ 6 ∷ 40 ∷ 40 ∷ 40 ∷ 40 ∷ 40 ∷ 40 ∷ 4 ∷ 4 ∷ 4 ∷ 4 ∷ 4 ∷ 4 ∷ []

-- R43, R44, R47: where the queues of node 1 begin. The node begins at 9 + 283 = 292; queue 0 has 7 words, each of the adaptive queues 41, each of the escape
-- queues 5. Node 5, the last, begins at 9 + 5 × 283 = 1424
abbrev pub QueueStarts : Type 0
QueueStarts = (map (queue_start uneven 1) thirteen ≡ 292 ∷ 299 ∷ 340 ∷ 381 ∷ 422 ∷ 463 ∷ 504 ∷ 545 ∷ 550 ∷ 555 ∷ 560 ∷ 565 ∷ 570 ∷ [])
    × (queue_start uneven 5 0 ≡ 1424)

-- 2 by 1 by 1, E 4, A 1, J 3. A node has 13 + 3 + 48 × 1 + 6 × 4 = 88 words: queue 0 four, the adaptive queues nine each, the escape queues five each. Node 0
-- begins at 9, node 1 at 97, and there are 185 words
abbrev small : Shape
small = shape_of (sized 2 1 1 4 1 3)

-- R47: the words that both need; and those of the listing (R257), 4 by 1 by 1, E 2, A 1, J 1: four nodes of 13 + 1 + 48 + 12 = 74 words
abbrev pub WordsNeeded : Type 0
WordsNeeded = need uneven ∷ need small ∷ need (shape_of (sized 4 1 1 2 1 1)) ∷ [] ≡ 1707 ∷ 185 ∷ 305 ∷ []

-- R44, R45: the first words of a queue of four slots with packets 7 and 8, and R46: its other words
abbrev pub NumberHeld : Type 0
NumberHeld = take 3 (queue_words 4 (7 ∷ 8 ∷ [])) ≡ 2 ∷ 7 ∷ 8 ∷ []

abbrev pub FreeSlots : Type 0
FreeSlots = drop 3 (queue_words 4 (7 ∷ 8 ∷ [])) ≡ 0 ∷ 0 ∷ []

-- R49: a queue is written into words that are all 5, queue 12 of node 0: in front of its word 92 and behind its word 96 nothing is changed
abbrev pub OwnWordsAlone : Type 0
OwnWordsAlone = take 92 (put_queue small (replicate 185 5) 0 12 (8 ∷ [])) ++ drop 97 (put_queue small (replicate 185 5) 0 12 (8 ∷ [])) ≡ replicate 180 5

-- three packets for node 1, of 3, 5 and 8 chunks, with tags 5, 6 and the largest that there is. At node 0 each has dx = 1; two of them as they have arrived
abbrev five : ℕ
five = 5 * 2 ^ 32 + 2 * 2 ^ 28 + 2 ^ 16 + 2 ^ 10

abbrev six : ℕ
six = 6 * 2 ^ 32 + 4 * 2 ^ 28 + 2 ^ 16 + 2 ^ 10

abbrev last : ℕ
last = 4294967295 * 2 ^ 32 + 7 * 2 ^ 28 + 2 ^ 16 + 2 ^ 10

abbrev five-arrived : ℕ
five-arrived = 5 * 2 ^ 32 + 2 * 2 ^ 28 + 2 ^ 16

abbrev six-arrived : ℕ
six-arrived = 6 * 2 ^ 32 + 4 * 2 ^ 28 + 2 ^ 16

-- they are offered at node 0
abbrev offered-three : List ℕ
offered-three = offer_words (offer_words (offer_words (empty small) 0 1 5 3) 0 1 6 5) 0 1 4294967295 8

-- R44 to R46, R60, R61, R69, R101, R102: every word then. Queue 0 of node 0 holds three and is full; the other 84 words of node 0 and the 88 of node 1 are 0
abbrev pub WordsAfterOffers : Type 0
WordsAfterOffers = offered-three ≡ 2 ∷ 1 ∷ 1 ∷ 4 ∷ 1 ∷ 3 ∷ 3 ∷ 0 ∷ 0 ∷ 3 ∷ five ∷ six ∷ last ∷ replicate 172 0

-- R42, R102, R111, R112: the header after three offers, a hop and a delivery
abbrev pub HeaderAfter : Type 0
HeaderAfter = take 9 (move_words (move_words offered-three 0 0 1) 1 1 0) ≡ 2 ∷ 1 ∷ 1 ∷ 4 ∷ 1 ∷ 3 ∷ 3 ∷ 1 ∷ 2 ∷ []

-- the same three packets by hand in that queue, and two hops to queue 1 of node 1, which has eight chunks and so just room for both
abbrev waiting : List ℕ
waiting = holding (empty small) 0 0 (five ∷ six ∷ last ∷ [])

abbrev two-hops : List ℕ
two-hops = move_words (move_words waiting 0 0 1) 0 0 1

-- R44 to R46, R108 to R111: every word then. Node 0: queue 0 holds the last one, in front, and 86 words are 0; node 1: 4 words of queue 0, then queue 1 with
-- two packets whose dx is used up, then 81 words
abbrev pub WordsAfterHops : Type 0
WordsAfterHops = two-hops
    ≡ 2 ∷ 1 ∷ 1 ∷ 4 ∷ 1 ∷ 3 ∷ 3 ∷ 0 ∷ 2 ∷ 1 ∷ last ∷ (replicate 86 0 ++ (replicate 4 0 ++ (2 ∷ five-arrived ∷ six-arrived ∷ replicate 81 0)))

-- R48: an Offer, a Move and a Drain leave the two words behind the last node, which begin at 185
abbrev pub RestAfterCalls : Type 0
RestAfterCalls = (drop 185 (offer_words (waiting ++ (7 ∷ 7 ∷ [])) 1 0 5 1) ≡ 7 ∷ 7 ∷ [])
    × (drop 185 (move_words (waiting ++ (7 ∷ 7 ∷ [])) 0 0 7) ≡ 7 ∷ 7 ∷ [])
    × (drop 185 (drain_words (waiting ++ (7 ∷ 7 ∷ [])) 9 9) ≡ 7 ∷ 7 ∷ [])

-- Places, and the packet word -------------------------------------------------------------------------------------------------------------

-- R35, R36, 3 by 4 by 5: the neighbours in x+, x−, y+, y−, z+, z− of node 0 and of the last node, 59, which is (2, 3, 4). A step along y is 3 and one along z is 12;
-- round the edge it is 2 steps, 3 steps and 4 steps the other way
abbrev pub Neighbours : Type 0
Neighbours = (map (λ d. neighbour (shape_of (sized 3 4 5 2 1 1)) d 0) (0 ∷ 1 ∷ 2 ∷ 3 ∷ 4 ∷ 5 ∷ []) ≡ 1 ∷ 2 ∷ 3 ∷ 9 ∷ 12 ∷ 48 ∷ [])
    × (map (λ d. neighbour (shape_of (sized 3 4 5 2 1 1)) d 59) (0 ∷ 1 ∷ 2 ∷ 3 ∷ 4 ∷ 5 ∷ []) ≡ 57 ∷ 58 ∷ 50 ∷ 56 ∷ 11 ∷ 47 ∷ [])

-- R36, 3 by 1 by 5: the same of node 7, which is (1, 0, 2): along y, where there is one node, it is its own neighbour
abbrev pub OwnNeighbour : Type 0
OwnNeighbour = map (λ d. neighbour (shape_of (sized 3 1 5 2 1 1)) d 7) (0 ∷ 1 ∷ 2 ∷ 3 ∷ 4 ∷ 5 ∷ []) ≡ 8 ∷ 6 ∷ 7 ∷ 7 ∷ 10 ∷ 4 ∷ []

-- R30: the nodes of 3 by 4 by 5, and of the largest network, of which there are the most
abbrev pub NodesOf : Type 0
NodesOf = nodes (shape_of (sized 3 4 5 2 1 1)) ∷ nodes (shape_of (sized 16 16 16 8 8 8)) ∷ most_nodes ∷ [] ≡ 60 ∷ 4096 ∷ 4096 ∷ []

-- R107: the nodes of the targets of outputs 1 to 12 of node 0: the same six, for the adaptive queues and for the escape queues
abbrev pub Targets : Type 0
Targets = map (target (shape_of (sized 3 4 5 2 1 1)) 0) (1 ∷ 2 ∷ 3 ∷ 4 ∷ 5 ∷ 6 ∷ 7 ∷ 8 ∷ 9 ∷ 10 ∷ 11 ∷ 12 ∷ [])
    ≡ 1 ∷ 2 ∷ 3 ∷ 9 ∷ 12 ∷ 48 ∷ 1 ∷ 2 ∷ 3 ∷ 9 ∷ 12 ∷ 48 ∷ []

-- R60, R62: the fields of a word with tag 1, bit 31 set, 8 chunks, the largest destination, bit 15 set, the largest dx, dy 0, and for dz the field 31
abbrev widest : ℕ
widest = 2 ^ 32 + 2 ^ 31 + 7 * 2 ^ 28 + 4095 * 2 ^ 16 + 2 ^ 15 + 15 * 2 ^ 10 + 31

abbrev pub FieldsRead : Type 0
FieldsRead = (tag widest ∷ upper_spare widest ∷ chunks widest ∷ destination widest ∷ spare widest ∷ [] ≡ 1 ∷ 1 ∷ 8 ∷ 4095 ∷ 1 ∷ [])
    × (offset 0 widest ∷ offset 1 widest ∷ offset 2 widest ∷ [] ≡ pos 15 ∷ pos 0 ∷ negsuc 0 ∷ [])

-- R228: its label
abbrev pub LabelRead : Type 0
LabelRead = label widest ≡ 2 ^ 32 + 2 ^ 31 + 7 * 2 ^ 28 + 4095 * 2 ^ 16 + 2 ^ 15

-- R60, R61, R69: the word of an offer at node 0 to node 1 of the two, with the largest tag and six chunks: dx = 1, half-way round from an even column, and the
-- bits 31 and 15 are 0
abbrev pub OfferedWord : Type 0
OfferedWord = offered small 0 1 4294967295 6 ≡ 4294967295 * 2 ^ 32 + 5 * 2 ^ 28 + 2 ^ 16 + 2 ^ 10

-- R67: dx of offers in a ring of five, from node 0 to nodes 1, 2, 3, 4, and from node 3 to nodes 0, 1, 2, 4
abbrev pub ShorterWay : Type 0
ShorterWay = (map (λ to. offset 0 (offered (shape_of (sized 5 1 1 2 1 1)) 0 to 7 1)) (1 ∷ 2 ∷ 3 ∷ 4 ∷ []) ≡ pos 1 ∷ pos 2 ∷ negsuc 1 ∷ negsuc 0 ∷ [])
    × (map (λ to. offset 0 (offered (shape_of (sized 5 1 1 2 1 1)) 3 to 7 1)) (0 ∷ 1 ∷ 2 ∷ 4 ∷ []) ≡ pos 2 ∷ negsuc 1 ∷ negsuc 0 ∷ pos 1 ∷ [])

-- R68: dz of offers half-way round a ring of six, from node 0 to 3, from 1 to 4, and so on round
abbrev pub HalfWay : Type 0
HalfWay = map (λ n. offset 2 (offered (shape_of (sized 1 1 6 2 1 1)) n ((n + 3) % 6) 7 1)) (0 ∷ 1 ∷ 2 ∷ 3 ∷ 4 ∷ 5 ∷ [])
    ≡ pos 3 ∷ negsuc 2 ∷ pos 3 ∷ negsuc 2 ∷ pos 3 ∷ negsuc 2 ∷ []

-- The ranges of the sizes (R21 to R24) -----------------------------------------------------------------------------------------------------

-- the words of a header with these sizes
abbrev headed : Sizes → List ℕ
headed s = s.x ∷ s.y ∷ s.z ∷ s.escape ∷ s.adaptive ∷ s.injection ∷ 0 ∷ 0 ∷ 0 ∷ []

-- one below the least and one above the most are refused by 2; the least and the most are not: Make has words enough, and nine words are too few for Check
abbrev Range : (ℕ → Sizes) → ℕ → ℕ → Type 0
Range sizes least most =
    (map (λ k. make_refusal (shape_of (sizes k)) (replicate 1200 0)) ((least - 1) ∷ least ∷ most ∷ (most + 1) ∷ []) ≡ 2 ∷ 0 ∷ 0 ∷ 2 ∷ [])
    × (map (λ k. network_refusal (headed (sizes k))) ((least - 1) ∷ least ∷ most ∷ (most + 1) ∷ []) ≡ 2 ∷ 1 ∷ 1 ∷ 2 ∷ [])

abbrev pub RangeOfX : Type 0
RangeOfX = Range (λ k. sized k 1 1 2 1 1) 1 16

abbrev pub RangeOfY : Type 0
RangeOfY = Range (λ k. sized 1 k 1 2 1 1) 1 16

abbrev pub RangeOfZ : Type 0
RangeOfZ = Range (λ k. sized 1 1 k 2 1 1) 1 16

abbrev pub RangeOfE : Type 0
RangeOfE = Range (λ k. sized 1 1 1 k 1 1) 2 8

abbrev pub RangeOfA : Type 0
RangeOfA = Range (λ k. sized 1 1 1 2 k 1) 1 8

abbrev pub RangeOfJ : Type 0
RangeOfJ = Range (λ k. sized 1 1 1 2 1 k) 1 8

-- The check --------------------------------------------------------------------------------------------------------------------------------

-- 2 by 1 by 1, E 2, A 1, J 1. A node has 13 + 1 + 48 + 12 = 74 words: two for queue 0, nine for each adaptive queue, three for each escape queue. Node 0 begins
-- at 9, node 1 at 83, and there are 157 words
abbrev two : Shape
two = shape_of (sized 2 1 1 2 1 1)

-- a packet for node 0 that has arrived there, tag 7, one chunk
abbrev seven : ℕ
seven = 7 * 2 ^ 32

-- R72: as many held as the queue has words for packets, and one more, at node 0: in queue 0, which begins at 9, in queue 1, at 11, and in queue 7, at 65
abbrev pub OneTooMany : Type 0
OneTooMany = (map (λ c. network_refusal (set (holding (empty two) 0 0 (seven ∷ [])) 9 c)) (1 ∷ 2 ∷ []) ≡ 0 ∷ 3 ∷ [])
    × (map (λ c. network_refusal (set (holding (empty two) 0 1 (replicate 8 seven)) 11 c)) (8 ∷ 9 ∷ []) ≡ 0 ∷ 3 ∷ [])
    × (map (λ c. network_refusal (set (holding (empty two) 0 7 (seven ∷ seven ∷ [])) 65 c)) (2 ∷ 3 ∷ []) ≡ 0 ∷ 3 ∷ [])

-- R27, R89, A 1, so eight chunks: what queue 1 of node 0 holds, by chunks: 8; 4 and 4; eight times 1; 4 and 5; seven times 1 and a 2. In queue 7, of two slots,
-- 8 and 8
abbrev pub LoadTooLarge : Type 0
LoadTooLarge = (map (λ cs. network_refusal (holding (empty two) 0 1 (map (λ c. of_chunks c seven) cs)))
    ((8 ∷ []) ∷ (4 ∷ 4 ∷ []) ∷ replicate 8 1 ∷ (4 ∷ 5 ∷ []) ∷ (replicate 7 1 ++ (2 ∷ [])) ∷ [])
    ≡ 0 ∷ 0 ∷ 0 ∷ 3 ∷ 3 ∷ [])
    × (network_refusal (holding (empty two) 0 7 (replicate 2 (of_chunks 8 seven))) ≡ 0)

-- the same with A 8, so 64 chunks: 64 packets of one; 63 of one and one of two
abbrev pub LoadOfSixtyFour : Type 0
LoadOfSixtyFour = map (λ c. network_refusal (holding (empty (shape_of (sized 2 1 1 2 8 1))) 0 1 (replicate 63 seven ++ (of_chunks c seven ∷ [])))) (1 ∷ 2 ∷ []) ≡ 0 ∷ 3 ∷ []

-- R73, R48: the last word of a queue of node 1 that holds nothing: of queue 0, which has words 97 to 100, of queue 6, 146 to 154, and of queue 12, 180 to 184; the
-- last word of queue 0 behind a packet, and that packet alone; and a word behind the last node, of which nothing is asked
abbrev pub LastWordSet : Type 0
LastWordSet = (map (λ i. network_refusal (set (empty small) i 1)) (100 ∷ 154 ∷ 184 ∷ []) ≡ 3 ∷ 3 ∷ 3 ∷ [])
    × (network_refusal (set (holding (empty small) 1 0 (here 1 ∷ [])) 100 1) ≡ 3)
    × (network_refusal (holding (empty small) 1 0 (here 1 ∷ [])) ≡ 0)
    × (network_refusal (empty small ++ (1 ∷ [])) ≡ 0)

-- R74, R75: in queue 0 of node 0, for node 1 with dx = 1; for node 1 with dx = 0; for node 0 with dx = 1; for node 2, which there is not
abbrev pub LeadsThere : Type 0
LeadsThere = map (λ p. network_refusal (only two 0 p))
    (packet 1 (pos 1) (pos 0) (pos 0) ∷ packet 1 (pos 0) (pos 0) (pos 0) ∷ packet 0 (pos 1) (pos 0) (pos 0) ∷ packet 2 (pos 0) (pos 0) (pos 0) ∷ [])
    ≡ 0 ∷ 3 ∷ 3 ∷ 3 ∷ []

-- R63, R75, 2 by 3 by 5: from node 0, (0, 0, 0), offsets −1, 1, −2 lead to (1, 1, 3), which is (3 × 3 + 1) × 2 + 1 = 21; from node 23, (1, 2, 3), offsets 1, 1, 2
-- lead to (0, 0, 0), and 0, −1, 2 to (1, 1, 0), which is (0 × 3 + 1) × 2 + 1 = 3
abbrev pub WhereOffsetsLead : Type 0
WhereOffsetsLead = moved_by (shape_of (sized 2 3 5 2 1 1)) (packet 0 (negsuc 0) (pos 1) (negsuc 1)) 0
    ∷ moved_by (shape_of (sized 2 3 5 2 1 1)) (packet 0 (pos 1) (pos 1) (pos 2)) 23
    ∷ moved_by (shape_of (sized 2 3 5 2 1 1)) (packet 0 (pos 0) (negsuc 0) (pos 2)) 23
    ∷ []
    ≡ 21 ∷ 0 ∷ 3 ∷ []

-- R76 to R78, 4 by 1 by 1: in which queues of node 0 a packet may stand that has dx = 1; −1; 0; 2; −2; 3. In an x queue one hop less is left than half of 4, in a
-- plus queue none back and in a minus queue none forward; the y and z queues are those of rings of one node
abbrev pub QueuesBySign : Type 0
QueuesBySign = map (λ p. chosen (λ q. packet_fits (shape_of (sized 4 1 1 2 1 1)) 0 q p) thirteen)
    (packet 1 (pos 1) (pos 0) (pos 0) ∷ packet 3 (negsuc 0) (pos 0) (pos 0) ∷ here 0
    ∷ packet 2 (pos 2) (pos 0) (pos 0) ∷ packet 2 (negsuc 1) (pos 0) (pos 0) ∷ packet 3 (pos 3) (pos 0) (pos 0) ∷ [])
    ≡ (0 ∷ 1 ∷ 7 ∷ []) ∷ (0 ∷ 2 ∷ 8 ∷ []) ∷ (0 ∷ 1 ∷ 2 ∷ 7 ∷ 8 ∷ []) ∷ (0 ∷ []) ∷ (0 ∷ []) ∷ [] ∷ []

-- R77, 4 by 4 by 4: in which queues of node 0 a packet may stand that is half-way round along x, for node 2; along y, for node 8; along z, for node 32. In the queues
-- of that dimension it would have come further than half-way; R79 keeps the first out of the escape queues of y and z, and the second out of those of z
abbrev four-cubed : Shape
four-cubed = shape_of (sized 4 4 4 2 1 1)

abbrev pub QueuesByDistance : Type 0
QueuesByDistance = map (λ p. chosen (λ q. packet_fits four-cubed 0 q p) thirteen)
    (packet 2 (pos 2) (pos 0) (pos 0) ∷ packet 8 (pos 0) (pos 2) (pos 0) ∷ packet 32 (pos 0) (pos 0) (pos 2) ∷ [])
    ≡ (0 ∷ 3 ∷ 4 ∷ 5 ∷ 6 ∷ []) ∷ (0 ∷ 1 ∷ 2 ∷ 5 ∷ 6 ∷ 7 ∷ 8 ∷ []) ∷ (0 ∷ 1 ∷ 2 ∷ 3 ∷ 4 ∷ 7 ∷ 8 ∷ 9 ∷ 10 ∷ []) ∷ []

-- R79, the same sizes: one with a hop left in x+, y+ and z+, for (1, 1, 1), which is node 21; in y+ and z+, for node 20; in z+, for node 16. Not in the minus queue of
-- an offset that is not 0, and in the escape queues of a dimension only where those of the lower ones are 0
abbrev pub QueuesByLowerOffsets : Type 0
QueuesByLowerOffsets = map (λ p. chosen (λ q. packet_fits four-cubed 0 q p) thirteen)
    (packet 21 (pos 1) (pos 1) (pos 1) ∷ packet 20 (pos 0) (pos 1) (pos 1) ∷ packet 16 (pos 0) (pos 0) (pos 1) ∷ [])
    ≡ (0 ∷ 1 ∷ 3 ∷ 5 ∷ 7 ∷ []) ∷ (0 ∷ 1 ∷ 2 ∷ 3 ∷ 5 ∷ 7 ∷ 8 ∷ 9 ∷ []) ∷ (0 ∷ 1 ∷ 2 ∷ 3 ∷ 4 ∷ 5 ∷ 7 ∷ 8 ∷ 9 ∷ 10 ∷ 11 ∷ []) ∷ []

-- R78, R79, the same sizes: one with a hop left in x−, for node 3; in y−, for node 12; in z−, for node 48. Not in the plus queues of that dimension
abbrev pub QueuesByMinus : Type 0
QueuesByMinus = map (λ p. chosen (λ q. packet_fits four-cubed 0 q p) thirteen)
    (packet 3 (negsuc 0) (pos 0) (pos 0) ∷ packet 12 (pos 0) (negsuc 0) (pos 0) ∷ packet 48 (pos 0) (pos 0) (negsuc 0) ∷ [])
    ≡ (0 ∷ 2 ∷ 3 ∷ 4 ∷ 5 ∷ 6 ∷ 8 ∷ []) ∷ (0 ∷ 1 ∷ 2 ∷ 4 ∷ 5 ∷ 6 ∷ 7 ∷ 8 ∷ 10 ∷ []) ∷ (0 ∷ 1 ∷ 2 ∷ 3 ∷ 4 ∷ 6 ∷ 7 ∷ 8 ∷ 9 ∷ 10 ∷ 12 ∷ []) ∷ []

-- R72 to R75, 3 by 1 by 1: at node 2, the last, a packet that has arrived; one for node 0 that says so too
abbrev three : Shape
three = shape_of (sized 3 1 1 2 1 1)

abbrev pub LastNodeChecked : Type 0
LastNodeChecked = map (λ p. network_refusal (holding (empty three) 2 0 (p ∷ []))) (here 2 ∷ here 0 ∷ []) ≡ 0 ∷ 3 ∷ []

-- R86: the packet for its own node in queue 0 of that node
abbrev pub OwnNodeHeld : Type 0
OwnNodeHeld = network_refusal (only two 0 seven) ≡ 0

-- R87: the same with bit 15 set
abbrev pub SpareBitSet : Type 0
SpareBitSet = network_refusal (only two 0 (seven + 2 ^ 15)) ≡ 3

-- R88: with bit 31 set
abbrev pub UpperSpareBitSet : Type 0
UpperSpareBitSet = network_refusal (only two 0 (seven + 2 ^ 31)) ≡ 3

-- R81, E 4: of the ring x+, and of the ring x−, node 0 and node 1 hold 4 and 4, 4 and 3, 3 and 4
abbrev ring_holding : ℕ → ℕ → ℕ → List ℕ
ring_holding q a b = holding (holding (empty small) 0 q (replicate a (here 0))) 1 q (replicate b (here 1))

abbrev pub FullRing : Type 0
FullRing = (network_refusal (ring_holding 7 4 4) ∷ network_refusal (ring_holding 7 4 3) ∷ network_refusal (ring_holding 7 3 4) ∷ [] ≡ 3 ∷ 0 ∷ 0 ∷ [])
    × (network_refusal (ring_holding 8 4 4) ∷ network_refusal (ring_holding 8 4 3) ∷ network_refusal (ring_holding 8 3 4) ∷ [] ≡ 3 ∷ 0 ∷ 0 ∷ [])

-- R81, R501, 1 by 1 by 2, E 2: the same of the rings z+ and z−, with 2 and 2, 2 and 1
abbrev ring-of-z : ℕ → ℕ → List ℕ
ring-of-z q b = holding (holding (empty (shape_of (sized 1 1 2 2 1 1))) 0 q (here 0 ∷ here 0 ∷ [])) 1 q (replicate b (here 1))

abbrev pub FullRingOfZ : Type 0
FullRingOfZ = network_refusal (ring-of-z 11 2) ∷ network_refusal (ring-of-z 11 1) ∷ network_refusal (ring-of-z 12 2) ∷ network_refusal (ring-of-z 12 1) ∷ []
    ≡ 3 ∷ 0 ∷ 3 ∷ 0 ∷ []

-- R80, 2 by 2 by 1, E 2: escape queues y+ that are full at nodes 0 and 2, which are one ring, and at nodes 0 and 1, which are of two
abbrev full_at : ℕ → ℕ → List ℕ
full_at m n = holding (holding (empty (shape_of (sized 2 2 1 2 1 1))) m 9 (here m ∷ here m ∷ [])) n 9 (here n ∷ here n ∷ [])

abbrev pub RingOfAColumn : Type 0
RingOfAColumn = network_refusal (full_at 0 2) ∷ network_refusal (full_at 0 1) ∷ [] ≡ 3 ∷ 0 ∷ []

-- R81, the ring x+ of three nodes, E 2: full at nodes 0 and 1, at 1 and 2, at 0 and 2, and at all three
abbrev full-in-three : List ℕ → List ℕ
full-in-three [] = empty three
full-in-three (n ∷ ns) = holding (full-in-three ns) n 7 (here n ∷ here n ∷ [])

abbrev pub RingOfThree : Type 0
RingOfThree = map (λ ns. network_refusal (full-in-three ns)) ((0 ∷ 1 ∷ []) ∷ (1 ∷ 2 ∷ []) ∷ (0 ∷ 2 ∷ []) ∷ (0 ∷ 1 ∷ 2 ∷ []) ∷ []) ≡ 0 ∷ 0 ∷ 0 ∷ 3 ∷ []

-- 2 by 2 by 1: the ring x+ of the last row, nodes 2 and 3, full; and one slot of it free
abbrev last_row : ℕ → List ℕ
last_row b = holding (holding (empty (shape_of (sized 2 2 1 2 1 1))) 2 7 (here 2 ∷ here 2 ∷ [])) 3 7 (replicate b (here 3))

abbrev pub RingOfTheLastRow : Type 0
RingOfTheLastRow = network_refusal (last_row 2) ∷ network_refusal (last_row 1) ∷ [] ≡ 3 ∷ 0 ∷ []

-- R82: accepted 2^32 − 1 passes, 2^32 does not
abbrev pub MostAccepted : Type 0
MostAccepted = (network_refusal (counting (empty two) 4294967295 4294967295 0) ≡ 0) × (network_refusal (counting (empty two) 4294967296 4294967296 0) ≡ 3)

-- R83, one packet held and two accepted: one delivered; none; two. And none accepted, with as many delivered as would make up for the one held if sums were cut
-- to 64 bits
abbrev pub DeliveredAndHeld : Type 0
DeliveredAndHeld = (map (λ d. network_refusal (counting (only two 1 seven) 2 d 0)) (1 ∷ 0 ∷ 2 ∷ []) ≡ 0 ∷ 3 ∷ 3 ∷ [])
    × (network_refusal (counting (only two 1 seven) 0 18446744073709551615 0) ≡ 3)

-- R84: the work of a packet that has arrived; with offsets −2, 3, −16; with 8, 8, 8
abbrev pub WorkOfWords : Type 0
WorkOfWords = map work (here 0 ∷ packet 0 (negsuc 1) (pos 3) (negsuc 15) ∷ packet 0 (pos 8) (pos 8) (pos 8) ∷ []) ≡ 1 ∷ 22 ∷ 25 ∷ []

-- R84, R85: three accepted, one delivered, and two held, with one hop left and with none: work 2 + 1. So 25 × 3 − 3 = 72 moves may have been made, not 73, and not
-- 2^64 − 1, which a sum of 64 bits would bring below 75
abbrev pub MostMoves : Type 0
MostMoves = map (λ m. network_refusal (counting (holding (only two 0 (packet 1 (pos 1) (pos 0) (pos 0))) 1 1 (here 1 ∷ [])) 3 1 m))
    (72 ∷ 73 ∷ 18446744073709551615 ∷ [])
    ≡ 0 ∷ 3 ∷ 3 ∷ []

-- The order of refusals --------------------------------------------------------------------------------------------------------------------

-- 2 by 1 by 1 and E 2, A 1, J 1 again, crowded. Node 0 has in queue 0, which is full, a packet for node 1 with dx = 1, tag 9: its routes are outputs 1 and 7. Node 1
-- has one that has arrived in each of the queues 1, 2, 7 and 8, tags 1 to 4, eight chunks each: for node 0, whose neighbour node 1 is in x+ and in x−, the
-- targets of outputs 1 and 2 have no free chunk and those of 7 and 8 have one free slot
abbrev nine : ℕ
nine = 9 * 2 ^ 32 + 2 ^ 16 + 2 ^ 10

abbrev nine-arrived : ℕ
nine-arrived = 9 * 2 ^ 32 + 2 ^ 16

abbrev arrived : ℕ → ℕ
arrived tag = tag * 2 ^ 32 + 7 * 2 ^ 28 + 2 ^ 16

abbrev crowded : List ℕ
crowded =
    holding (holding (holding (holding (only two 0 nine) 1 1 (arrived 1 ∷ [])) 1 2 (arrived 2 ∷ [])) 1 7 (arrived 3 ∷ [])) 1 8 (arrived 4 ∷ [])

-- the same with the count spent: five held, all others delivered
abbrev count-spent : List ℕ
count-spent = counting crowded 4294967295 4294967290 0

-- no network, since nothing is delivered; so many words that one is missing; with X 17 as well, for which there are by far too few; and eight words of these
abbrev no-network : List ℕ
no-network = counting crowded 4294967295 0 0

abbrev one-missing : List ℕ
one-missing = take 156 no-network

abbrev wrong_size : List ℕ
wrong_size = take 156 (set no-network 0 17)

abbrev no_header : List ℕ
no_header = take 8 wrong_size

abbrev spoilt : List (List ℕ)
spoilt = no_header ∷ wrong_size ∷ one-missing ∷ no-network ∷ []

-- R180, Make: a wrong size in a store that is too short; a store that is one word too short; one that is not
abbrev pub Make2 : Type 0
Make2 = make_refusal (shape_of (sized 17 1 1 2 1 1)) (replicate 8 0) ≡ 2

abbrev pub Make1 : Type 0
Make1 = (make_refusal two (replicate 156 0) ≡ 1) × (make_refusal two (replicate 157 0) ≡ 0)

-- R181, Check: each of the four breaks all clauses that are tested behind its own, as far as there are words for them
abbrev pub Check1Header : Type 0
Check1Header = network_refusal no_header ≡ 1

abbrev pub Check2 : Type 0
Check2 = network_refusal wrong_size ≡ 2

abbrev pub Check1Need : Type 0
Check1Need = network_refusal one-missing ≡ 1

abbrev pub Check3 : Type 0
Check3 = network_refusal no-network ≡ 3

-- R181, R182: every other call starts so, also where its arguments break all of its own rules that can be broken together: no node, no queue, no output; for Offer
-- the same number twice, a chunk number that there is not, and a count that is spent
abbrev pub OfferAsCheck : Type 0
OfferAsCheck = map (λ w. offer_refusal w 2 2 9) spoilt ≡ 1 ∷ 2 ∷ 1 ∷ 3 ∷ []

abbrev pub MoveAsCheck : Type 0
MoveAsCheck = map (λ w. move_answer w 2 13 13) spoilt ≡ Err 1 ∷ Err 2 ∷ Err 1 ∷ Err 3 ∷ []

abbrev pub CreditAsCheck : Type 0
CreditAsCheck = map (λ w. credit_answer w 2 13) spoilt ≡ Err 1 ∷ Err 2 ∷ Err 1 ∷ Err 3 ∷ []

abbrev pub LookAsCheck : Type 0
LookAsCheck = map (λ w. look_refusal w 2 13) spoilt ≡ 1 ∷ 2 ∷ 1 ∷ 3 ∷ []

abbrev pub FirstAsCheck : Type 0
FirstAsCheck = map first_answer spoilt ≡ Err 1 ∷ Err 2 ∷ Err 1 ∷ Err 3 ∷ []

abbrev pub DrainAsCheck : Type 0
DrainAsCheck = map (λ w. drain_answer w 0 0) spoilt ≡ Err 1 ∷ Err 2 ∷ Err 1 ∷ Err 3 ∷ []

-- R189, Offer. 4: node and destination are no node and equal, with no such chunk number and the count spent; the destination alone, from a full queue; the node
-- alone. 2: chunk number 0 and 9, to itself with the count spent and from a full queue, and to another node. 14: with the count spent and from a full queue. 8:
-- from a full queue. 7: by itself, whatever the chunks; and offers of one chunk and of eight that are taken
abbrev pub Offer4 : Type 0
Offer4 = offer_refusal count-spent 2 2 9 ∷ offer_refusal count-spent 0 2 9 ∷ offer_refusal count-spent 2 0 9 ∷ [] ≡ 4 ∷ 4 ∷ 4 ∷ []

abbrev pub Offer2 : Type 0
Offer2 = offer_refusal count-spent 0 0 0 ∷ offer_refusal count-spent 0 0 9 ∷ offer_refusal crowded 1 0 0 ∷ offer_refusal crowded 1 0 9 ∷ []
    ≡ 2 ∷ 2 ∷ 2 ∷ 2 ∷ []

abbrev pub Offer14 : Type 0
Offer14 = offer_refusal count-spent 0 0 1 ≡ 14

abbrev pub Offer8 : Type 0
Offer8 = offer_refusal count-spent 0 1 1 ≡ 8

abbrev pub Offer7 : Type 0
Offer7 = (offer_refusal crowded 0 1 1 ∷ offer_refusal crowded 0 1 8 ∷ [] ≡ 7 ∷ 7 ∷ [])
    × (offer_refusal crowded 1 0 1 ∷ offer_refusal crowded 1 0 8 ∷ [] ≡ 0 ∷ 0 ∷ [])

-- R168: of an empty network, with accepted 2^32 − 2, 2^32 − 1 and 2^32
abbrev pub CountSpent : Type 0
CountSpent = map (λ a. offer_refusal (counting (empty two) a a 0) 0 1 1) (4294967294 ∷ 4294967295 ∷ 4294967296 ∷ []) ≡ 0 ∷ 8 ∷ 3 ∷ []

-- R184, Move. 4: no queue and no output either. 5: no output either
abbrev pub Move4 : Type 0
Move4 = move_answer crowded 2 13 13 ≡ Err 4

abbrev pub Move5 : Type 0
Move5 = move_answer crowded 0 13 13 ≡ Err 5

-- 6: from queue 1, where nobody is; and from queue 0, whose head has no such route
abbrev pub Move6 : Type 0
Move6 = move_answer crowded 0 1 13 ∷ move_answer crowded 0 0 13 ∷ [] ≡ Err 6 ∷ Err 6 ∷ []

-- 9: to a target without a free slot, in x+ and in x−. What speaks of a head, 10 and 12, is not broken where there is none
abbrev pub Move9 : Type 0
Move9 = move_answer crowded 0 1 1 ∷ move_answer crowded 0 1 2 ∷ [] ≡ Err 9 ∷ Err 9 ∷ []

-- 10: to a target without a free slot; to an escape queue with one, where the head would enter; and a delivery, which has no target
abbrev pub Move10 : Type 0
Move10 = move_answer crowded 0 0 2 ∷ move_answer crowded 0 0 8 ∷ move_answer crowded 0 0 0 ∷ [] ≡ Err 10 ∷ Err 10 ∷ Err 10 ∷ []

-- 11, and 12, each by itself: the two are never broken together
abbrev pub Move11 : Type 0
Move11 = move_answer crowded 0 0 1 ≡ Err 11

abbrev pub Move12 : Type 0
Move12 = move_answer crowded 0 0 7 ≡ Err 12

-- R112, no rule broken: a delivery hands out the word; a hop, after the delivery from queue 7 of node 1 has made the second slot free, hands out nothing
abbrev pub Move0 : Type 0
Move0 = (move_answer crowded 1 1 0 ≡ Ok (Some (arrived 1))) × (move_answer (move_words crowded 1 7 0) 0 0 7 ≡ (Ok None))

-- R185, Credit. 4: no output either, above the last and output 0. 6: the same two
abbrev pub Credit4 : Type 0
Credit4 = credit_answer crowded 2 13 ∷ credit_answer crowded 2 0 ∷ [] ≡ Err 4 ∷ Err 4 ∷ []

abbrev pub Credit6 : Type 0
Credit6 = credit_answer crowded 0 13 ∷ credit_answer crowded 0 0 ∷ [] ≡ Err 6 ∷ Err 6 ∷ []

-- R186, Look's companion. 4: no queue either. 5
abbrev pub Look4 : Type 0
Look4 = look_refusal crowded 2 13 ≡ 4

abbrev pub Look5 : Type 0
Look5 = look_refusal crowded 0 13 ≡ 5

-- R173, R175: the two numbers that no call of this crate gives
abbrev pub TextNumbers : Type 0
TextNumbers = bad_line ∷ short_page ∷ [] ≡ 13 ∷ 15 ∷ []

-- What refused calls leave (R120, R193, R194) ------------------------------------------------------------------------------------------------

-- Make, refused by 2 for E 1, and by 1, since `small` needs 185 words
abbrev pub RefusedMake : Type 0
RefusedMake = (make_words (shape_of (sized 2 1 1 1 1 1)) crowded ≡ crowded) × (make_words small crowded ≡ crowded)

-- Offer, refused by 7 and by 3
abbrev pub RefusedOffer : Type 0
RefusedOffer = (offer_words crowded 0 1 5 1 ≡ crowded) × (offer_words no-network 1 0 5 1 ≡ no-network)

-- Move, refused by 12 and by 3
abbrev pub RefusedMove : Type 0
RefusedMove = (move_words crowded 0 0 7 ≡ crowded) × (move_words no-network 1 1 0 ≡ no-network)

-- Look, refused by 5 and by 3
abbrev pub RefusedLook : Type 0
RefusedLook = look_part crowded 1 13 ∷ look_part no-network 1 1 ∷ [] ≡ [] ∷ [] ∷ []

-- Drain, refused by 3: the words and the ledger
abbrev pub RefusedDrain : Type 0
RefusedDrain = (drain_words no-network 9 2 ≡ no-network) × (drain_ledger no-network 9 (90 ∷ 91 ∷ []) ≡ 90 ∷ 91 ∷ [])

-- What is read of an answer (R190 to R192, R321) ------------------------------------------------------------------------------------------------

-- Move: refused by 12; a hop, after the delivery from queue 7 of node 1 has made the second slot free; a delivery. The number, and the packets handed out
abbrev move-answers : List (Answer (Option ℕ))
move-answers = move_answer crowded 0 0 7 ∷ move_answer (move_words crowded 1 7 0) 0 0 7 ∷ move_answer crowded 1 1 0 ∷ []

abbrev pub MoveTold : Type 0
MoveTold = (map moved_number move-answers ≡ 12 ∷ 0 ∷ 0 ∷ []) × (map moved_packets move-answers ≡ [] ∷ [] ∷ (arrived 1 ∷ []) ∷ [])

-- Credit: refused by 6; of output 7, which has one of two slots free. The number, and the slots
abbrev credit-answers : List (Answer ℕ)
credit-answers = credit_answer crowded 0 13 ∷ credit_answer crowded 0 7 ∷ []

abbrev pub CreditTold : Type 0
CreditTold = (map credit_number credit-answers ≡ 6 ∷ 0 ∷ []) × (map credit_free credit-answers ≡ 0 ∷ 1 ∷ [])

-- First: refused by 3; the delivery from queue 1 of node 1; none. The number, and the move
abbrev first-answers : List (Answer (Option NamedMove))
first-answers = first_answer no-network ∷ first_answer crowded ∷ first_answer (empty two) ∷ []

abbrev pub FirstTold : Type 0
FirstTold = (map found_number first-answers ≡ 3 ∷ 0 ∷ 0 ∷ []) × (map found_move first-answers ≡ [] ∷ (move_of 1 1 0 ∷ []) ∷ [] ∷ [])

-- Drain: refused by 3; six moves, five of them deliveries (below). The number, the moves, the deliveries and the stop
abbrev drain-answers : List (Answer Drained)
drain-answers = drain_answer no-network 6 5 ∷ drain_answer crowded 6 5 ∷ []

abbrev pub DrainTold : Type 0
DrainTold = (map drained_number drain-answers ≡ 3 ∷ 0 ∷ [])
    × (map drained_moves drain-answers ≡ 0 ∷ 6 ∷ [])
    × (map drained_delivered drain-answers ≡ 0 ∷ 5 ∷ [])
    × (map drained_stop drain-answers ≡ [] ∷ (Stop.Emptied ∷ []) ∷ [])

-- Routes -----------------------------------------------------------------------------------------------------------------------------------

-- R141: a head that has arrived is delivered, from every queue
abbrev pub ArrivedIsDelivered : Type 0
ArrivedIsDelivered = map (λ q. routes q (here 5)) thirteen ≡ replicate 13 (0 ∷ [])

-- R142 to R147: a head with hops left in x+, y− and z+, in queues 0, 3 and 6; in y− and z−, in queues 7 and 12; in x−, in queue 4
abbrev pub RoutesOfHeads : Type 0
RoutesOfHeads = (map (λ q. routes q (packet 0 (pos 1) (negsuc 0) (pos 1))) (0 ∷ 3 ∷ 6 ∷ [])
    ≡ (1 ∷ 4 ∷ 5 ∷ 7 ∷ []) ∷ (4 ∷ 1 ∷ 5 ∷ 7 ∷ []) ∷ (5 ∷ 1 ∷ 4 ∷ 7 ∷ []) ∷ [])
    × (map (λ q. routes q (packet 0 (pos 0) (negsuc 0) (negsuc 1))) (7 ∷ 12 ∷ []) ≡ (4 ∷ 6 ∷ 10 ∷ []) ∷ (6 ∷ 4 ∷ 10 ∷ []) ∷ [])
    × (routes 4 (packet 0 (negsuc 0) (pos 0) (pos 0)) ≡ 2 ∷ 8 ∷ [])

-- R144: heads in the injection queue with hops left in x−, y+ and z+; in y+ and z−; in z−: the last route is the escape queue of the first of x, y, z
abbrev pub EscapeOfHeads : Type 0
EscapeOfHeads = map (routes 0) (packet 0 (negsuc 0) (pos 1) (pos 1) ∷ packet 0 (pos 0) (pos 1) (negsuc 0) ∷ packet 0 (pos 0) (pos 0) (negsuc 0) ∷ [])
    ≡ (2 ∷ 3 ∷ 5 ∷ 8 ∷ []) ∷ (3 ∷ 6 ∷ 9 ∷ []) ∷ (6 ∷ 12 ∷ []) ∷ []

-- Flow -------------------------------------------------------------------------------------------------------------------------------------

-- 4 by 1 by 1, A 1, J 1: at node 0 a packet of three chunks for node 1 with dx = 1 in the escape queue x+ (7), in the injection queue and in the adaptive queue
-- x+ (1), and in the given queue of node 1 packets that have arrived, by their chunks
abbrev one-hop-of : ℕ → ℕ
one-hop-of c = of_chunks c (packet 1 (pos 1) (pos 0) (pos 0))

abbrev one-hop : ℕ
one-hop = one-hop-of 3

abbrev ahead : ℕ → ℕ → List ℕ → List ℕ
ahead slots q chunks =
    holding (holding (holding (only (shape_of (sized 4 1 1 slots 1 1)) 7 one-hop) 0 0 (one-hop ∷ [])) 0 1 (one-hop ∷ [])) 1 q (map (λ c. of_chunks c (here 1)) chunks)

-- Move from a queue of node 0 to that queue of node 1, by how many of eight chunks stand there
abbrev into : ℕ → ℕ → ℕ → List ℕ → List ℕ
into slots from to counts = map (λ count. move_refusal (ahead slots to (replicate count 8)) 0 from to) counts

-- R151, E 3, with 0, 1, 2, 3 ahead: along the ring while a slot is free
abbrev pub AlongTheRing : Type 0
AlongTheRing = into 3 7 7 (0 ∷ 1 ∷ 2 ∷ 3 ∷ []) ≡ 0 ∷ 0 ∷ 0 ∷ 11 ∷ []

-- R152: into the ring from the injection queue and from the adaptive queue of its own direction while two are free, and not while all three are
abbrev pub IntoTheRing : Type 0
IntoTheRing = (into 3 0 7 (0 ∷ 1 ∷ 2 ∷ 3 ∷ []) ≡ 0 ∷ 0 ∷ 12 ∷ 11 ∷ []) × (into 3 1 7 (0 ∷ 1 ∷ 2 ∷ 3 ∷ []) ≡ 0 ∷ 0 ∷ 12 ∷ 11 ∷ [])

-- the same with E 8 and 6, 7, 8 ahead
abbrev pub AlongTheRingOfEight : Type 0
AlongTheRingOfEight = into 8 7 7 (6 ∷ 7 ∷ 8 ∷ []) ≡ 0 ∷ 0 ∷ 11 ∷ []

abbrev pub IntoTheRingOfEight : Type 0
IntoTheRingOfEight = (into 8 0 7 (6 ∷ 7 ∷ 8 ∷ []) ≡ 0 ∷ 12 ∷ 11 ∷ []) × (into 8 1 7 (6 ∷ 7 ∷ 8 ∷ []) ≡ 0 ∷ 12 ∷ 11 ∷ [])

-- R150, R171, eight chunks, with none taken, 5 by one packet, 5 by two, 6 by two and 8 by one: into an adaptive queue while three are free, from a ring, from the
-- injection queue and from an adaptive queue
abbrev pub IntoAnAdaptiveQueue : Type 0
IntoAnAdaptiveQueue = map (λ from. map (λ cs. move_refusal (ahead 3 1 cs) 0 from 1) ([] ∷ (5 ∷ []) ∷ (2 ∷ 3 ∷ []) ∷ (1 ∷ 5 ∷ []) ∷ (8 ∷ []) ∷ [])) (7 ∷ 0 ∷ 1 ∷ [])
    ≡ replicate 3 (0 ∷ 0 ∷ 0 ∷ 11 ∷ 11 ∷ [])

-- 4 by 1 by 1, E 2, A 1, J 1, as in the listing
abbrev four : Shape
four = shape_of (sized 4 1 1 2 1 1)

-- R150, R171, R172: a packet of 1 to 8 chunks in queue 0 of node 0, and in queue 1 of node 1 one of seven: it goes there if it has one chunk, and else there is no
-- 12 but 11; with nothing there, one of eight goes. Into queue 7, where one of eight chunks stands and a slot is free, none may
abbrev pub OneChunkFree : Type 0
OneChunkFree = (map (λ c. move_refusal (holding (only four 0 (one-hop-of c)) 1 1 (of_chunks 7 (here 1) ∷ [])) 0 0 1) (1 ∷ 2 ∷ 3 ∷ 4 ∷ 5 ∷ 6 ∷ 7 ∷ 8 ∷ [])
    ≡ 0 ∷ replicate 7 11)
    × (move_refusal (only four 0 (one-hop-of 8)) 0 0 1 ≡ 0)
    × (map (λ c. move_refusal (holding (only four 0 (one-hop-of c)) 1 7 (of_chunks 8 (here 1) ∷ [])) 0 0 7) (1 ∷ 8 ∷ []) ≡ 12 ∷ 12 ∷ [])

-- R151, R152, R172, E 2, one packet of one chunk in the escape queue x+ of node 1: the packets of three chunks at node 0 go there along the ring, and lack the
-- bubble from the injection queue and from the adaptive queue; Credit tells of one slot
abbrev pub OneSlotFree : Type 0
OneSlotFree = (map (λ from. move_refusal (ahead 2 7 (1 ∷ [])) 0 from 7) (7 ∷ 0 ∷ 1 ∷ []) ≡ 0 ∷ 12 ∷ 12 ∷ [])
    × (credit_answer (ahead 2 7 (1 ∷ [])) 0 7 ≡ Ok 1)

-- R153: a delivery at node 0, with the injection queue of its neighbour full
abbrev pub DeliveryNeedsNoSlot : Type 0
DeliveryNeedsNoSlot = move_answer (holding (only two 1 seven) 1 0 (here 1 ∷ [])) 0 1 0 ≡ Ok (Some seven)

-- First in, first out ------------------------------------------------------------------------------------------------------------------------

-- R45, R101, R119: Look, after the three offers
abbrev pub NewestLastByOffer : Type 0
NewestLastByOffer = look_part offered-three 0 0 ≡ five ∷ six ∷ last ∷ []

-- R37, R108, R109: Look, after the two hops: where the packets came to, and where they came from
abbrev pub NewestLastByHop : Type 0
NewestLastByHop = look_part two-hops 1 1 ∷ look_part two-hops 0 0 ∷ [] ≡ (five-arrived ∷ six-arrived ∷ []) ∷ (last ∷ []) ∷ []

-- R106, R108, R112: a delivery from a queue with two hands out the older one and leaves the other; delivered and moves made rise
abbrev both-arrived : List ℕ
both-arrived = holding (empty small) 1 1 (five-arrived ∷ six-arrived ∷ [])

abbrev pub OldestOut : Type 0
OldestOut = (move_answer both-arrived 1 1 0 ≡ Ok (Some five-arrived))
    × (move_words both-arrived 1 1 0 ≡ 2 ∷ 1 ∷ 1 ∷ 4 ∷ 1 ∷ 3 ∷ 2 ∷ 1 ∷ 1 ∷ (replicate 92 0 ++ (1 ∷ six-arrived ∷ replicate 82 0)))

-- R119: where Look's part begins: behind word 9, behind word 101 and behind word 180
abbrev pub LookBegins : Type 0
LookBegins = look_at offered-three 0 0 ∷ look_at offered-three 1 1 ∷ look_at offered-three 1 12 ∷ [] ≡ 10 ∷ 102 ∷ 181 ∷ []

-- R118, R119: Look at queues 0, 1, 2, 7 and 8 of node 1 of the crowded network
abbrev pub LookByQueue : Type 0
LookByQueue = map (look_part crowded 1) (0 ∷ 1 ∷ 2 ∷ 7 ∷ 8 ∷ []) ≡ [] ∷ (arrived 1 ∷ []) ∷ (arrived 2 ∷ []) ∷ (arrived 3 ∷ []) ∷ (arrived 4 ∷ []) ∷ []

-- R110: one hop along x, from dx = 2, 1, −1, −2, with dy = 3 and dz = −4; one along z; and one along x of the word with all fields, whose dx is 15
abbrev pub OneHopNearer : Type 0
OneHopNearer = (map (λ dx. hop 0 (packet 1 dx (pos 3) (negsuc 3))) (pos 2 ∷ pos 1 ∷ negsuc 0 ∷ negsuc 1 ∷ [])
    ≡ map (λ dx. packet 1 dx (pos 3) (negsuc 3)) (pos 1 ∷ pos 0 ∷ pos 0 ∷ negsuc 0 ∷ []))
    × (hop 2 (packet 1 (pos 2) (pos 3) (negsuc 3)) ≡ packet 1 (pos 2) (pos 3) (negsuc 2))
    × (hop 0 widest ≡ 2 ^ 32 + 2 ^ 31 + 7 * 2 ^ 28 + 4095 * 2 ^ 16 + 2 ^ 15 + 14 * 2 ^ 10 + 31)

-- Credit -----------------------------------------------------------------------------------------------------------------------------------

-- packets of three chunks that have arrived, so many in queues 1, 2, 7 and 8: at node 0 there are 1, 0, 1, 2, at node 1 there are 2, 1, 0, 4. Of eight chunks and E 4
-- slots, what is ahead of node 0 leaves 2 and 5 chunks, 4 and 0 slots, and what is ahead of node 1 leaves 5 and 8 chunks, 3 and 2 slots
abbrev three-chunks : ℕ → ℕ
three-chunks n = of_chunks 3 (here n)

abbrev so-many : List ℕ → ℕ → ℕ → ℕ → ℕ → ℕ → List ℕ
so-many w n a b c d =
    holding (holding (holding (holding w n 1 (replicate a (three-chunks n))) n 2 (replicate b (three-chunks n))) n 7 (replicate c (three-chunks n))) n 8 (replicate d (three-chunks n))

abbrev lopsided : List ℕ
lopsided = so-many (so-many (empty small) 0 1 0 1 2) 1 2 1 0 4

-- R27, R116: for adaptive outputs
abbrev pub CreditAdaptive : Type 0
CreditAdaptive = credit_answer lopsided 0 1 ∷ credit_answer lopsided 0 2 ∷ credit_answer lopsided 1 1 ∷ credit_answer lopsided 1 2 ∷ []
    ≡ Ok 2 ∷ Ok 5 ∷ Ok 5 ∷ Ok 8 ∷ []

-- and where the target, one of four nodes, has one packet of seven chunks, or none
abbrev pub CreditByChunks : Type 0
CreditByChunks = credit_answer (holding (empty four) 1 1 (of_chunks 7 (here 1) ∷ [])) 0 1 ∷ credit_answer (empty four) 0 1 ∷ [] ≡ Ok 1 ∷ Ok 8 ∷ []

-- for escape outputs
abbrev pub CreditEscape : Type 0
CreditEscape = credit_answer lopsided 0 7 ∷ credit_answer lopsided 0 8 ∷ credit_answer lopsided 1 7 ∷ credit_answer lopsided 1 8 ∷ []
    ≡ Ok 4 ∷ Ok 0 ∷ Ok 3 ∷ Ok 2 ∷ []

-- First (R123, R124) -----------------------------------------------------------------------------------------------------------------------

-- in the crowded network the head at node 0 has no permitted move; so the first is the delivery from queue 1 of node 1
abbrev pub FirstPermitted : Type 0
FirstPermitted = first_answer crowded ≡ Ok (Some (move_of 1 1 0))

-- one that has arrived in queue 8 of node 0: a lower node comes before a lower queue
abbrev pub FirstByNode : Type 0
FirstByNode = first_answer (holding crowded 0 8 (seven ∷ [])) ≡ Ok (Some (move_of 0 8 0))

-- one that has arrived in queue 0 of node 1: it comes before queue 1
abbrev pub FirstByQueue : Type 0
FirstByQueue = first_answer (holding crowded 1 0 (here 1 ∷ [])) ≡ Ok (Some (move_of 1 0 0))

-- a head alone in its network, with outputs 1 and 7 permitted: its first route comes first
abbrev pub FirstByRoute : Type 0
FirstByRoute = (map (move_refusal (only two 0 nine) 0 0) (1 ∷ 7 ∷ []) ≡ 0 ∷ 0 ∷ []) × (first_answer (only two 0 nine) ≡ Ok (Some (move_of 0 0 1)))

-- of three nodes the last one alone holds a packet
abbrev pub FirstAtTheLastNode : Type 0
FirstAtTheLastNode = first_answer (holding (empty three) 2 0 (here 2 ∷ [])) ≡ Ok (Some (move_of 2 0 0))

-- nothing held: none, and that is no refusal
abbrev pub FirstNone : Type 0
FirstNone = first_answer (empty two) ≡ Ok None

-- First's moves in the crowded network: delivery from queue 1 of node 1, tag 1; the hop to output 1 that this has made free; delivery of tag 9, from queue 1; then
-- of tags 2, 3 and 4, from queues 2, 7 and 8. Six moves, five deliveries

-- every word after two of them: accepted 5, delivered 1, moves made 2; node 0 is empty; node 1 has its 2 words of queue 0, one packet in each of the
-- queues 1, 2, 7 and 8, and 36 and 12 words of the queues between and behind
abbrev after_two : List ℕ
after_two =
    2 ∷ 1 ∷ 1 ∷ 2 ∷ 1 ∷ 1 ∷ 5 ∷ 1 ∷ 2
    ∷ (replicate 74 0
    ++ (replicate 2 0
    ++ (1 ∷ nine-arrived ∷ (replicate 7 0 ++ (1 ∷ arrived 2 ∷ (replicate 7 0 ++ (replicate 36 0 ++ (1 ∷ arrived 3 ∷ 0 ∷ 1 ∷ arrived 4 ∷ 0 ∷ replicate 12 0))))))))

-- R127, R111: with a budget of 2
abbrev pub DrainWords : Type 0
DrainWords = drain_words crowded 2 4 ≡ after_two

-- R129, R130: all six, with as much budget and a ledger word for each delivery
abbrev pub DrainEmptied : Type 0
DrainEmptied = drain_answer crowded 6 5 ≡ Ok (drain_of 6 5 Stop.Emptied)

-- R128: the ledger then
abbrev pub DrainInOrder : Type 0
DrainInOrder = drain_ledger crowded 6 (90 ∷ 91 ∷ 92 ∷ 93 ∷ 94 ∷ []) ≡ arrived 1 ∷ nine-arrived ∷ arrived 2 ∷ arrived 3 ∷ arrived 4 ∷ []

-- R131, R133: a budget of 2, and of 2 with one ledger word: spent is tested before full
abbrev pub DrainSpent : Type 0
DrainSpent = (drain_answer crowded 2 4 ≡ Ok (drain_of 2 1 Stop.Spent)) × (drain_answer crowded 2 1 ≡ Ok (drain_of 2 1 Stop.Spent))

-- R132: two ledger words are written after three moves; one is written after the first, and the hop behind it needs none
abbrev pub DrainFull : Type 0
DrainFull = (drain_answer crowded 9 2 ≡ Ok (drain_of 3 2 Stop.Full)) × (drain_answer crowded 3 1 ≡ Ok (drain_of 2 1 Stop.Full))

-- R132: with one ledger word, which the first delivery takes: the packet whose delivery is next stands where it stood, and is not counted
abbrev pub WordsAtFull : Type 0
WordsAtFull = drain_words crowded 3 1 ≡ after_two

-- R128, R132: two ledger words, and both are written when it is full
abbrev pub LedgerAtFull : Type 0
LedgerAtFull = drain_ledger crowded 9 (90 ∷ 91 ∷ []) ≡ arrived 1 ∷ nine-arrived ∷ []

-- R134: one word written, and two that stay
abbrev pub DrainLedger : Type 0
DrainLedger = drain_ledger crowded 2 (90 ∷ 91 ∷ 92 ∷ []) ≡ arrived 1 ∷ 91 ∷ 92 ∷ []

-- R127, R225: First's moves, said of the moves themselves: the first two lead to the words after two of them; a list that begins with the delivery of tag
-- 2 is none
abbrev pub queue_of : List NamedMove → ℕ
queue_of [] = 0
queue_of (m ∷ ms) = m.queue

abbrev pub ByFirstsMoves : Type 0
ByFirstsMoves = ByFirst crowded (move_of 1 1 0 ∷ move_of 0 0 1 ∷ []) after_two
    × (ByFirst crowded (move_of 1 2 0 ∷ []) (move_words crowded 1 2 0) → ⊥)

-- A run of calls -----------------------------------------------------------------------------------------------------------------------------

-- the crowded network with one packet more that has arrived, tag 7, in queue 8 of node 0. Three calls: a Move that is refused by 12; the delivery of tag 1
-- at node 1; a Drain with a budget of 3 and three ledger words. Its moves are the hop to output 1, which has become free, the delivery of tag 7 at node 0
-- and that of tag 9, which the hop brought there, at node 1
abbrev crowded-more : List ℕ
crowded-more = holding crowded 0 8 (seven ∷ [])

abbrev ran : Outcome
ran = run (move (move_of 0 0 7) ∷ move (move_of 1 1 0) ∷ drain 3 (90 ∷ 91 ∷ 92 ∷ []) ∷ []) crowded-more

-- R223: permitted is the delivery of tag 1, and not the Move that is refused by 12
abbrev pub PermittedMoves : Type 0
PermittedMoves = Permits crowded (move_of 1 1 0) × (Permits crowded (move_of 0 0 7) → ⊥)

-- R220, R224, R225: its moves, in order: a refused Move is none
abbrev pub RunMoves : Type 0
RunMoves = ran.moves ≡ move_of 1 1 0 ∷ move_of 0 0 1 ∷ move_of 0 8 0 ∷ move_of 1 1 0 ∷ []

-- and how many its answers tell of
abbrev pub RunTold : Type 0
RunTold = ran.told ≡ 4

-- R227: what was handed out, and at which nodes
abbrev pub RunHandedOut : Type 0
RunHandedOut = (map (λ (d : Delivery). d.packet) ran.handed_out ≡ arrived 1 ∷ seven ∷ nine-arrived ∷ [])
    × (map (λ (d : Delivery). d.node) ran.handed_out ≡ 1 ∷ 0 ∷ 1 ∷ [])

-- R221, R238: the Drain's ledger, as it was lent, as it was left, and how many of its words were written
abbrev pub RunLedgers : Type 0
RunLedgers = (map (λ (L : Ledger). L.lent) ran.ledgers ≡ (90 ∷ 91 ∷ 92 ∷ []) ∷ [])
    × (map (λ (L : Ledger). L.left) ran.ledgers ≡ (seven ∷ nine-arrived ∷ 92 ∷ []) ∷ [])
    × (map (λ (L : Ledger). L.written) ran.ledgers ≡ 2 ∷ [])

-- R215, R226, R234, R235: every word afterwards: accepted 6, delivered 3, moves made 4; node 0 is empty, 74 words; node 1 has 2 and 9 words of queues 0 and 1,
-- then one packet in each of the queues 2, 7 and 8, with 7 words behind the first of them, and 36 and 12 words of the queues between and behind
abbrev pub RunWords : Type 0
RunWords = ran.words
    ≡ 2 ∷ 1 ∷ 1 ∷ 2 ∷ 1 ∷ 1 ∷ 6 ∷ 3 ∷ 4
    ∷ (replicate 74 0
    ++ (replicate 11 0 ++ (1 ∷ arrived 2 ∷ (replicate 7 0 ++ (replicate 36 0 ++ (1 ∷ arrived 3 ∷ 0 ∷ 1 ∷ arrived 4 ∷ 0 ∷ replicate 12 0))))))

-- R84, R212, R229, R233: the work left before the run, two for the packet with a hop left and one for each of the five others; and after its four moves
abbrev pub RunWork : Type 0
RunWork = work_left two crowded-more ∷ work_left two ran.words ∷ [] ≡ 7 ∷ 3 ∷ []

-- R228, R232: how many packets are held with a label, where 1 + 0 + 1 + 2 have arrived at node 0 and 2 + 1 + 0 + 4 at node 1, of three chunks each
-- (`lopsided`): those of one chunk are others; one with a hop left counts for its label, and for no other; and how many of those handed out have it
abbrev pub LabelsCounted : Type 0
LabelsCounted = (map (λ l. held_with l small lopsided) (three-chunks 0 ∷ three-chunks 1 ∷ here 1 ∷ arrived 1 ∷ []) ≡ 4 ∷ 7 ∷ 0 ∷ 0 ∷ [])
    × (map (λ l. held_with l two crowded) (nine-arrived ∷ nine ∷ []) ≡ 1 ∷ 0 ∷ [])
    × (map (λ l. handed_with l ran.handed_out) (seven ∷ nine-arrived ∷ nine ∷ []) ≡ 1 ∷ 1 ∷ 0 ∷ [])

-- R230, R231: handed out at node 1 and at node 0, for node 1; and at node 1 with a hop left
abbrev pub AtDestination : Type 0
AtDestination = map at_destination
    (record { node = 1; packet = nine-arrived } ∷ record { node = 0; packet = nine-arrived } ∷ record { node = 1; packet = nine } ∷ [])
    ≡ true ∷ false ∷ false ∷ []

-- R304, 4 by 1 by 1: two packets for node 2 with one label, at node 0 with dx = 2 and at node 3 with dx = −1: their hops left in x+, x−, y+, y−, z+, z−;
-- and those of a label that no packet has
abbrev from-both-sides : List ℕ
from-both-sides =
    holding (only (shape_of (sized 4 1 1 2 1 1)) 0 (packet 2 (pos 2) (pos 0) (pos 0))) 3 0 (packet 2 (negsuc 0) (pos 0) (pos 0) ∷ [])

abbrev pub HopsOfALabel : Type 0
HopsOfALabel = (map (λ d. hops_with (here 2) d (shape_of (sized 4 1 1 2 1 1)) from-both-sides) (0 ∷ 1 ∷ 2 ∷ 3 ∷ 4 ∷ 5 ∷ []) ≡ 2 ∷ 1 ∷ 0 ∷ 0 ∷ 0 ∷ 0 ∷ [])
    × (hops_with (here 1) 0 (shape_of (sized 4 1 1 2 1 1)) from-both-sides ≡ 0)

-- All of them ------------------------------------------------------------------------------------------------------------------------------

pub record KeptRows : Type 0 where
  pub header_made : HeaderMade
  pub queues-made : QueuesMade
  pub rest-after-make : RestAfterMake
  pub header_read : HeaderRead
  pub slots-of-queues : SlotsOfQueues
  pub queue-starts : QueueStarts
  pub words-needed : WordsNeeded
  pub number-held : NumberHeld
  pub free-slots : FreeSlots
  pub own-words-alone : OwnWordsAlone
  pub words-after-offers : WordsAfterOffers
  pub header-after : HeaderAfter
  pub words-after-hops : WordsAfterHops
  pub rest-after-calls : RestAfterCalls
  pub neighbours : Neighbours
  pub own-neighbour : OwnNeighbour
  pub nodes-of : NodesOf
  pub targets : Targets
  pub fields_read : FieldsRead
  pub label-read : LabelRead
  pub offered-word : OfferedWord
  pub shorter-way : ShorterWay
  pub half-way : HalfWay
  pub range-of-x : RangeOfX
  pub range-of-y : RangeOfY
  pub range-of-z : RangeOfZ
  pub range-of-e : RangeOfE
  pub range-of-a : RangeOfA
  pub range-of-j : RangeOfJ
  pub one-too-many : OneTooMany
  pub load-too-large : LoadTooLarge
  pub load-of-sixty-four : LoadOfSixtyFour
  pub last-word-set : LastWordSet
  pub leads-there : LeadsThere
  pub where-offsets-lead : WhereOffsetsLead
  pub queues-by-sign : QueuesBySign
  pub queues-by-distance : QueuesByDistance
  pub queues-by-lower-offsets : QueuesByLowerOffsets
  pub queues-by-minus : QueuesByMinus
  pub last-node-checked : LastNodeChecked
  pub own-node-held : OwnNodeHeld
  pub spare-bit-set : SpareBitSet
  pub upper-spare-bit-set : UpperSpareBitSet
  pub full-ring : FullRing
  pub full-ring-of-z : FullRingOfZ
  pub ring-of-a-column : RingOfAColumn
  pub ring-of-three : RingOfThree
  pub ring-of-the-last-row : RingOfTheLastRow
  pub most-accepted : MostAccepted
  pub delivered-and-held : DeliveredAndHeld
  pub work-of-words : WorkOfWords
  pub most-moves : MostMoves
  pub make-2 : Make2
  pub make-1 : Make1
  pub check-1-header : Check1Header
  pub check-2 : Check2
  pub check-1-need : Check1Need
  pub check-3 : Check3
  pub offer-as-check : OfferAsCheck
  pub move-as-check : MoveAsCheck
  pub credit-as-check : CreditAsCheck
  pub look-as-check : LookAsCheck
  pub first-as-check : FirstAsCheck
  pub drain-as-check : DrainAsCheck
  pub offer-4 : Offer4
  pub offer-2 : Offer2
  pub offer-14 : Offer14
  pub offer-8 : Offer8
  pub offer-7 : Offer7
  pub count-is-spent : CountSpent
  pub move-4 : Move4
  pub move-5 : Move5
  pub move-6 : Move6
  pub move-9 : Move9
  pub move-10 : Move10
  pub move-11 : Move11
  pub move-12 : Move12
  pub move-0 : Move0
  pub credit-4 : Credit4
  pub credit-6 : Credit6
  pub look-4 : Look4
  pub look-5 : Look5
  pub text-numbers : TextNumbers
  pub refused-make : RefusedMake
  pub refused-offer : RefusedOffer
  pub refused-move : RefusedMove
  pub refused-look : RefusedLook
  pub refused-drain : RefusedDrain
  pub move-told : MoveTold
  pub credit-told : CreditTold
  pub first-told : FirstTold
  pub drain-told : DrainTold
  pub arrived-is-delivered : ArrivedIsDelivered
  pub routes-of-heads : RoutesOfHeads
  pub escape-of-heads : EscapeOfHeads
  pub along-the-ring : AlongTheRing
  pub into-the-ring : IntoTheRing
  pub along-the-ring-of-eight : AlongTheRingOfEight
  pub into-the-ring-of-eight : IntoTheRingOfEight
  pub into-an-adaptive-queue : IntoAnAdaptiveQueue
  pub one-chunk-free : OneChunkFree
  pub one-slot-free : OneSlotFree
  pub delivery-needs-no-slot : DeliveryNeedsNoSlot
  pub newest-last-by-offer : NewestLastByOffer
  pub newest-last-by-hop : NewestLastByHop
  pub oldest-out : OldestOut
  pub look-begins : LookBegins
  pub look-by-queue : LookByQueue
  pub one-hop-nearer : OneHopNearer
  pub credit-adaptive : CreditAdaptive
  pub credit-by-chunks : CreditByChunks
  pub credit-escape : CreditEscape
  pub first-permitted : FirstPermitted
  pub first-by-node : FirstByNode
  pub first-by-queue : FirstByQueue
  pub first-by-route : FirstByRoute
  pub first-at-the-last-node : FirstAtTheLastNode
  pub first-none : FirstNone
  pub drain-words : DrainWords
  pub drain-emptied : DrainEmptied
  pub drain-in-order : DrainInOrder
  pub drain-spent : DrainSpent
  pub drain-full : DrainFull
  pub words-at-full : WordsAtFull
  pub ledger-at-full : LedgerAtFull
  pub drain-ledger : DrainLedger
  pub by-firsts-moves : ByFirstsMoves
  pub permitted-moves : PermittedMoves
  pub run-moves : RunMoves
  pub run-told : RunTold
  pub run-handed-out : RunHandedOut
  pub run-ledgers : RunLedgers
  pub run-words : RunWords
  pub run-work : RunWork
  pub labels-counted : LabelsCounted
  pub at-destination : AtDestination
  pub hops-of-a-label : HopsOfALabel
