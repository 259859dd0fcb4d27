-- R40 to R49: where everything stands in the lent words. Order: the header; where each queue's words stand; a queue's words; reading a queue;
-- how full it is (R27); replacing it; sums over all queues. Assumes nothing.
use Rattle.std.specs.Prelude.{List, [], ◌∷◌, ◌++◌, cond, ℕ, ◌+◌, ◌*◌, ◌-◌, length, get_or, take, drop, set, replicate}
use Rattle.base.specs.Sums.{sum_below, sum_of}
use Rattle.base.specs.Parts.{span, splice}
use Rattle.network.specs.Sizes.{Shape, nodes, queues, directions, most_chunks, is_adaptive, capacity}
use Rattle.network.specs.Packet.{chunks}

-- R42, the header: the six sizes, then the three counters
abbrev pub header_words : ℕ
header_words = 9

unfoldable pub shape : List ℕ → Shape
shape w = record { sizes = get_or w 0 0 ∷ get_or w 1 0 ∷ get_or w 2 0 ∷ []; escape = get_or w 3 0; adaptive = get_or w 4 0; injection = get_or w 5 0 }

abbrev pub accepted_at : ℕ
accepted_at = 6

abbrev pub delivered_at : ℕ
delivered_at = 7

abbrev pub moves_at : ℕ
moves_at = 8

unfoldable pub accepted : List ℕ → ℕ
accepted w = get_or w accepted_at 0

unfoldable pub delivered : List ℕ → ℕ
delivered w = get_or w delivered_at 0

unfoldable pub moves_made : List ℕ → ℕ
moves_made w = get_or w moves_at 0

-- the words with one counter risen by one
unfoldable pub raised : ℕ → List ℕ → List ℕ
raised at w = set w at (get_or w at 0 + 1)

-- R43, R44: node after node, queue after queue; a queue is its number held and as many words for packets as its capacity
unfoldable pub queue_length : Shape → ℕ → ℕ
queue_length S q = 1 + capacity S q

-- R47: the words of a node, where a queue begins and ends
unfoldable pub node_words : Shape → ℕ
node_words S = queues + S.injection + directions * (most_chunks * S.adaptive) + directions * S.escape

unfoldable pub queue_start : Shape → ℕ → ℕ → ℕ
queue_start S n q = header_words + n * node_words S + sum_below q (λ i. queue_length S i)

unfoldable pub queue_end : Shape → ℕ → ℕ → ℕ
queue_end S n q = queue_start S n q + queue_length S q

-- R47: the words that the sizes need: K1, K2
unfoldable pub need : Shape → ℕ
need S = header_words + nodes S * node_words S

-- R44 to R46: the words of a queue with these packets, the oldest in front, zeros behind them
unfoldable pub queue_words : ℕ → List ℕ → List ℕ
queue_words capacity packets = length packets ∷ (packets ++ replicate (capacity - length packets) 0)

-- the words of queue q of node n, its number held, its packets, oldest first, and its unused words
unfoldable pub queue_part : Shape → List ℕ → ℕ → ℕ → List ℕ
queue_part S w n q = span w (queue_start S n q) (queue_end S n q)

unfoldable pub count_of : List ℕ → ℕ
count_of part = get_or part 0 0

unfoldable pub packets_of : List ℕ → List ℕ
packets_of part = take (count_of part) (drop 1 part)

unfoldable pub unused_of : List ℕ → List ℕ
unused_of part = drop (count_of part) (drop 1 part)

unfoldable pub held : Shape → List ℕ → ℕ → ℕ → List ℕ
held S w n q = packets_of (queue_part S w n q)

-- R27: what packet p takes of queue q: its chunks in an adaptive queue, one slot in any other
unfoldable pub load : ℕ → ℕ → ℕ
load q p = cond (is_adaptive q) (chunks p) 1

-- R27: how much of queue q of node n is taken, the load of the queue: the sum of the loads of the packets that it holds
unfoldable pub taken : Shape → List ℕ → ℕ → ℕ → ℕ
taken S w n q = sum_of (load q) (held S w n q)

-- R49: the words with the part of one queue replaced, and nothing else
unfoldable pub put_queue : Shape → List ℕ → ℕ → ℕ → List ℕ → List ℕ
put_queue S w n q packets = splice w (queue_start S n q) (queue_end S n q) (queue_words (capacity S q) packets)

-- the sum of a number for each queue of each node
unfoldable pub total : Shape → List ℕ → (List ℕ → ℕ) → ℕ
total S w f = sum_below (nodes S) (λ n. sum_below queues (λ q. f (held S w n q)))
