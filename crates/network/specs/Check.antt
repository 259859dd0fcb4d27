-- R70 to R85 and R87 to R89, the check, a definition for each clause. Order: one packet in its queue; one queue; the rings; the counters; all of it.
-- Assumes nothing.
use Rattle.std.specs.Prelude.{Bool, cond, not, ◌&&◌, ◌||◌, List, ℕ, ◌+◌, ◌*◌, ◌-◌, ◌/◌, ◌^◌, leb, ltb, eqb, length}
use Rattle.base.specs.Tests.{all_below, some_below, all_of}
use Rattle.base.specs.Sums.{sum_of}
use Rattle.network.specs.Sizes.{Shape, size, sizes_in_range, nodes, queues, directions, dimensions, dimension_of, direction_of, is_escape, is_plus, plus, minus, injection_queue, escape_queue, capacity}
use Rattle.network.specs.Packet.{destination, spare, upper_spare, distance, hops, work}
use Rattle.network.specs.Torus.{along, moved_by}
use Rattle.network.specs.Layout.{held, taken, queue_part, count_of, unused_of, total, need, accepted, delivered, moves_made}

-- R74, R75: the destination is a node, and the one to which the offsets lead
unfoldable pub right_place : Shape → ℕ → ℕ → Bool
right_place S n p = ltb (destination p) (nodes S) && eqb (moved_by S p n) (destination p)

-- R37: an x queue, a y queue or a z queue, a transit queue of that dimension
unfoldable pub is_queue_of : ℕ → ℕ → Bool
is_queue_of i q = not (eqb q injection_queue) && eqb (dimension_of (direction_of q)) i

-- R76: the longest lawful offset of a dimension, half of the size
abbrev pub longest : Shape → ℕ → ℕ
longest S i = size S i / 2

-- R76, R77: what must not be more than the longest; in a queue of that dimension a hop has been made already
unfoldable pub reach : ℕ → ℕ → ℕ → ℕ
reach i q p = cond (is_queue_of i q) (distance i p + 1) (distance i p)

unfoldable pub near_enough : Shape → ℕ → ℕ → Bool
near_enough S q p = all_below dimensions (λ i. leb (reach i q p) (longest S i))

-- R78: in a transit queue no hop is left against the queue's direction
unfoldable pub opposite : ℕ → ℕ
opposite d = cond (is_plus d) (minus (dimension_of d)) (plus (dimension_of d))

unfoldable pub right_sign : ℕ → ℕ → Bool
right_sign q p = eqb q injection_queue || eqb (hops (opposite (direction_of q)) p) 0

-- R79: in an escape queue the offsets of all lower dimensions are used up, so along y that of x, and along z those of x and y
unfoldable pub lower_done : ℕ → ℕ → Bool
lower_done q p = not (is_escape q) || all_below (dimension_of (direction_of q)) (λ i. eqb (distance i p) 0)

-- R87, R88: the spare bits are 0, bit 15 and bit 31
unfoldable pub spare_clear : ℕ → Bool
spare_clear p = eqb (spare p) 0

unfoldable pub upper_spare_clear : ℕ → Bool
upper_spare_clear p = eqb (upper_spare p) 0

unfoldable pub packet_fits : Shape → ℕ → ℕ → ℕ → Bool
packet_fits S n q p = spare_clear p && (upper_spare_clear p && (right_place S n p && (near_enough S q p && (right_sign q p && lower_done q p))))

-- R72, R73, R89, and what is asked of each packet
unfoldable pub queue_fits : Shape → List ℕ → ℕ → ℕ → Bool
queue_fits S w n q =
    leb (count_of (queue_part S w n q)) (capacity S q)
    && (all_of (eqb 0) (unused_of (queue_part S w n q)) && (leb (taken S w n q) (capacity S q) && all_of (packet_fits S n q) (held S w n q)))

unfoldable pub queues_fit : Shape → List ℕ → Bool
queues_fit S w = all_below (nodes S) (λ n. all_below queues (λ q. queue_fits S w n q))

-- R80, R81: the escape ring of direction d through node n; one of its queues, found from node to node, has a free slot
unfoldable pub has_room : Shape → List ℕ → ℕ → ℕ → Bool
has_room S w n q = ltb (taken S w n q) (capacity S q)

unfoldable pub ring_has_room : Shape → List ℕ → ℕ → ℕ → Bool
ring_has_room S w d n = some_below (size S (dimension_of d)) (λ j. has_room S w (along S d j n) (escape_queue d))

unfoldable pub rings_have_room : Shape → List ℕ → Bool
rings_have_room S w = all_below directions (λ d. all_below (nodes S) (λ n. ring_has_room S w d n))

-- R83, R84: how many packets are held, and the work left
unfoldable pub packets_held : Shape → List ℕ → ℕ
packets_held S w = total S w length

unfoldable pub work_left : Shape → List ℕ → ℕ
work_left S w = total S w (sum_of work)

-- R82, R168
abbrev pub most_accepted : ℕ
most_accepted = 2 ^ 32 - 1

-- R85: no packet starts with more work than 8 hops in each dimension, and its delivery
abbrev pub most_work : ℕ
most_work = dimensions * 8 + 1

-- R82, R83, R85, over whole numbers: delivered above accepted fails, and no sum wraps
unfoldable pub counters_fit : Shape → List ℕ → Bool
counters_fit S w =
    leb (accepted w) most_accepted
    && (eqb (delivered w + packets_held S w) (accepted w) && leb (moves_made w + work_left S w) (most_work * accepted w))

-- R70: all of it, for words that begin with the sizes S
unfoldable pub is_network : Shape → List ℕ → Bool
is_network S w = sizes_in_range S && (leb (need S) (length w) && (queues_fit S w && (rings_have_room S w && counters_fit S w)))
