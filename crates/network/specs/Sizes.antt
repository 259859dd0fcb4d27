-- R1, R21 to R28 and R31 to R34: what a network is made of. The constants of src/lib.rt are these numbers for the code.
-- Order: dimensions and directions; the sizes of a network and their ranges; the thirteen queues and their capacities. Assumes nothing.
use Rattle.std.specs.Prelude.{Bool, cond, not, ◌&&◌, ◌||◌, List, [], ◌∷◌, ℕ, ◌+◌, ◌*◌, ◌-◌, ◌/◌, ◌%◌, ◌^◌, leb, ltb, eqb, get_or}
use Rattle.base.specs.Tests.{all_of}
use Rattle.base.specs.Digits.{product}
use Rattle.network.specs.declared.Sizes.{Sizes}

-- R1: a torus in three dimensions; 0 is x, 1 is y and 2 is z
abbrev pub dimensions : ℕ
dimensions = 3

-- x+, x−, y+, y−, z+, z− are the directions 0 to 5, in the order of R33: dimension d / 2, plus where d is even, minus where it is odd
abbrev pub directions : ℕ
directions = 2 * dimensions

abbrev pub plus : ℕ → ℕ
plus i = 2 * i

abbrev pub minus : ℕ → ℕ
minus i = 2 * i + 1

abbrev pub dimension_of : ℕ → ℕ
dimension_of d = d / 2

abbrev pub is_plus : ℕ → Bool
is_plus d = eqb (d % 2) 0

-- R25: X, Y and Z, and E, A and J, by which a queue of each kind is long, one number for all nodes
pub record Shape : Type 0 where
  pub sizes : List ℕ
  pub escape : ℕ
  pub adaptive : ℕ
  pub injection : ℕ

-- the code's sizes as the definitions read them
unfoldable pub shape_of : Sizes → Shape
shape_of s = record { sizes = s.x ∷ s.y ∷ s.z ∷ []; escape = s.escape; adaptive = s.adaptive; injection = s.injection }

-- the sizes of which these are the numbers, in the order of the header
abbrev pub sized : ℕ → ℕ → ℕ → ℕ → ℕ → ℕ → Sizes
sized x y z e a j = record { x = x; y = y; z = z; escape = e; adaptive = a; injection = j }

unfoldable pub size : Shape → ℕ → ℕ
size S i = get_or S.sizes i 0

unfoldable pub within : ℕ → ℕ → ℕ → Bool
within least most n = leb least n && leb n most

abbrev pub largest_ring : ℕ
largest_ring = 16

abbrev pub fewest_escape : ℕ
fewest_escape = 2

abbrev pub most_slots : ℕ
most_slots = 8

-- R21 to R24: the range of each of the six
unfoldable pub sizes_in_range : Shape → Bool
sizes_in_range S =
    all_of (within 1 largest_ring) S.sizes
    && (within fewest_escape most_slots S.escape
    && (within 1 most_slots S.adaptive && within 1 most_slots S.injection))

-- R26: a packet has 1 to 8 chunks
abbrev pub most_chunks : ℕ
most_chunks = 8

-- R30: nodes are numbered 0 to X × Y × Z − 1
unfoldable pub nodes : Shape → ℕ
nodes S = product S.sizes

-- no network has more
abbrev pub most_nodes : ℕ
most_nodes = largest_ring ^ dimensions

-- R31 to R34: thirteen queues a node; the injection queue is 0, then an adaptive queue for each direction, then an escape queue for each
abbrev pub queues : ℕ
queues = 1 + 2 * directions

abbrev pub injection_queue : ℕ
injection_queue = 0

abbrev pub adaptive_queue : ℕ → ℕ
adaptive_queue d = 1 + d

abbrev pub escape_queue : ℕ → ℕ
escape_queue d = 1 + directions + d

-- R37: of a transit queue, its direction, and whether it is an escape queue
abbrev pub direction_of : ℕ → ℕ
direction_of q = (q - 1) % directions

abbrev pub is_escape : ℕ → Bool
is_escape q = ltb directions q

-- R33: an adaptive queue is neither an escape queue nor the injection queue
abbrev pub is_adaptive : ℕ → Bool
is_adaptive q = not (is_escape q || eqb q injection_queue)

-- R22 to R24, R28: the most load that a queue takes, and its words for packets: J and E slots, and A times the chunks of the largest packet
unfoldable pub capacity : Shape → ℕ → ℕ
capacity S q = cond (eqb q injection_queue) S.injection (cond (is_escape q) S.escape (most_chunks * S.adaptive))

-- no queue of a network has a larger one, and so no more words for packets
abbrev pub largest_capacity : ℕ
largest_capacity = most_chunks * most_slots
