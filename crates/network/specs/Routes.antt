-- R140 to R152: by which outputs a head may leave, and how much room it needs (the paper, section 2.3). Order: the routes; the target of an
-- output; how much of it is free; how much a move needs. Assumes nothing.
use Rattle.std.specs.Prelude.{Bool, cond, not, ◌&&◌, List, [], ◌∷◌, ◌++◌, map, ℕ, zero, suc, ◌-◌, eqb, take}
use Rattle.network.specs.Sizes.{Shape, dimensions, dimension_of, direction_of, is_escape, injection_queue, adaptive_queue, escape_queue, capacity}
use Rattle.network.specs.Packet.{distance, heading, hops_left}
use Rattle.network.specs.Torus.{neighbour}
use Rattle.network.specs.Layout.{load, taken}

-- the dimensions in the order x, y, z: i, i + 1, .., so many of them
unfoldable pub in_order : ℕ → ℕ → List ℕ
in_order i zero = []
in_order i (suc count) = i ∷ in_order (suc i) count

unfoldable pub without : ℕ → List ℕ → List ℕ
without i [] = []
without i (j ∷ js) = cond (eqb i j) (without i js) (j ∷ without i js)

-- R146, R147: the dimension of its queue; x for the injection queue, which has none
unfoldable pub incoming : ℕ → ℕ
incoming q = cond (eqb q injection_queue) 0 (dimension_of (direction_of q))

-- R142, R143: the order in which the adaptive queues are tried
unfoldable pub incoming_first : ℕ → List ℕ
incoming_first q = incoming q ∷ without (incoming q) (in_order 0 dimensions)

-- the directions in which the packet has hops left, for dimensions in the order given
unfoldable pub headings : List ℕ → ℕ → List ℕ
headings [] p = []
headings (i ∷ is) p = cond (eqb (distance i p) 0) (headings is p) (heading i p ∷ headings is p)

-- R141 to R144: delivery and nothing else for a packet that has arrived; else its adaptive queues, the incoming dimension first, then the one
-- escape queue of its lowest dimension with hops left
abbrev pub deliver : ℕ
deliver = 0

unfoldable pub routes : ℕ → ℕ → List ℕ
routes q p =
    cond (eqb (hops_left p) 0)
    (deliver ∷ [])
    (map adaptive_queue (headings (incoming_first q) p) ++ map escape_queue (take 1 (headings (in_order 0 dimensions) p)))

-- R107: the node of the target of output o, where the packet joins queue o
unfoldable pub target : Shape → ℕ → ℕ → ℕ
target S n o = neighbour S (direction_of o) n

-- R116: what is not taken of the target: chunks of an adaptive queue, slots of an escape queue
unfoldable pub free_load : Shape → List ℕ → ℕ → ℕ → ℕ
free_load S w n o = capacity S o - taken S w (target S n o) o

-- R151, R152: a head that goes into an escape queue enters its ring, unless it stands in the escape queue of that direction: there its queue has the
-- output's number, and it travels in the ring already
unfoldable pub enters_ring : ℕ → ℕ → Bool
enters_ring q o = is_escape o && not (eqb q o)

-- R150 to R152: how much must be free where packet p of queue q goes to output o: two slots where it enters a ring, else what it takes there
unfoldable pub load_needed : ℕ → ℕ → ℕ → ℕ
load_needed q o p = cond (enters_ring q o) 2 (load o p)
