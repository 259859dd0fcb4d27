-- The check of a network as facts, and back: each Boolean definition of Check.antt is the record of its clauses that stands here.
-- Order: how far a packet may have to go; the way back; a packet, half-way round and at its own node; a queue; its room; the whole. Assumes nothing.
use Rattle.std.specs.Prelude.{◌≡◌, ◌≢◌, List, [], ◌∷◌, T, leb, length}
use Rattle.std.proofs.Math.Bool.{Bool}
use Prim.Native.Nat.{ℕ, ◌+◌, ◌*◌, ◌<◌, ◌≤◌}
use Rattle.std.proofs.Math.Dec.{eqb}
use Rattle.base.specs.Tests.{all_of}
use Rattle.network.specs.Sizes.{Shape, sizes_in_range, nodes, queues, directions, dimensions, dimension_of, direction_of, is_escape, injection_queue, most_chunks, capacity}
use Rattle.network.specs.Packet.{destination, spare, upper_spare, distance, hops}
use Rattle.network.specs.Torus.{moved_by}
use Rattle.network.specs.Layout.{held, taken, queue_part, count_of, unused_of, need, accepted, delivered, moves_made}
use Rattle.network.specs.Check.{longest, reach, opposite, packet_fits, queues_fit, ring_has_room, rings_have_room, packets_held, work_left, most_accepted, most_work, counters_fit}

-- the clauses for a packet p in queue q of node n
pub record PacketFits (S : Shape) (n q p : ℕ) : Type 0 where
  pub clear : spare p ≡ 0
  pub upper-clear : upper_spare p ≡ 0
  pub addressed : destination p < nodes S
  pub arrives : moved_by S p n ≡ destination p
  pub near : (i : ℕ) → i < dimensions → reach i q p ≤ longest S i
  pub sign : q ≢ injection_queue → hops (opposite (direction_of q)) p ≡ 0
  pub lower : T (is_escape q) → (i : ℕ) → i < dimension_of (direction_of q) → distance i p ≡ 0

-- the clauses for queue q of node n
pub record QueueFits (S : Shape) (w : List ℕ) (n q : ℕ) : Type 0 where
  pub few : count_of (queue_part S w n q) ≤ capacity S q
  pub unused : T (all_of (eqb 0) (unused_of (queue_part S w n q)))
  pub light : taken S w n q ≤ capacity S q
  pub packets : T (all_of (packet_fits S n q) (held S w n q))

-- R27, R89: a queue takes one to eight for each packet that it holds, and so holds no more packets than its capacity
pub record Loaded (S : Shape) (w : List ℕ) (n q : ℕ) : Type 0 where
  pub least : length (held S w n q) ≤ taken S w n q
  pub most : taken S w n q ≤ most_chunks * length (held S w n q)
  pub few : length (held S w n q) ≤ capacity S q

-- the clauses for the words
pub record Network (S : Shape) (w : List ℕ) : Type 0 where
  pub in-range : T (sizes_in_range S)
  pub long : need S ≤ length w
  pub queue : (n q : ℕ) → n < nodes S → q < queues → QueueFits S w n q
  pub ring : (d n : ℕ) → d < directions → n < nodes S → T (ring_has_room S w d n)
  pub few-accepted : accepted w ≤ most_accepted
  pub counted : delivered w + packets_held S w ≡ accepted w
  pub bounded : moves_made w + work_left S w ≤ most_work * accepted w

unfoldable pub network_clauses : Shape → List ℕ → List Bool
network_clauses S w = sizes_in_range S ∷ leb (need S) (length w) ∷ queues_fit S w ∷ rings_have_room S w ∷ counters_fit S w ∷ []
