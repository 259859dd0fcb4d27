-- Words are what stands in them: two stores with the same header, the same packets in every queue and the same words behind the last node are the same
-- words, if their queues are stored as R44 to R46 say. Order: a queue so stored; all of them, also where one is replaced or a counter raised; the law; two
-- networks, and their headers by sizes and counters. Assumes nothing.
use Rattle.std.specs.Prelude.{◌≡◌, List, ℕ, ◌<◌, ◌≤◌, T, eqb, length, get_or}
use Rattle.base.specs.Tests.{all_of}
use Rattle.network.specs.Sizes.{Shape, nodes, queues, capacity}
use Rattle.network.specs.Layout.{header_words, need, queue_part, count_of, unused_of, held}

-- queue q of node n is another one than queue r of node m; and two queues are the same one or not
abbrev pub OtherQueue : ℕ → ℕ → ℕ → ℕ → Type 0
OtherQueue n q m r = (n ≡ m) × (q ≡ r) → ⊥

-- a queue as R44 to R46 store it: no more held than its capacity, and zeros behind the packets
pub record QueueStored (S : Shape) (w : List ℕ) (n q : ℕ) : Type 0 where
  pub few : count_of (queue_part S w n q) ≤ capacity S q
  pub unused : T (all_of (eqb 0) (unused_of (queue_part S w n q)))

-- every queue is so stored
pub record QueuesStored (S : Shape) (w : List ℕ) : Type 0 where
  pub long : need S ≤ length w
  pub queue : (n q : ℕ) → n < nodes S → q < queues → QueueStored S w n q

-- the same header words, and the same packets in every queue
abbrev pub SameHeader : List ℕ → List ℕ → Type 0
SameHeader w v = (i : ℕ) → i < header_words → get_or w i 0 ≡ get_or v i 0

abbrev pub SameQueues : Shape → List ℕ → List ℕ → Type 0
SameQueues S w v = (n q : ℕ) → n < nodes S → q < queues → held S w n q ≡ held S v n q
