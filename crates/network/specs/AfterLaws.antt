-- What a permitted move and a taken offer do to the words of a network: to each queue, to each counter, and to nothing else. Laws of `after_move` and
-- `after_offer` of Calls.antt. Order: a queue replaced and a counter raised, each in full; where a move leads; a move, and what it does to the loads and to
-- the sums over all packets; an offer. Assumes nothing.
use Rattle.std.specs.Prelude.{◌≡◌, ◌≢◌, cond, List, [], ◌∷◌, ◌++◌, ℕ, ◌+◌, ◌<◌, eqb, length, get_or, drop}
use Rattle.network.specs.Sizes.{Shape, nodes, queues, injection_queue, direction_of, dimension_of, capacity}
use Rattle.network.specs.Packet.{hop}
use Rattle.network.specs.Layout.{header_words, shape, need, held, accepted, delivered, moves_made}
use Rattle.network.specs.SameWords.{OtherQueue, QueuesStored}
use Rattle.network.specs.Routes.{deliver, target}
use Rattle.network.specs.Refusals.{head}
use Rattle.network.specs.Calls.{head_leaves}

-- A queue replaced, a counter raised ------------------------------------------------------------------------------------------------------

-- what every change leaves alone: sizes, length and the words behind the last node; and the queues are stored as R44 to R46 say
pub record LayoutKept (S : Shape) (w v : List ℕ) : Type 0 where
  pub same_shape : shape v ≡ shape w
  pub same_length : length v ≡ length w
  pub rest : drop (need S) v ≡ drop (need S) w
  pub stored : QueuesStored S v

pub record QueuePut (S : Shape) (w v : List ℕ) (n q : ℕ) (ps : List ℕ) : Type 0 where
  pub here : held S v n q ≡ ps
  pub others : (m r : ℕ) → m < nodes S → r < queues → OtherQueue n q m r → held S v m r ≡ held S w m r
  pub header : (i : ℕ) → i < header_words → get_or v i 0 ≡ get_or w i 0
  pub kept : LayoutKept S w v

pub record CounterRaised (S : Shape) (at : ℕ) (w v : List ℕ) : Type 0 where
  pub queue : (m r : ℕ) → held S v m r ≡ held S w m r
  pub risen : get_or v at 0 ≡ get_or w at 0 + 1
  pub header : (i : ℕ) → i ≢ at → get_or v i 0 ≡ get_or w i 0
  pub kept : LayoutKept S w v

-- a permitted move that does not deliver leads to another node, whose queue has a free slot once the head has left its own
pub record Ahead (S : Shape) (w : List ℕ) (n q o : ℕ) : Type 0 where
  pub node : target S n o < nodes S
  pub apart : target S n o ≢ n
  pub room : length (held S (head_leaves S w n q) (target S n o) o) < capacity S o

-- A move ----------------------------------------------------------------------------------------------------------------------------------

-- R110: the head as it joins the target
abbrev pub hopped : Shape → List ℕ → ℕ → ℕ → ℕ → ℕ
hopped S w n q o = hop (dimension_of (direction_of o)) (head (held S w n q))

-- R112: how many packets a move by output o hands out
abbrev pub deliveries : ℕ → ℕ
deliveries o = cond (eqb o deliver) 1 0

-- R106, R107: queue r of node m is not the target of output o of node n; a delivery has none
abbrev pub NotTarget : Shape → ℕ → ℕ → ℕ → ℕ → Type 0
NotTarget S n o m r = o ≢ deliver → OtherQueue (target S n o) o m r

-- R106 to R112: v is the words w after a move of queue q of node n by output o. A target is at another node, so it is never the source
pub record MoveMade (S : Shape) (w v : List ℕ) (n q o : ℕ) : Type 0 where
  pub source : held S v n q ≡ drop 1 (held S w n q)
  pub arrival : o ≢ deliver → held S v (target S n o) o ≡ held S w (target S n o) o ++ (hopped S w n q o ∷ [])
  pub others : (m r : ℕ) → m < nodes S → r < queues → OtherQueue n q m r → NotTarget S n o m r → held S v m r ≡ held S w m r
  pub apart : o ≢ deliver → target S n o ≢ n
  pub same-accepted : accepted v ≡ accepted w
  pub handed_out : delivered v ≡ delivered w + deliveries o
  pub one-move : moves_made v ≡ moves_made w + 1
  pub kept : LayoutKept S w v

-- a queue is the source of the move, its target, or neither
pub data Role (S : Shape) (n q o m r : ℕ) : Type 0 where
  is-source : (n ≡ m) × (q ≡ r) → Role S n q o m r
  is-target : o ≢ deliver → (target S n o ≡ m) × (o ≡ r) → Role S n q o m r
  is-neither : OtherQueue n q m r → NotTarget S n o m r → Role S n q o m r

-- An offer --------------------------------------------------------------------------------------------------------------------------------

-- R101, R102: v is the words w after packet p has joined the injection queue of node n
pub record OfferTaken (S : Shape) (w v : List ℕ) (n p : ℕ) : Type 0 where
  pub newest : held S v n injection_queue ≡ held S w n injection_queue ++ (p ∷ [])
  pub others : (m r : ℕ) → m < nodes S → r < queues → OtherQueue n injection_queue m r → held S v m r ≡ held S w m r
  pub one-accepted : accepted v ≡ accepted w + 1
  pub same-delivered : delivered v ≡ delivered w
  pub same-moves : moves_made v ≡ moves_made w
  pub kept : LayoutKept S w v
