-- The flow control of the paper's section 2.3 said for itself, beside the tests of Routes.antt and Refusals.antt that Move makes (R150 to R153, R171, R172):
-- a packet that enters a ring must leave room for one more, and one that goes along its ring or into an adaptive queue must fit. FlowControlLaws.antt shows
-- that Move tells 11, 12 or neither exactly by it. Order: who enters a ring; who may flow, and what he is told; the head of whom Move is asked. Assumes nothing.
use Rattle.std.specs.Prelude.{◌≡◌, ◌↔◌, ◌≢◌, List, ℕ, ◌+◌, ◌<◌, ◌≤◌, T, length}
use Rattle.base.specs.Tests.{elem}
use Rattle.network.specs.Sizes.{nodes, queues, directions, escape_queue}
use Rattle.network.specs.Layout.{shape, held}
use Rattle.network.specs.Routes.{routes}
use Rattle.network.specs.Refusals.{network_refusal, head}

-- R80: queue q is one of the rings of direction d. No injection queue and no adaptive queue is in a ring
pub record InRing (d q : ℕ) : Type 0 where
  pub direction : d < directions
  pub escape : q ≡ escape_queue d

-- R151, R152: a head of queue q that goes to queue o enters a ring if o is in one and q is in none of the same direction
pub record Enters (q o : ℕ) : Type 0 where
  pub ring : ℕ
  pub into : InRing ring o
  pub from-outside : InRing ring q → ⊥

-- the packet may flow: it fits behind what is taken of the target, and if it enters a ring there is room for one more behind it
pub record Flows (capacity taken takes : ℕ) (Entering : Type 0) : Type 0 where
  pub fits : taken + takes ≤ capacity
  pub one_more : Entering → taken + takes + 1 ≤ capacity

-- what is told of it: nothing where it may flow, 11 where it does not fit, 12 where it fits, and fills the queue of a ring that it enters
pub record FlowControl (capacity taken takes : ℕ) (Entering : Type 0) (told : ℕ) : Type 0 where
  pub flows : (told ≡ 0) ↔ Flows capacity taken takes Entering
  pub no-slot : (told ≡ 11) ↔ (capacity < taken + takes)
  pub no-bubble : (told ≡ 12) ↔ ((taken + takes ≡ capacity) × Entering)

-- the same by what is free of the target
pub record ByFree (free takes : ℕ) (Entering : Type 0) (told : ℕ) : Type 0 where
  pub no-slot : (told ≡ 11) ↔ (free < takes)
  pub no-bubble : (told ≡ 12) ↔ ((free ≡ takes) × Entering)
  pub neither : told ≢ 11 → told ≢ 12 → told ≡ 0

-- a packet stands at the head of queue q of node n of a network, and output o is one of its routes
pub record Standing (w : List ℕ) (n q o : ℕ) : Type 0 where
  pub network : network_refusal w ≡ 0
  pub node : n < nodes (shape w)
  pub queue : q < queues
  pub holds : length (held (shape w) w n q) ≢ 0
  pub route : T (elem o (routes q (head (held (shape w) w n q))))
