-- The same network in another shape: words w with sizes S beside words v with sizes R, of the same torus, where the capacities may be others. Order:
-- networks that agree in what one sees of each queue; that hold the same packets, and what follows from that alone; that have the same counters as well,
-- and so in one shape are the same words. Assumes nothing.
use Rattle.std.specs.Prelude.{◌≡◌, List, ℕ, ◌<◌}
use Rattle.network.specs.Sizes.{Shape, nodes, queues}
use Rattle.network.specs.Layout.{held, accepted, delivered, moves_made}

-- `see` of the packets that a queue holds, all of them or some, is the same for every queue. Of anything else nothing is said
pub record SameSeen {A : Type 0} (see : List ℕ → A) (S : Shape) (w : List ℕ) (R : Shape) (v : List ℕ) : Type 0 where
  pub same-sizes : S.sizes ≡ R.sizes
  pub queue : (n q : ℕ) → n < nodes S → q < queues → see (held S w n q) ≡ see (held R v n q)

-- the same packets, in the same order
abbrev pub SamePackets : Shape → List ℕ → Shape → List ℕ → Type 0
SamePackets S w R v = SameSeen (λ ps. ps) S w R v

-- the same packets and the same counters
pub record SameNetwork (S : Shape) (w : List ℕ) (R : Shape) (v : List ℕ) : Type 0 where
  pub packets : SamePackets S w R v
  pub same-accepted : accepted w ≡ accepted v
  pub same-delivered : delivered w ≡ delivered v
  pub same-moves : moves_made w ≡ moves_made v
