-- Laws of Layout.antt: where the queues stand, a queue's words, how full a queue is, one queue replaced, one counter raised, the sums over all
-- queues, in this order. The laws of parts of a list are in Parts.antt of the crate base, those of sums in Sums.antt. Assumes nothing.
use Rattle.std.specs.Prelude.{List, ℕ, ◌<◌, ◌≤◌, length}
use Rattle.network.specs.Sizes.{Shape, nodes, queues}
use Rattle.network.specs.Layout.{need}

-- queue q of node n is one of the network's, and the words are as many as the sizes need
pub record Fits (S : Shape) (w : List ℕ) (n q : ℕ) : Type 0 where
  pub node : n < nodes S
  pub queue : q < queues
  pub long : need S ≤ length w
