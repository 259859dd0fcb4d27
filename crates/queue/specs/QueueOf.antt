-- What the calls ask of their words before they read or change a queue: they have passed the check. Assumes nothing.
use Rattle.std.specs.Prelude.{List, ℕ, ◌<◌}
use Rattle.network.specs.Sizes.{Shape, nodes, queues}
use Rattle.network.specs.CheckLaws.{Network}

-- the words are a network, and node n has a queue q
pub record QueueOf (S : Shape) (w : List ℕ) (n q : ℕ) : Type 0 where
  pub network : Network S w
  pub node : n < nodes S
  pub queue : q < queues
