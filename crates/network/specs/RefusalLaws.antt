-- Refusals as facts: a chain of tests gives 0 exactly when none of them applies. Order: one test and two chains; words that are a network;
-- Offer's chunk number, and an offer to oneself; a permitted move. Assumes nothing.
use Rattle.std.specs.Prelude.{◌≢◌, List, ℕ, ◌<◌, ◌≤◌, T, length}
use Rattle.base.specs.Tests.{elem}
use Rattle.network.specs.Sizes.{Shape, nodes, queues}
use Rattle.network.specs.Layout.{held}
use Rattle.network.specs.Routes.{routes, deliver, free_load, load_needed}
use Rattle.network.specs.Refusals.{head}

-- a move that no rule refuses
pub record Permitted (S : Shape) (w : List ℕ) (n q o : ℕ) : Type 0 where
  pub node : n < nodes S
  pub queue : q < queues
  pub output : o < queues
  pub holds : length (held S w n q) ≢ 0
  pub route : T (elem o (routes q (head (held S w n q))))
  pub room : o ≢ deliver → load_needed q o (head (held S w n q)) ≤ free_load S w n o
