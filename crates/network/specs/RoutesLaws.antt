-- The routes of a head as facts: which outputs are routes, and that a head always has an escape route or is delivered; what is free in a target, and what
-- a packet needs there. Order: headings; the routes; a target; free slots; slots needed. Assumes nothing.
use Rattle.std.specs.Prelude.{◌≡◌, ◌⊎◌, ◌≢◌, List, [], ◌∷◌, ℕ, ◌+◌, ◌<◌, ◌≤◌, T, take}
use Rattle.base.specs.Tests.{elem}
use Rattle.network.specs.Sizes.{dimensions, adaptive_queue, escape_queue}
use Rattle.network.specs.Packet.{distance, heading}
use Rattle.network.specs.Routes.{in_order, headings, routes}

-- a heading is that of a dimension in the list, in which a hop is left
pub record Heads (is : List ℕ) (p d : ℕ) : Type 0 where
  pub dimension : ℕ
  pub listed : T (elem dimension is)
  pub far : distance dimension p ≢ 0
  pub this-way : d ≡ heading dimension p

-- the first heading in the order of the dimensions: that of the lowest dimension in which a hop is left
pub record LowestHeading (i count p : ℕ) : Type 0 where
  pub dimension : ℕ
  pub from : i ≤ dimension
  pub below : dimension < i + count
  pub far : distance dimension p ≢ 0
  pub lower : (j : ℕ) → i ≤ j → j < dimension → distance j p ≡ 0
  pub only : take 1 (headings (in_order i count) p) ≡ heading dimension p ∷ []

pub record AllDone (i count p : ℕ) : Type 0 where
  pub done : (j : ℕ) → i ≤ j → j < i + count → distance j p ≡ 0
  pub none : headings (in_order i count) p ≡ []

-- an output that is a route of p from queue q: a delivery, or the adaptive or escape queue of a direction in which a hop is left, the escape
-- queue only where nothing is left in lower dimensions
pub record Onward (p o : ℕ) : Type 0 where
  pub dimension : ℕ
  pub below : dimension < dimensions
  pub far : distance dimension p ≢ 0
  pub by : (o ≡ adaptive_queue (heading dimension p))
      ⊎ ((o ≡ escape_queue (heading dimension p)) × ((j : ℕ) → j < dimension → distance j p ≡ 0))

-- any other head has an escape route, along the lowest dimension in which a hop is left
pub record EscapeRoute (q p : ℕ) : Type 0 where
  pub dimension : ℕ
  pub below : dimension < dimensions
  pub far : distance dimension p ≢ 0
  pub lower : (j : ℕ) → j < dimension → distance j p ≡ 0
  pub route : T (elem (escape_queue (heading dimension p)) (routes q p))
