-- A packet's clauses of the check, as the code tests them: the hops left in each direction are below a limit that the queue sets, the spare bits are 0,
-- and the hops lead from the node to the destination. Order: the limits; hops below them. `i` is a dimension, `d` a direction. Assumes nothing.
use Rattle.std.specs.Prelude.{◌⊎◌, ◌≡◌, Bool, cond, ◌&&◌, ℕ, ◌+◌, ltb, eqb}
use Rattle.base.specs.Tests.{all_below}
use Rattle.network.specs.Sizes.{Shape, dimensions, dimension_of, direction_of, is_escape, injection_queue, plus, minus}
use Rattle.network.specs.Check.{longest, spare_clear, upper_spare_clear}
use Rattle.network.specs.Packet.{hops}

-- both spare bits are 0
abbrev pub spares_clear : ℕ → Bool
spares_clear p = spare_clear p && upper_spare_clear p

-- A packet of queue q has fewer hops left in direction d than this. In the queue's own direction they stay below half of the ring, the other way
-- along its dimension there are none, and in an escape queue there are none along a lower dimension. All others reach half of the ring.
unfoldable pub limit : Shape → ℕ → ℕ → ℕ
limit S q d =
    cond (eqb q injection_queue) (longest S (dimension_of d) + 1)
    (cond (eqb (direction_of q) d) (longest S (dimension_of d))
    (cond (eqb (dimension_of (direction_of q)) (dimension_of d)) 1
    (cond (is_escape q && ltb (dimension_of d) (dimension_of (direction_of q))) 1 (longest S (dimension_of d) + 1))))

-- an offset leads one way along its dimension: there are no hops forward, or none back
abbrev pub OneWay : ℕ → ℕ → Type 0
OneWay f b = (f ≡ 0) ⊎ (b ≡ 0)

-- f hops forward and b back along dimension i are below the limits of queue q
unfoldable pub below_both : Shape → ℕ → ℕ → ℕ → ℕ → Bool
below_both S q i f b = ltb f (limit S q (plus i)) && ltb b (limit S q (minus i))

-- a packet's hops along dimension i are, and along all dimensions
unfoldable pub below_along : Shape → ℕ → ℕ → ℕ → Bool
below_along S q p i = below_both S q i (hops (plus i) p) (hops (minus i) p)

unfoldable pub below_limits : Shape → ℕ → ℕ → Bool
below_limits S q p = all_below dimensions (below_along S q p)
