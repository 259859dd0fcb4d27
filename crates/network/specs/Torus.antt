-- R30, R35, R36 and R75: coordinates, neighbours, and where a packet's offsets lead. Assumes nothing.
use Rattle.std.specs.Prelude.{cond, ℕ, zero, suc, ◌*◌, ◌-◌}
use Rattle.base.specs.Digits.{digit, rotate}
use Rattle.network.specs.Sizes.{Shape, size, dimension_of, is_plus, directions}
use Rattle.network.specs.Packet.{hops}

-- R30: the coordinate of node n = (z × Y + y) × X + x in dimension i
unfoldable pub coordinate : Shape → ℕ → ℕ → ℕ
coordinate S i n = digit S.sizes i n

-- one step back round a ring of k is k − 1 steps forward
unfoldable pub stride : Shape → ℕ → ℕ
stride S d = cond (is_plus d) 1 (size S (dimension_of d) - 1)

-- the node so many hops from n in direction d
unfoldable pub along : Shape → ℕ → ℕ → ℕ → ℕ
along S d count n = rotate S.sizes (dimension_of d) (count * stride S d) n

-- R35, R36: one hop, and round to the other end after the last node of the ring
unfoldable pub neighbour : Shape → ℕ → ℕ → ℕ
neighbour S d n = along S d 1 n

-- R75: the node to which the offsets of p lead from n: along each direction by the hops left in it
unfoldable pub moved_below : Shape → ℕ → ℕ → ℕ → ℕ
moved_below S p zero n = n
moved_below S p (suc d) n = along S d (hops d p) (moved_below S p d n)

unfoldable pub moved_by : Shape → ℕ → ℕ → ℕ
moved_by S p n = moved_below S p directions n
