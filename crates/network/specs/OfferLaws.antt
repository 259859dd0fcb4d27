-- Laws of the packet of an offer (`offered` of Calls.antt), between nodes of a torus whose rings are no longer than the largest. Order: its fields; its
-- direction; how far it has to go; that its offsets lead from its node to its destination, and have a hop left where the two differ. Assumes nothing.
use Rattle.std.specs.Prelude.{ℕ, ◌<◌, ◌≤◌}
use Rattle.network.specs.Sizes.{Shape, size, dimensions, largest_ring}

-- no ring is longer than the largest
abbrev pub ShortRings : Shape → Type 0
ShortRings S = (i : ℕ) → i < dimensions → size S i ≤ largest_ring
