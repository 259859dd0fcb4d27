-- Where nodes stand, for the code: a place has a coordinate in each dimension. Assumes nothing.
use Rattle.std.specs.Prelude.{◌≡◌, ℕ, ◌<◌, T, length, get_or}
use Rattle.base.specs.Numbers.{number}
use Rattle.network.specs.Sizes.{shape_of, sizes_in_range, dimensions, nodes, size}
use Rattle.network.specs.declared.Sizes.{Sizes}
use Rattle.torus.specs.declared.Place.{Place}

-- R30: the node that stands there
abbrev pub node_at : Sizes → Place → ℕ
node_at s place = number (shape_of s).sizes place.at

-- the sizes are in range, and each coordinate is one of its ring's
pub record OnTorus (s : Sizes) (place : Place) : Type 0 where
  pub sizes : T (sizes_in_range (shape_of s))
  pub whole : length place.at ≡ dimensions
  pub below : (i : ℕ) → i < dimensions → get_or place.at i 0 < size (shape_of s) i

-- a walk over all nodes has come to n, which stands there; behind the last node it stands at node 0 again
pub record WalkTo (s : Sizes) (n : ℕ) (place : Place) : Type 0 where
  pub on : OnTorus s place
  pub node : n < nodes (shape_of s) → node_at s place ≡ n
