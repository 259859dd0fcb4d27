-- Laws of the torus (Torus.antt). Order: sizes that make a torus; going along a direction; coordinates; a node moved by a packet's offsets, and
-- what a hop does to it; neighbours are apart. `i` is a dimension, `d` and `e` are directions, `p` is any number. Assumes nothing.
use Rattle.std.specs.Prelude.{◌≡◌, length}
use Rattle.base.specs.Digits.{Positive}
use Rattle.network.specs.Sizes.{Shape, dimensions}

-- Sizes that make a torus -------------------------------------------------------------------------------------------------------------

pub record Torus (S : Shape) : Type 0 where
  pub positive : Positive S.sizes
  pub dims : length S.sizes ≡ dimensions
