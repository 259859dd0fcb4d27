-- Sizes in range as facts, and back; then the kinds of the queues, their capacities and the bounds of these. Assumes nothing.
use Rattle.std.specs.Prelude.{ℕ, ◌≤◌, T}
use Rattle.base.specs.Tests.{all_of}
use Rattle.network.specs.Sizes.{Shape, within, largest_ring, fewest_escape, most_slots}

pub record Between (least most n : ℕ) : Type 0 where
  pub low : least ≤ n
  pub high : n ≤ most

pub record InRange (S : Shape) : Type 0 where
  pub sizes : T (all_of (within 1 largest_ring) S.sizes)
  pub escape : Between fewest_escape most_slots S.escape
  pub adaptive : Between 1 most_slots S.adaptive
  pub injection : Between 1 most_slots S.injection
