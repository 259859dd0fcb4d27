-- Laws of the packet word (Packet.antt). Order: signed offsets; a word with one offset replaced; a hop; hops left by direction and in all; the
-- label; the word that fields make; the shorter way round. `i` and `j` are dimensions, `d` a direction, `p` any number. Assumes nothing.
use Rattle.std.specs.Prelude.{ℤ}
use Prim.Native.Nat.{ℕ, ◌+◌, ◌*◌, ◌-◌, ◌/◌, ◌%◌, ◌<◌, ◌≤◌}
use Rattle.network.specs.Packet.{offset_values, forward, backward}

-- Signed offsets ----------------------------------------------------------------------------------------------------------------------

-- the numbers that an offset's field stands for: half of them are below 0
abbrev pub half_offsets : ℕ
half_offsets = offset_values / 2

pub record OffsetRange (z : ℤ) : Type 0 where
  pub most : forward z < half_offsets
  pub least : backward z ≤ half_offsets

-- the offsets of the first so many dimensions replaced
abbrev pub OffsetsInRange : ℕ → (ℕ → ℤ) → Type 0
OffsetsInRange m offs = (i : ℕ) → i < m → OffsetRange (offs i)

-- the coordinate to which an offset leads: so many steps forward and so many back, each of these being all steps round but one
abbrev pub landing : ℕ → ℕ → ℤ → ℕ
landing size from z = (from + (forward z * 1 + backward z * (size - 1))) % size
