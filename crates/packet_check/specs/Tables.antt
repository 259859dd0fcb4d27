-- The tables by which a packet is judged without a division, a branch on a sign or a limit worked out anew: parts of one list of words, one behind the
-- other. An offset is told by how far it stands above the least that its field can stand for. Order: the places of the parts; what they hold; a part
-- filled; all parts. Assumes nothing.
use Rattle.std.specs.Prelude.{◌≡◌, List, ℕ, ◌+◌, ◌*◌, ◌-◌, ◌%◌, ◌^◌, ◌<◌, length, get_or}
use Rattle.base.specs.Digits.{weight}
use Rattle.network.specs.Sizes.{Shape, shape_of, size, dimensions, queues, largest_ring, plus, minus}
use Rattle.network.specs.Packet.{offset_values}
use Rattle.network.specs.PacketLaws.{half_offsets}
use Rattle.network.specs.declared.Sizes.{Sizes}
use Rattle.packet_check.specs.PacketLimits.{limit}

-- for each dimension three rounds of the largest ring, and a word for each queue; then one for each offset
abbrev pub ring_words : ℕ
ring_words = 3 * largest_ring

abbrev pub dimension_words : ℕ
dimension_words = ring_words + queues

abbrev pub first_distance : ℕ
first_distance = dimensions * dimension_words

abbrev pub table_words : ℕ
table_words = first_distance + offset_values

-- offsets in a row: bit a is set for the one that stands a above the least. As many as both limits let pass, 0 being counted once.
unfoldable pub row : ℕ → ℕ → ℕ
row forward back = (2 ^ (forward + back - 1) - 1) * 2 ^ (half_offsets + 1 - back)

-- the offsets of dimension i that pass in queue q
unfoldable pub passing : Shape → ℕ → ℕ → ℕ
passing S q i = row (limit S q (plus i)) (limit S q (minus i))

-- how far from 0 the offset is that stands a above the least
unfoldable pub distance_at : ℕ → ℕ
distance_at a = (a - half_offsets) + (half_offsets - a)

-- count words from start on are g's; and they have become so, and those before them are as they were
abbrev pub Part : List ℕ → ℕ → ℕ → (ℕ → ℕ) → Type 0
Part tables start count g = (j : ℕ) → j < count → get_or tables (start + j) 0 ≡ g j

pub record PartWritten (before after : List ℕ) (start count : ℕ) (g : ℕ → ℕ) : Type 0 where
  pub words : length after ≡ length before
  pub part : Part after start count g
  pub kept : (j : ℕ) → j < start → get_or after j 0 ≡ get_or before j 0

-- three rounds of a ring of k nodes: the j-th word is w times the coordinate of the node that j hops lead to from coordinate 0
abbrev pub RingTable : List ℕ → ℕ → ℕ → ℕ → Type 0
RingTable tables start k w = Part tables start (3 * k) (λ j. w * (j % k))

-- the part of dimension i: its ring, with the weight that its coordinate has in a node's number, and the offsets that pass
pub record DimensionPart (s : Sizes) (i : ℕ) (tables : List ℕ) : Type 0 where
  pub ring : RingTable tables (i * dimension_words) (size (shape_of s) i) (weight (shape_of s).sizes i)
  pub passes : Part tables (i * dimension_words + ring_words) queues (λ q. passing (shape_of s) q i)

pub record Tables (s : Sizes) (tables : List ℕ) : Type 0 where
  pub words : length tables ≡ table_words
  pub dimension : (i : ℕ) → i < dimensions → DimensionPart s i tables
  pub distances : Part tables first_distance offset_values distance_at
