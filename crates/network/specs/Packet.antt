-- R26, R60 to R63, R67 to R69, R84, R110, R145 and R228: the packet word. Order: the fields of a word; its offsets; the word of some fields; hops left; a hop; the
-- label; the shorter way of an offer. Assumes nothing.
use Rattle.std.specs.Prelude.{Bool, cond, ◌&&◌, ◌||◌, ℕ, zero, suc, ◌+◌, ◌*◌, ◌-◌, ◌/◌, ◌%◌, ltb, eqb, ℤ, pos, negsuc, nat_abs, List, [], ◌∷◌, ◌++◌, replicate}
use Rattle.base.specs.Sums.{sum_below}
use Rattle.base.specs.Digits.{product, digit, put_digit}
use Rattle.network.specs.Sizes.{dimensions, most_chunks, dimension_of, is_plus, plus, minus}

-- R60: the fields of a packet word below its tag, lowest first, by how many values each has: the offsets, that of the last dimension lowest, a spare
-- bit, the destination, the chunks minus one, and another spare bit. They are the word's digits (base/specs/Digits.antt), and the tag is what stands above them
abbrev pub offset_values : ℕ
offset_values = 32

abbrev pub spare_values : ℕ
spare_values = 2

abbrev pub destination_values : ℕ
destination_values = 4096

abbrev pub chunk_values : ℕ
chunk_values = most_chunks

abbrev pub fields : List ℕ
fields = replicate dimensions offset_values ++ (spare_values ∷ destination_values ∷ chunk_values ∷ spare_values ∷ [])

abbrev pub offset_field : ℕ → ℕ
offset_field i = dimensions - 1 - i

abbrev pub spare_field : ℕ
spare_field = dimensions

abbrev pub destination_field : ℕ
destination_field = dimensions + 1

abbrev pub chunk_field : ℕ
chunk_field = dimensions + 2

abbrev pub upper_spare_field : ℕ
upper_spare_field = dimensions + 3

unfoldable pub tag : ℕ → ℕ
tag p = p / product fields

unfoldable pub destination : ℕ → ℕ
destination p = digit fields destination_field p

-- R26, R60: the word has one less, so that eight find room in three bits
unfoldable pub chunks : ℕ → ℕ
chunks p = digit fields chunk_field p + 1

-- R60, R69: bits 15 and 31, of which nothing is made
unfoldable pub spare : ℕ → ℕ
spare p = digit fields spare_field p

unfoldable pub upper_spare : ℕ → ℕ
upper_spare p = digit fields upper_spare_field p

-- R62, two's complement: the number that an offset's field stands for, and the field of a number
unfoldable pub signed : ℕ → ℤ
signed b = cond (ltb (2 * b) offset_values) (pos b) (negsuc (offset_values - 1 - b))

unfoldable pub unsigned : ℤ → ℕ
unsigned (pos n) = n
unsigned (negsuc n) = offset_values - 1 - n

unfoldable pub offset : ℕ → ℕ → ℤ
offset i p = signed (digit fields (offset_field i) p)

-- the word with the offset of dimension i replaced, and with those of the first so many dimensions
unfoldable pub with_offset : ℕ → ℤ → ℕ → ℕ
with_offset i z p = put_digit fields (offset_field i) (unsigned z) p

unfoldable pub with_offsets : ℕ → (ℕ → ℤ) → ℕ → ℕ
with_offsets zero offsets p = p
with_offsets (suc i) offsets p = with_offset i (offsets i) (with_offsets i offsets p)

-- R60: the word of these fields
unfoldable pub packet_word : ℕ → ℕ → ℕ → (ℕ → ℤ) → ℕ
packet_word tag chunks destination offsets =
    with_offsets dimensions offsets (put_digit fields destination_field destination (put_digit fields chunk_field (chunks - 1) (tag * product fields)))

-- |dx|, |dy| and |dz|
unfoldable pub distance : ℕ → ℕ → ℕ
distance i p = nat_abs (offset i p)

-- R63: the hops left in direction d; a positive offset has them in plus, a negative one in minus
unfoldable pub forward : ℤ → ℕ
forward (pos n) = n
forward (negsuc n) = 0

unfoldable pub backward : ℤ → ℕ
backward (pos n) = 0
backward (negsuc n) = suc n

unfoldable pub hops : ℕ → ℕ → ℕ
hops d p = cond (is_plus d) (forward (offset (dimension_of d) p)) (backward (offset (dimension_of d) p))

-- R145: the direction in which a packet goes on along dimension i
unfoldable pub heading : ℕ → ℕ → ℕ
heading i p = cond (eqb (backward (offset i p)) 0) (plus i) (minus i)

-- R84: the hops left in all, and with the delivery a packet's part of the work left
unfoldable pub hops_left : ℕ → ℕ
hops_left p = sum_below dimensions (λ i. distance i p)

unfoldable pub work : ℕ → ℕ
work p = hops_left p + 1

-- R110: an offset after one hop, nearer to zero by one, whatever its sign
unfoldable pub shrunk : ℤ → ℤ
shrunk (pos n) = pos (n - 1)
shrunk (negsuc zero) = pos 0
shrunk (negsuc (suc n)) = negsuc n

unfoldable pub hop : ℕ → ℕ → ℕ
hop i p = with_offset i (shrunk (offset i p)) p

-- R228: tag, chunks, destination and spare bits, which no hop changes
unfoldable pub label : ℕ → ℕ
label p = with_offsets dimensions (λ i. pos 0) p

-- R67: how many steps lead from one coordinate to another, going plus round a dimension of that size
abbrev pub steps_ahead : ℕ → ℕ → ℕ → ℕ
steps_ahead size from to = (to + (size - from)) % size

-- R67, R68: whether an offer goes those steps ahead, and not the rest of the round back: where that is the shorter way; and where both ways are
-- equal, if the sending node's coordinate is even
unfoldable pub goes_plus : ℕ → ℕ → ℕ → Bool
goes_plus size ahead from = ltb (2 * ahead) size || (eqb (2 * ahead) size && eqb (from % 2) 0)

-- so the offset: the steps ahead, or with a minus the rest of the round
unfoldable pub shorter_way : ℕ → ℕ → ℕ → ℤ
shorter_way size ahead from = cond (goes_plus size ahead from) (pos ahead) (negsuc (size - ahead - 1))
