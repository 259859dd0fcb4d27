-- The bits of a word, and their laws, each by induction on the place of the bit: bit 0 is the lowest digit, and bit j + 1 is bit j of the half.
-- Order: a bit; digits; or, and, not; a word with one bit, and with the lowest bits; a word shifted; bits in a row; in a word of 64 bits. Assumes nothing.
use Rattle.std.specs.Prelude.{Bool, ℕ, ◌*◌, ◌/◌, ◌%◌, ◌^◌, eqb}

-- bit j of the word is set
unfoldable pub bit : ℕ → ℕ → Bool
bit word j = eqb (word / 2 ^ j % 2) 1

-- the word with bit k alone, as the code computes it
abbrev pub one_bit : ℕ → ℕ
one_bit k = 1 * 2 ^ k % 2 ^ 64
