-- A set of heads of queues as the bits of words: bit k of the words is bit k % 64 of word k / 64. The head of queue q of node n is number
-- node_heads * n + q, and head h is bit first_head + h. Order: the members, and the words before them, which say where there are some; what the
-- functions of the crate leave or find. The statements are over every number m: from `heads` on there is no member (SetLaws.antt). Assumes nothing.
use Rattle.std.specs.Prelude.{◌≡◌, Bool, true, false, not, ◌&&◌, ◌||◌, List, ◌≢◌, ℕ, ◌+◌, ◌*◌, ◌/◌, ◌%◌, ◌-◌, ◌^◌, ◌<◌, ◌≤◌, eqb, ltb, length, get_or, Option, MatchOption}
use Rattle.std.specs.Int.Bits.{bit_and, bit_or}
use Rattle.base.specs.Bits.{bit}
use Rattle.network.specs.Sizes.{queues, most_nodes}

-- the numbers of a node's heads, and of the heads of all nodes
abbrev pub node_heads : ℕ
node_heads = 16

abbrev pub heads : ℕ
heads = node_heads * most_nodes

-- the words of the index, word 0 of the next 64 and these of the words of the heads; the first bit behind them; and all words
abbrev pub first_word : ℕ
first_word = 1 + 64

abbrev pub first_head : ℕ
first_head = 64 * first_word

abbrev pub set_words : ℕ
set_words = first_word + heads / 64

-- the nodes whose heads share a word, and the bits of the first one's heads
abbrev pub word_nodes : ℕ
word_nodes = 64 / node_heads

abbrev pub node_bits : ℕ
node_bits = 2 ^ queues - 1

-- bit k of the words is set; head h is a member
unfoldable pub bit_of : List ℕ → ℕ → Bool
bit_of set k = bit (get_or set (k / 64) 0) (k % 64)

unfoldable pub member : List ℕ → ℕ → Bool
member set h = bit_of set (first_head + h)

-- each bit before those of the heads says whether its word, word 1 + k, is not 0; beyond the last word all count as 0
pub record IsSet (set : List ℕ) : Type 0 where
  pub words : length set ≡ set_words
  pub tells : (k : ℕ) → k < first_head → bit_of set k ≡ not (eqb (get_or set (1 + k) 0) 0)

-- the words before, with w for word i
pub record Replaced (before after : List ℕ) (i w : ℕ) : Type 0 where
  pub words : length after ≡ length before
  pub own : get_or after i 0 ≡ w
  pub others : (k : ℕ) → k ≢ i → get_or after k 0 ≡ get_or before k 0

-- the word with bit j set, or cleared; and the words before, with bit k set, or cleared
unfoldable pub put : ℕ → ℕ → Bool → ℕ
put word j true = bit_or (2 ^ j) word
put word j false = bit_and (2 ^ 64 - 1 - 2 ^ j) word

abbrev pub BitPut : List ℕ → List ℕ → ℕ → Bool → Type 0
BitPut before after k b = Replaced before after (k / 64) (put (get_or before (k / 64) 0) (k % 64) b)

-- the set of the heads of the nodes below count
pub record HeadsBelow (after : List ℕ) (count : ℕ) : Type 0 where
  pub set : IsSet after
  pub members : (m : ℕ) → member after m ≡ (ltb (m / node_heads) count && ltb (m % node_heads) queues)

-- the set before, with head h
pub record Inserted (before after : List ℕ) (h : ℕ) : Type 0 where
  pub set : IsSet after
  pub members : (m : ℕ) → member after m ≡ (eqb m h || member before m)

-- the set before, with the heads of node n
pub record NodeInserted (before after : List ℕ) (n : ℕ) : Type 0 where
  pub set : IsSet after
  pub members : (m : ℕ) → member after m ≡ ((eqb (m / node_heads) n && ltb (m % node_heads) queues) || member before m)

-- the set before, with the heads of word first_word + i whose bits are given
pub record United (before after : List ℕ) (i bits : ℕ) : Type 0 where
  pub set : IsSet after
  pub members : (m : ℕ) → member after m ≡ ((eqb (m / 64) i && bit bits (m % 64)) || member before m)

-- the set before, without head h
pub record Removed (before after : List ℕ) (h : ℕ) : Type 0 where
  pub set : IsSet after
  pub members : (m : ℕ) → member after m ≡ (not (eqb m h) && member before m)

-- h is the lowest member
pub record LowestHead (set : List ℕ) (h : ℕ) : Type 0 where
  pub most : h < heads
  pub below : (m : ℕ) → m < h → member set m ≡ false
  pub found : member set h ≡ true

-- r is the lowest member, or None where there is none
abbrev pub LowestMember : List ℕ → Option ℕ → Type 0
LowestMember set r = MatchOption r ((m : ℕ) → m < heads → member set m ≡ false) (LowestHead set)

-- the same of one word: r is its lowest bit that is set, or 64 where none is
pub record LowestBit (word r : ℕ) : Type 0 where
  pub most : r ≤ 64
  pub below : (j : ℕ) → j < r → bit word j ≡ false
  pub found : r < 64 → bit word r ≡ true
  pub some : (word ≡ 0 → ⊥) → r < 64
