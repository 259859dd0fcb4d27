-- The bits of a word, and their laws, each by induction on the place of the bit: bit 0 is the lowest digit, and bit j + 1 is bit j of the half.
-- Order: a bit; digits; or, and, not; a word with one bit, and with the lowest bits; a word shifted; bits in a row; in a word of 64 bits. Assumes nothing.
use Rattle.std.specs.Prelude.{◌≡◌, refl, Bool, true, false, not, ◌&&◌, ◌||◌, ℕ, zero, suc, ◌+◌, ◌-◌, ◌*◌, ◌/◌, ◌%◌, ◌^◌, ◌<◌, ◌≤◌, min, max, eqb, ltb, leb}
use Rattle.std.proofs.Common.{ap, ap₂, sym, ◌∙◌, add-zero, div-one, one-mul, mul-pos, pow-suc, mod-lt, zero-lt-suc, le_of_suc-le-suc, not-suc-le-zero, one-add, arith, le-leb, lt-ltb, le-ltb, lit<, pow_pos, shr-shr, shl_exact}
use Rattle.std.proofs.Math.Decide.{dec_lt}
use Rattle.std.proofs.lemmas.Bool.{lt-leb}
use Rattle.std.proofs.Math.Arith.{digits_div, digits_mod}
use Rattle.std.specs.Int.Bits.{bit_and, bit_or, and_step, or_step, shifted_half, shifted_even}
use Rattle.std.proofs.Math.Dec.{eqb-suc-suc, eqb-zero-suc, eqb-suc-zero, leb-zero, leb-suc-zero, leb-suc-suc}
use Rattle.std.proofs.lemmas.Nat.{shl-shr}
use Rattle.base.proofs.Bools.{and-stop, and-on}
use Rattle.base.specs.Bits.{bit, one_bit}

-- Digits ---------------------------------------------------------------------------------------------------------------------------------

-- the digit of a bit
digit : Bool → ℕ
digit false = 0
digit true = 1

digit-small : (b : Bool) → digit b < 2
unfolding digit
digit-small false = omega arith
digit-small true = omega arith

digit_set : (b : Bool) → eqb (digit b) 1 ≡ b
unfolding digit
digit_set false = refl
digit_set true = refl

pub bit-zero : (w : ℕ) → bit w 0 ≡ eqb (w % 2) 1
unfolding bit
bit-zero w = ap (λ (x : ℕ). eqb (x % 2) 1) (div-one w)

pub bit-suc : (w j : ℕ) → bit w (suc j) ≡ bit (w / 2) j
unfolding bit
bit-suc w j = ap (λ (x : ℕ). eqb (x % 2) 1) (sym (shr-shr w 1 j ∙ ap (λ (x : ℕ). w / 2 ^ x) (one-add j)))

lowest-digit : (w : ℕ) → w % 2 ≡ digit (bit w 0)
unfolding digit
lowest-digit w = go (w % 2) (mod-lt w (zero-lt-suc 1)) ∙ ap digit (sym (bit-zero w))
  where
    go : (d : ℕ) → d < 2 → d ≡ digit (eqb d 1)
    go zero h = refl
    go (suc zero) h = refl
    go (suc (suc d)) h = absurd (not-suc-le-zero (le_of_suc-le-suc (le_of_suc-le-suc h)))

-- a lowest bit b below the bits of q
bit-low : (q : ℕ) (b : Bool) → bit (q * 2 + digit b) 0 ≡ b
bit-low q b = bit-zero (q * 2 + digit b) ∙ ap (λ (x : ℕ). eqb x 1) (digits_mod q (digit-small b)) ∙ digit_set b

bit_high : (q : ℕ) (b : Bool) (j : ℕ) → bit (q * 2 + digit b) (suc j) ≡ bit q j
bit_high q b j = bit-suc (q * 2 + digit b) j ∙ ap (λ (x : ℕ). bit x j) (digits_div q (digit-small b))

-- Or, and, not ---------------------------------------------------------------------------------------------------------------------------

-- an operation on words that is one on digits is one on bits
module _ (f : ℕ → ℕ → ℕ) (g : ℕ → ℕ → ℕ) (h : Bool → Bool → Bool)
    (step : (a b : ℕ) → f a b ≡ f (a / 2) (b / 2) * 2 + g (a % 2) (b % 2)) (digits : (x y : Bool) → g (digit x) (digit y) ≡ digit (h x y)) where
  split : (a b : ℕ) → f a b ≡ f (a / 2) (b / 2) * 2 + digit (h (bit a 0) (bit b 0))
  split a b = step a b ∙ ap (λ (x : ℕ). f (a / 2) (b / 2) * 2 + x) (ap₂ g (lowest-digit a) (lowest-digit b) ∙ digits (bit a 0) (bit b 0))

  bit-each : (j a b : ℕ) → bit (f a b) j ≡ h (bit a j) (bit b j)
  bit-each zero a b = ap (λ (x : ℕ). bit x 0) (split a b) ∙ bit-low (f (a / 2) (b / 2)) (h (bit a 0) (bit b 0))
  bit-each (suc j) a b =
      ap (λ (x : ℕ). bit x (suc j)) (split a b)
      ∙ bit_high (f (a / 2) (b / 2)) (h (bit a 0) (bit b 0)) j
      ∙ bit-each j (a / 2) (b / 2)
      ∙ ap₂ h (sym (bit-suc a j)) (sym (bit-suc b j))

pub bit-or : (j a b : ℕ) → bit (bit_or a b) j ≡ (bit a j || bit b j)
unfolding digit
bit-or = bit-each bit_or max ◌||◌ or_step digits
  where
    digits : (x y : Bool) → max (digit x) (digit y) ≡ digit (x || y)
    digits false false = refl
    digits false true = refl
    digits true false = refl
    digits true true = refl

pub bit-and : (j a b : ℕ) → bit (bit_and a b) j ≡ (bit a j && bit b j)
unfolding digit
bit-and = bit-each bit_and min ◌&&◌ and_step digits
  where
    digits : (x y : Bool) → min (digit x) (digit y) ≡ digit (x && y)
    digits false false = refl
    digits false true = refl
    digits true false = refl
    digits true true = refl

-- of a word of k bits
not_digit : (b : Bool) → digit (not b) + digit b ≡ 1
unfolding digit
not_digit false = refl
not_digit true = refl

not-half : (k w : ℕ) → w < 2 ^ suc k → 2 ^ suc k - 1 - w ≡ (2 ^ k - 1 - w / 2) * 2 + digit (not (bit w 0))
not-half k w l =
    let p = pow-suc 2 k in
    let d = lowest-digit w in
    let n = not_digit (bit w 0) in
    omega arith

pub bit_not : (k j w : ℕ) → w < 2 ^ k → j < k → bit (2 ^ k - 1 - w) j ≡ not (bit w j)
bit_not zero j w l h = absurd (not-suc-le-zero h)
bit_not (suc k) zero w l h = ap (λ (x : ℕ). bit x 0) (not-half k w l) ∙ bit-low (2 ^ k - 1 - w / 2) (not (bit w 0))
bit_not (suc k) (suc j) w l h =
    ap (λ (x : ℕ). bit x (suc j)) (not-half k w l)
    ∙ bit_high (2 ^ k - 1 - w / 2) (not (bit w 0)) j
    ∙ bit_not k j (w / 2) (let p = pow-suc 2 k in omega arith) (le_of_suc-le-suc h)
    ∙ ap not (sym (bit-suc w j))

-- One bit, and the lowest bits -----------------------------------------------------------------------------------------------------------

pub bit-none : (j : ℕ) → bit 0 j ≡ false
bit-none zero = bit-zero 0
bit-none (suc j) = bit-suc 0 j ∙ bit-none j

pub bit-pow : (k j : ℕ) → bit (2 ^ k) j ≡ eqb j k
unfolding digit
bit-pow zero zero = bit-zero 1
bit-pow zero (suc j) = bit-suc 1 j ∙ bit-none j ∙ sym (eqb-suc-zero j)
bit-pow (suc k) zero = ap (λ (x : ℕ). bit x 0) (pow-suc 2 k ∙ sym (add-zero (2 ^ k * 2))) ∙ bit-low (2 ^ k) false ∙ sym (eqb-zero-suc k)
bit-pow (suc k) (suc j) = ap (λ (x : ℕ). bit x (suc j)) (pow-suc 2 k ∙ sym (add-zero (2 ^ k * 2))) ∙ bit_high (2 ^ k) false j ∙ bit-pow k j ∙ sym (eqb-suc-suc j k)

ones_half : (k : ℕ) → 2 ^ suc k - 1 ≡ (2 ^ k - 1) * 2 + digit true
unfolding digit
ones_half k =
    let p = pow-suc 2 k in
    let q = pow_pos k in
    omega arith

pub bit-ones : (k j : ℕ) → bit (2 ^ k - 1) j ≡ ltb j k
bit-ones zero j = bit-none j ∙ sym (leb-suc-zero j)
bit-ones (suc k) zero = ap (λ (x : ℕ). bit x 0) (ones_half k) ∙ bit-low (2 ^ k - 1) true ∙ sym (leb-suc-suc 0 k ∙ leb-zero k)
bit-ones (suc k) (suc j) = ap (λ (x : ℕ). bit x (suc j)) (ones_half k) ∙ bit_high (2 ^ k - 1) true j ∙ bit-ones k j ∙ sym (leb-suc-suc (suc j) k)

-- A word shifted -------------------------------------------------------------------------------------------------------------------------

pub shifted-below : (w k j : ℕ) → j < k → bit (w * 2 ^ k) j ≡ false
shifted-below w zero j h = absurd (not-suc-le-zero h)
shifted-below w (suc k) zero h = bit-zero (w * 2 ^ suc k) ∙ ap (λ (x : ℕ). eqb x 1) (shifted_even w k)
shifted-below w (suc k) (suc j) h =
    bit-suc (w * 2 ^ suc k) j ∙ ap (λ (x : ℕ). bit x j) (shifted_half w k) ∙ shifted-below w k j (le_of_suc-le-suc h)

pub shifted-from : (w k j : ℕ) → bit (w * 2 ^ k) (k + j) ≡ bit w j
unfolding bit
shifted-from w k j = ap (λ (x : ℕ). eqb (x % 2) 1) (sym (shr-shr (w * 2 ^ k) k j) ∙ ap (λ (x : ℕ). x / 2 ^ j) (shl-shr w k))

-- n bits in a row, the lowest of them bit m
pub bit-row : (n m j : ℕ) → bit ((2 ^ n - 1) * 2 ^ m) j ≡ leb m j && ltb j (m + n)
bit-row n m j = go (dec_lt j m)
  where
    behind : (d : ℕ) → m + d ≡ j → Dec (d < n) → ltb d n ≡ leb m j && ltb j (m + n)
    behind d e (yes l) = lt-ltb d n l ∙ sym (and-on _ _ (le-leb m j (omega arith)) ∙ lt-ltb j (m + n) (omega arith))
    behind d e (no g) = le-ltb d n (omega arith) ∙ sym (and-on _ _ (le-leb m j (omega arith)) ∙ le-ltb j (m + n) (omega arith))

    from : (d : ℕ) → m + d ≡ j → bit ((2 ^ n - 1) * 2 ^ m) j ≡ leb m j && ltb j (m + n)
    from d e = ap (bit ((2 ^ n - 1) * 2 ^ m)) (sym e) ∙ shifted-from (2 ^ n - 1) m d ∙ bit-ones n d ∙ behind d e (dec_lt d n)

    go : Dec (j < m) → bit ((2 ^ n - 1) * 2 ^ m) j ≡ leb m j && ltb j (m + n)
    go (yes l) = shifted-below (2 ^ n - 1) m j l ∙ sym (and-stop _ _ (lt-leb m j l))
    go (no g) = from (j - m) (omega arith)

-- In a word of 64 bits -----------------------------------------------------------------------------------------------------------------

pub shifted-some : (a j k : ℕ) → a < 2 ^ j → 0 < a → j + k ≤ 64 → 0 < a * 2 ^ k % 2 ^ 64
shifted-some a j k l p h = rw (shl_exact {a = a} j k 64 l h) (mul-pos p (pow_pos k))

pub one-exact : (k : ℕ) → k < 64 → one_bit k ≡ 2 ^ k
one-exact k h = shl_exact {a = 1} 1 k 64 (lit< tt) (omega arith) ∙ one-mul (2 ^ k)

pub bit-one : (k j : ℕ) → k < 64 → bit (one_bit k) j ≡ eqb j k
bit-one k j h = ap (λ (x : ℕ). bit x j) (one-exact k h) ∙ bit-pow k j
