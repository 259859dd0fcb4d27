-- A number as digits in mixed radix, lowest first: `ks` lists the radices. A node's coordinates are such digits.
-- Order: the product of the radices, reading a digit, writing one, its weight; laws of one written and one read; rotating a digit; a number
-- by what stands below and above a digit.
-- Assumes nothing.
use Rattle.std.specs.Prelude.{List, [], ◌∷◌, drop}
use Prim.Native.Nat.{ℕ, zero, suc, ◌+◌, ◌*◌, ◌/◌, ◌%◌, ◌<◌}
use Rattle.std.proofs.Math.ListN.{get_or}

unfoldable pub product : List ℕ → ℕ
product [] = 1
product (k ∷ ks) = k * product ks

unfoldable pub digit : List ℕ → ℕ → ℕ → ℕ
digit [] i n = 0
digit (k ∷ ks) zero n = n % k
digit (k ∷ ks) (suc i) n = digit ks i (n / k)

unfoldable pub put_digit : List ℕ → ℕ → ℕ → ℕ → ℕ
put_digit [] i c n = n
put_digit (k ∷ ks) zero c n = c + k * (n / k)
put_digit (k ∷ ks) (suc i) c n = n % k + k * put_digit ks i c (n / k)

-- by how much a number differs whose digit i is one more: the product of the radices below i
unfoldable pub weight : List ℕ → ℕ → ℕ
weight [] i = 1
weight (k ∷ ks) zero = 1
weight (k ∷ ks) (suc i) = k * weight ks i

-- all radices are above 0
unfoldable pub Positive : List ℕ → Type 0
Positive [] = Unit {0}
Positive (k ∷ ks) = (0 < k) × Positive ks

-- a digit moved on by a, round its radix
unfoldable pub rotate : List ℕ → ℕ → ℕ → ℕ → ℕ
rotate ks i a n = put_digit ks i ((digit ks i n + a) % get_or ks i 0) n

-- the product of the radices above i
unfoldable pub above : List ℕ → ℕ → ℕ
above ks i = product (drop (suc i) ks)

-- the number with b below digit i, j at it and a above it
unfoldable pub around : List ℕ → ℕ → ℕ → ℕ → ℕ → ℕ
around ks i b j a = b + weight ks i * (j + get_or ks i 0 * a)
