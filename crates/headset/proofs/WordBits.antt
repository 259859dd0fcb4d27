-- Laws of the bits of one word that the set needs. Order: one bit set or cleared; the trailing zeros. Assumes nothing.
use mathlib.Core.Path.{◌≡◌, refl, ap, subst, ◌∙◌}
use mathlib.Core.Bool.{Bool, true, false, cond, not, ◌&&◌, ◌||◌}
use Prim.Native.Nat.{ℕ, zero, suc, ◌-◌, ◌*◌, ◌/◌, ◌%◌, ◌^◌, ◌<◌}
use native.Mathlib.Nat.{pow-suc, mod-lt, zero-lt-suc, le_of_suc-le-suc, not-suc-le-zero}
use native.Mathlib.Omega.{arith}
use lib.Count.{count_trailing_zeros, under, trailing_le}
use lib.Dec.{eqb}
use lib.Pow.{pow_pos}
use Rattle.base.specs.Bits.{bit}
use Rattle.base.proofs.Bits.{bit-zero, bit-suc, bit-or, bit-and, bit_not, bit-pow, one-exact}
use Rattle.headset.specs.Set.{put, LowestBit}

-- One bit set, and cleared, in a word of 64 bits ---------------------------------------------------------------------------------------

pub bit-put : (b : Bool) (k w j : ℕ) → k < 64 → j < 64 → bit (put w k b) j ≡ cond (eqb j k) b (bit w j)
unfolding put
bit-put true k w j h l = bit-or j (2 ^ k) w ∙ ap (λ (x : Bool). x || bit w j) (bit-pow k j) ∙ go (eqb j k)
  where
    go : (x : Bool) → (x || bit w j) ≡ cond x true (bit w j)
    go true = refl
    go false = refl
bit-put false k w j h l =
    let small : 2 ^ k < 2 ^ 64 = subst (λ (x : ℕ). x < 2 ^ 64) (one-exact k h) (mod-lt (1 * 2 ^ k) (pow_pos 64)) in
    bit-and j (2 ^ 64 - 1 - 2 ^ k) w ∙ ap (λ (x : Bool). x && bit w j) (bit_not 64 j (2 ^ k) small l ∙ ap not (bit-pow k j)) ∙ go (eqb j k)
  where
    go : (x : Bool) → (not x && bit w j) ≡ cond x false (bit w j)
    go true = refl
    go false = refl

-- Trailing zeros -------------------------------------------------------------------------------------------------------------------------

-- a word's lowest digit d, and the trailing zeros t of its half
under-below : (w d t : ℕ) → w % 2 ≡ d → ((j : ℕ) → j < t → bit (w / 2) j ≡ false) → (j : ℕ) → j < under d t → bit w j ≡ false
under-below w zero t e r zero h = bit-zero w ∙ ap (λ (x : ℕ). eqb x 1) e
under-below w zero t e r (suc j) h = bit-suc w j ∙ r j (le_of_suc-le-suc h)
under-below w (suc d) t e r j h = absurd (not-suc-le-zero h)

under-found : (k w d t : ℕ) → w % 2 ≡ d → (t < k → bit (w / 2) t ≡ true) → under d t < suc k → bit w (under d t) ≡ true
under-found k w zero t e r h = bit-suc w t ∙ r (le_of_suc-le-suc h)
under-found k w (suc d) t e r h = bit-zero w ∙ ap (λ (x : ℕ). eqb x 1) (let l = mod-lt w (zero-lt-suc 1) in let o : w % 2 ≡ 1 = omega arith in o)

under_some : (k w d t : ℕ) → w % 2 ≡ d → ((w / 2 ≡ 0 → ⊥) → t < k) → (w ≡ 0 → ⊥) → under d t < suc k
under_some k w zero t e r h = let l : t < k = r (λ z. h (omega arith)) in omega arith
under_some k w (suc d) t e r h = zero-lt-suc k

trailing_below : (k w j : ℕ) → j < count_trailing_zeros k w → bit w j ≡ false
unfolding count_trailing_zeros
trailing_below zero w j h = absurd (not-suc-le-zero h)
trailing_below (suc k) w j h = under-below w (w % 2) (count_trailing_zeros k (w / 2)) refl (trailing_below k (w / 2)) j h

trailing-found : (k w : ℕ) → count_trailing_zeros k w < k → bit w (count_trailing_zeros k w) ≡ true
unfolding count_trailing_zeros
trailing-found zero w h = absurd (not-suc-le-zero h)
trailing-found (suc k) w h = under-found k w (w % 2) (count_trailing_zeros k (w / 2)) refl (trailing-found k (w / 2)) h

trailing-some : (k w : ℕ) → w < 2 ^ k → (w ≡ 0 → ⊥) → count_trailing_zeros k w < k
unfolding count_trailing_zeros
trailing-some zero w l h = absurd (h (omega arith))
trailing-some (suc k) w l h = under_some k w (w % 2) (count_trailing_zeros k (w / 2)) refl (trailing-some k (w / 2) (let p = pow-suc 2 k in omega arith)) h

pub lowest-bit : (w : ℕ) → w < 2 ^ 64 → LowestBit w (count_trailing_zeros 64 w)
lowest-bit w l =
    record {
      most = trailing_le 64 w;
      below = trailing_below 64 w;
      found = trailing-found 64 w;
      some = trailing-some 64 w l;
    }
