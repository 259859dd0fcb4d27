-- Signed numbers as the code has them: a number z of an offset's range in 64 bits. The code hands a number on, or tests it, as it comes back from
-- its bits; so do the laws. Order: it comes back; negated; half a turn on and back; its sign; what each sign gives; one hop towards zero. Assumes nothing.
use mathlib.Core.Path.{◌≡◌, refl, ap, ap₂, sym, subst, ◌∙◌}
use mathlib.Core.Bool.{Bool, true, false, cond, true≢false}
use Prim.Native.Nat.{ℕ, zero, suc, ◌+◌, ◌-◌, ◌%◌, ◌<◌, ◌≤◌}
use native.Mathlib.Decide.{dec_lt}
use native.Mathlib.Omega.{arith}
use lib.Dec.{T, ltb}
use lib.IntN.{ℤ, pos, negsuc, neg_ℤ, nat_abs, ◌-ℤ◌, +ℤ_idl, +ℤ_one, -ℤ_one}
use lib.Signed.{lt_z, non_neg}
use mir.Syntax.{w64}
use mir.Val.{Fits, SFits, to_z, of_z}
use mir.Facts.{to_z-of_z, to_z_pos}
use borrow.Author.Tests.{ltb-true, lt-ltb, le-ltb}
use Rattle.std.specs.Int.{int_signum}
use Rattle.std.specs.Prelude.{min}
use Rattle.network.specs.Packet.{signed, unsigned, forward, backward, shrunk, offset_values}
use Rattle.network.specs.PacketLaws.{half_offsets, OffsetRange}
use Rattle.network.proofs.PacketLaws.{signed-small, signed-large, signed_range, shrunk-range}

-- the number that the bits of z stand for
abbrev pub again : ℤ → ℤ
again z = to_z w64 (of_z w64 z)

-- It comes back -----------------------------------------------------------------------------------------------------------------------

offset-fits : (z : ℤ) → OffsetRange z → SFits w64 z
unfolding forward backward
offset-fits (pos n) r = let l : n < half_offsets = r.most in record { sfits = omega arith }
offset-fits (negsuc n) r = let l : suc n ≤ half_offsets = r.least in record { sfits = omega arith }

-- y is what a call gave, and the call says that it is z
pub back : {y z : ℤ} → y ≡ z → OffsetRange z → again y ≡ z
back {y} {z} e r = ap again e ∙ to_z-of_z (offset-fits z r)

pub range_back : {y z : ℤ} → y ≡ z → OffsetRange z → OffsetRange (again y)
range_back e r = subst OffsetRange (sym (back e r)) r

-- Negated -----------------------------------------------------------------------------------------------------------------------------

neg-fits : (z : ℤ) → OffsetRange z → SFits w64 (neg_ℤ z)
unfolding forward backward
neg-fits (pos zero) r = record { sfits = omega arith }
neg-fits (pos (suc n)) r = let l : suc n < half_offsets = r.most in record { sfits = omega arith }
neg-fits (negsuc n) r = let l : suc n ≤ half_offsets = r.least in record { sfits = omega arith }

negation-is : (z : ℤ) → OffsetRange z → pos 0 -ℤ again z ≡ neg_ℤ z
negation-is z r = ap (λ x. pos 0 -ℤ x) (back refl r) ∙ +ℤ_idl (neg_ℤ z)

pub negation-fits : {z : ℤ} → OffsetRange z → SFits w64 (pos 0 -ℤ again z)
negation-fits {z} r = subst (SFits w64) (sym (negation-is z r)) (neg-fits z r)

negation-back : (z : ℤ) → OffsetRange z → again (pos 0 -ℤ again z) ≡ neg_ℤ z
negation-back z r = ap again (negation-is z r) ∙ to_z-of_z (neg-fits z r)

-- of a small number m without a sign
small-fits : (m : ℕ) → m ≤ offset_values → SFits w64 (neg_ℤ (pos m))
small-fits zero h = record { sfits = omega arith }
small-fits (suc m) h = record { sfits = omega arith }

small_is : (m : ℕ) → m ≤ offset_values → pos 0 -ℤ to_z w64 m ≡ neg_ℤ (pos m)
small_is m h = ap (λ x. pos 0 -ℤ x) (to_z_pos w64 {n = m} (omega arith)) ∙ +ℤ_idl (neg_ℤ (pos m))

pub small-negation-fits : (m : ℕ) → m ≤ offset_values → SFits w64 (pos 0 -ℤ to_z w64 m)
small-negation-fits m h = subst (SFits w64) (sym (small_is m h)) (small-fits m h)

pub small-negation : (m n : ℕ) → m ≤ offset_values → m ≡ suc n → again (pos 0 -ℤ to_z w64 m) ≡ negsuc n
small-negation m n h e = ap again (small_is m h) ∙ to_z-of_z (small-fits m h) ∙ ap (λ (k : ℕ). neg_ℤ (pos k)) e

-- half of the values on and half of them back: the number that a field stands for
half-turn : (b : ℕ) → b < offset_values → pos ((b + half_offsets) % offset_values) -ℤ pos half_offsets ≡ signed b
half-turn b h = go (dec_lt b half_offsets)
  where
    go : Dec (b < half_offsets)
        → cond (ltb ((b + half_offsets) % offset_values) half_offsets) (negsuc (half_offsets - suc ((b + half_offsets) % offset_values))) (pos ((b + half_offsets) % offset_values - half_offsets)) ≡ signed b
    go (yes l) = rw (le-ltb ((b + half_offsets) % offset_values) half_offsets (omega arith)) (ap pos (omega arith) ∙ sym (signed-small b l))
    go (no g) = rw (lt-ltb ((b + half_offsets) % offset_values) half_offsets (omega arith)) (ap negsuc (omega arith) ∙ sym (signed-large b (omega arith)))

turned-is : (b : ℕ) → b < offset_values → to_z w64 ((b + half_offsets) % offset_values) -ℤ pos half_offsets ≡ signed b
turned-is b h = ap (λ x. x -ℤ pos half_offsets) (to_z_pos w64 {n = (b + half_offsets) % offset_values} (omega arith)) ∙ half-turn b h

pub turned-fits : (b : ℕ) → b < offset_values → SFits w64 (to_z w64 ((b + half_offsets) % offset_values) -ℤ pos half_offsets)
turned-fits b h = subst (SFits w64) (sym (turned-is b h)) (offset-fits (signed b) (signed_range b))

pub turned : (b : ℕ) → b < offset_values → again (to_z w64 ((b + half_offsets) % offset_values) -ℤ pos half_offsets) ≡ signed b
turned b h = back (turned-is b h) (signed_range b)

-- Its sign ----------------------------------------------------------------------------------------------------------------------------

-- the tests `z < 0` and `0 < z`, as the code makes them
abbrev pub Below : ℤ → Bool → Type 0
Below z b = lt_z (again z) (pos 0) ≡ b

under : {y z : ℤ} {b : Bool} → y ≡ z → OffsetRange z → Below y b → lt_z z (pos 0) ≡ b
under e r t = ap (λ x. lt_z x (pos 0)) (sym (back e r)) ∙ t

never : (n : ℕ) → ltb n 0 ≡ true → ⊥
never n t = let l = ltb-true n 0 t in omega arith

-- What each sign gives ----------------------------------------------------------------------------------------------------------------

nat_abs-neg : (z : ℤ) → nat_abs (neg_ℤ z) ≡ nat_abs z
nat_abs-neg (pos zero) = refl
nat_abs-neg (pos (suc n)) = refl
nat_abs-neg (negsuc n) = refl

pub nat_abs-negation : {z : ℤ} → OffsetRange z → nat_abs (again (pos 0 -ℤ again z)) ≡ nat_abs z
nat_abs-negation {z} r = ap nat_abs (negation-back z r) ∙ nat_abs-neg z

-- the number may be cast to one without a sign
abbrev Castable : ℤ → Type 0
Castable z = T (non_neg z) × Fits w64 (nat_abs z)

plus-castable : (z : ℤ) → OffsetRange z → lt_z z (pos 0) ≡ false → Castable z
unfolding forward
plus-castable (pos n) r t = let l : n < half_offsets = r.most in (tt, record { fits = omega arith })
plus-castable (negsuc n) r t = absurd (true≢false t)

minus-castable : (z : ℤ) → OffsetRange z → lt_z z (pos 0) ≡ true → Castable (neg_ℤ z)
unfolding backward
minus-castable (pos n) r t = absurd (never n t)
minus-castable (negsuc n) r t = let l : suc n ≤ half_offsets = r.least in (tt, record { fits = omega arith })

pub cast-of : {z : ℤ} → OffsetRange z → Below z false → Castable (again z)
cast-of {z} r t = subst Castable (sym (back refl r)) (plus-castable z r (under refl r t))

pub cast-of-negation : {z : ℤ} → OffsetRange z → Below z true → Castable (again (pos 0 -ℤ again z))
cast-of-negation {z} r t = subst Castable (sym (negation-back z r)) (minus-castable z r (under refl r t))

pub nat_abs-most : (z : ℤ) → OffsetRange z → nat_abs z ≤ half_offsets
unfolding forward backward
nat_abs-most (pos n) r = let l : n < half_offsets = r.most in omega arith
nat_abs-most (negsuc n) r = r.least

-- the field of a number below zero, and of another
pub field-minus : {z : ℤ} → OffsetRange z → Below z true → unsigned z ≡ offset_values - nat_abs z
unfolding unsigned
field-minus {z} r t = go z (under refl r t)
  where
    go : (z : ℤ) → lt_z z (pos 0) ≡ true → unsigned z ≡ offset_values - nat_abs z
    go (pos n) t = absurd (never n t)
    go (negsuc n) t = omega arith

pub field-plus : {z : ℤ} → OffsetRange z → Below z false → unsigned z ≡ nat_abs z
unfolding unsigned
field-plus {z} r t = go z (under refl r t)
  where
    go : (z : ℤ) → lt_z z (pos 0) ≡ false → unsigned z ≡ nat_abs z
    go (pos n) t = refl
    go (negsuc n) t = absurd (true≢false t)

-- One hop towards zero ----------------------------------------------------------------------------------------------------------------

towards-zero : (z : ℤ) → z -ℤ int_signum z ≡ shrunk z
unfolding shrunk
towards-zero (pos zero) = refl
towards-zero (pos (suc n)) =
    let one : min (suc n) 1 ≡ 1 = omega arith in
    ap (λ (k : ℕ). pos (suc n) -ℤ pos k) one ∙ -ℤ_one (pos (suc n)) ∙ ap pos (omega arith)
towards-zero (negsuc zero) = refl
towards-zero (negsuc (suc n)) = +ℤ_one (negsuc (suc n))

signum-range : (z : ℤ) → OffsetRange (int_signum z)
unfolding forward backward
signum-range (pos n) = record { most = omega arith; least = omega arith }
signum-range (negsuc n) = record { most = omega arith; least = omega arith }

pub shrunk-back : {z s : ℤ} → OffsetRange z → s ≡ int_signum (again z) → again (again z -ℤ again s) ≡ shrunk z
shrunk-back {z} r e =
    back (ap₂ (λ x y. x -ℤ y) (back refl r) (back (e ∙ ap int_signum (back refl r)) (signum-range z)) ∙ towards-zero z) (shrunk-range z r)
