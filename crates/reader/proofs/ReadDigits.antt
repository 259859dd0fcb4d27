-- Digits read one after another: what `digits_from` is at each way out of the loop, and what a turn leaves of it.
-- Order: one byte; one digit more; the value only grows; the loop's invariant and its steps; leading zeros. Assumes nothing.
use mathlib.Core.Path.{◌≡◌, refl, ap, sym, ◌∙◌}
use mathlib.Core.Bool.{Bool, true, false, not, cond, ◌&&◌, and-false}
use mathlib.Core.List.{List, [], ◌∷◌}
use Prim.Native.Nat.{ℕ, suc, ◌+◌, ◌*◌, ◌-◌, ◌/◌, ◌<◌, ◌≤◌}
use native.Mathlib.Numerals.{add-one}
use native.Mathlib.Nat.{mul-le-mul_left, le-div_iff_mul-le, div-lt_iff_lt-mul}
use native.Mathlib.Omega.{arith}
use lib.Dec.{leb, eqb, ltb}
use lib.ListN.{length, get_or, drop}
use lib.Seq.{drop-cons, drop-length}
use borrow.Author.Tests.{le-leb, lt-leb, le-ltb, lt-ltb, ne_eqb}
use Rattle.base.specs.Tests.{all_of}
use Rattle.std.specs.Prelude.{Some, None}
use Rattle.sheet.specs.Commands.{is_digit, value_from, value, no_leading_zero, is_number}
use Rattle.reader.specs.Reading.{number_of, digits_from}

digit_low : (base b : ℕ) → b < 48 → is_digit base b ≡ false
unfolding is_digit
digit_low base b h = rw (lt-leb 48 b h) refl

digit-high : (base b : ℕ) → base ≤ b - 48 → 48 ≤ b → is_digit base b ≡ false
unfolding is_digit
digit-high base b h l = rw (le-ltb b (48 + base) (omega arith)) (and-false (leb 48 b))

digit-within : (base b : ℕ) → 48 ≤ b → b - 48 < base → is_digit base b ≡ true
unfolding is_digit
digit-within base b l h = rw (le-leb 48 b l, lt-ltb b (48 + base) (omega arith)) refl

-- one digit more, by the quotient that the code compares: the number is at most `most`, or it is not. The divisor is no 0
next_fits : (base most n d : ℕ) → 2 ≤ base → d ≤ most → n ≤ (most - d) / base → n * base + d ≤ most
next_fits base most n d two h q =
    let p : n * base ≤ most - d = (le-div_iff_mul-le {k = base} {x = n} {y = most - d} (omega arith)).0 q in
    omega arith

next-large : (base most n d : ℕ) → 2 ≤ base → d ≤ most → (most - d) / base < n → most < n * base + d
next-large base most n d two h q =
    let p : most - d < n * base = (div-lt_iff_lt-mul {k = base} {x = most - d} {y = n} (omega arith)).0 q in
    omega arith

-- the value only grows
next_grows : (base n d : ℕ) → 2 ≤ base → n ≤ n * base + d
next_grows base n d two =
    let p : n * 1 ≤ n * base = mul-le-mul_left n (omega arith) in
    omega arith

value_grows : (base n : ℕ) → 2 ≤ base → (field : List ℕ) → n ≤ value_from base n field
unfolding value_from
value_grows base n two [] = omega arith
value_grows base n two (b ∷ bs) =
    let s = next_grows base n (b - 48) two in
    let h = value_grows base (n * base + (b - 48)) two bs in
    omega arith

-- one byte of the field
module _ (base most : ℕ) where
  digits-bad : (n b : ℕ) (bs : List ℕ) → is_digit base b ≡ false → digits_from base most n (b ∷ bs) ≡ None
  unfolding digits_from all_of
  digits-bad n b bs e = rw e refl

  digits-next : (n b : ℕ) (bs : List ℕ) → is_digit base b ≡ true → digits_from base most n (b ∷ bs) ≡ digits_from base most (n * base + (b - 48)) bs
  unfolding digits_from all_of value_from
  digits-next n b bs e = rw e refl

  digits-large : (n : ℕ) (field : List ℕ) → 2 ≤ base → most < n → digits_from base most n field ≡ None
  unfolding digits_from
  digits-large n field two h =
      let g = value_grows base n two field in
      rw (lt-leb (value_from base n field) most (omega arith), and-false (all_of (is_digit base) field)) refl

  digits-end : (n : ℕ) → n ≤ most → digits_from base most n [] ≡ Some n
  unfolding digits_from all_of value_from
  digits-end n h = rw (le-leb n most h) refl

-- i bytes have been read, as `value`: what the whole field gives is what the rest gives behind it
pub record Reading (base most : ℕ) (field : List ℕ) (value i : ℕ) : Type 0 where
  pub within : i ≤ length field
  pub fits : value ≤ most
  pub left : digits_from base most 0 field ≡ digits_from base most value (drop i field)

pub none : (base most : ℕ) (field : List ℕ) → Reading base most field 0 0
none base most field = record { within = omega arith; fits = omega arith; left = refl }

module _ {base most : ℕ} {field : List ℕ} {value i : ℕ} (r : Reading base most field value i) (h : i < length field) where
  reading-bad : is_digit base (get_or field i 0) ≡ false → None ≡ digits_from base most 0 field
  reading-bad e =
      sym
      (r.left
      ∙ ap (digits_from base most value) (drop-cons field i 0 h)
      ∙ digits-bad base most value (get_or field i 0) (drop (suc i) field) e)

  reading-next : is_digit base (get_or field i 0) ≡ true
      → digits_from base most 0 field ≡ digits_from base most (value * base + (get_or field i 0 - 48)) (drop (i + 1) field)
  reading-next e =
      r.left
      ∙ ap (digits_from base most value) (drop-cons field i 0 h)
      ∙ digits-next base most value (get_or field i 0) (drop (suc i) field) e
      ∙ ap (λ n. digits_from base most (value * base + (get_or field i 0 - 48)) (drop n field)) (sym (add-one i))

  pub low : get_or field i 0 < 48 → None ≡ digits_from base most 0 field
  low l = reading-bad (digit_low base (get_or field i 0) l)

  module _ (l : 48 ≤ get_or field i 0) where
    pub high : base ≤ get_or field i 0 - 48 → None ≡ digits_from base most 0 field
    high u = reading-bad (digit-high base (get_or field i 0) u l)

    module _ (two : 2 ≤ base) (u : get_or field i 0 - 48 < base) where
      -- the number with this digit is too large: the digit alone is, or the digits before it are too many
      large : most < value * base + (get_or field i 0 - 48) → None ≡ digits_from base most 0 field
      large b =
          sym (reading-next (digit-within base (get_or field i 0) l u) ∙ digits-large base most (value * base + (get_or field i 0 - 48)) (drop (i + 1) field) two b)

      pub large-digit : most < get_or field i 0 - 48 → None ≡ digits_from base most 0 field
      large-digit d = large (omega arith)

      module _ (d : get_or field i 0 - 48 ≤ most) where
        pub large-value : (most - (get_or field i 0 - 48)) / base < value → None ≡ digits_from base most 0 field
        large-value q = large (next-large base most value (get_or field i 0 - 48) two d q)

        pub next : value ≤ (most - (get_or field i 0 - 48)) / base → Reading base most field (value * base + (get_or field i 0 - 48)) (i + 1)
        next q =
            record {
              within = omega arith;
              fits = next_fits base most value (get_or field i 0 - 48) two d q;
              left = reading-next (digit-within base (get_or field i 0) l u);
            }

pub end : {base most : ℕ} {field : List ℕ} {value i : ℕ} → Reading base most field value i → length field ≤ i
    → Some value ≡ digits_from base most 0 field
end {base} {most} {field} {value} {i} r h =
    let w : i ≤ length field = r.within in
    let e : i ≡ length field = omega arith in
    sym
    (r.left
    ∙ ap (λ n. digits_from base most value (drop n field)) e
    ∙ ap (digits_from base most value) (drop-length field)
    ∙ digits-end base most value r.fits)

-- a field by the tests of `read_number`: whether it is empty, and whether a zero stands before another digit
pub number_by : (base most : ℕ) (field : List ℕ)
    → number_of base most field
    ≡ cond (eqb (length field) 0) None (cond (ltb 1 (length field) && eqb (get_or field 0 0) 48) None (digits_from base most 0 field))
unfolding number_of digits_from is_number no_leading_zero value
number_by base most [] = refl
number_by base most (b ∷ []) = refl
number_by base most (b ∷ c ∷ bs) =
    rw (ne_eqb (length (b ∷ c ∷ bs)) 0 (λ e. omega arith), lt-ltb 1 (length (b ∷ c ∷ bs)) (omega arith)) (go (eqb b 48))
  where
    go : (t : Bool)
        → cond (not t && (all_of (is_digit base) (b ∷ c ∷ bs) && leb (value_from base 0 (b ∷ c ∷ bs)) most)) (Some (value_from base 0 (b ∷ c ∷ bs))) None
        ≡ cond t None (cond (all_of (is_digit base) (b ∷ c ∷ bs) && leb (value_from base 0 (b ∷ c ∷ bs)) most) (Some (value_from base 0 (b ∷ c ∷ bs))) None)
    go true = refl
    go false = refl
