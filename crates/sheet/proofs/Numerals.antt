-- Laws of a number's digits in a base of two or more. Order: a number by its last digit; the digits of a number below a power of the base are few; they are
-- digits, and read as a number they are that number again; a field that is a number has its digits. Assumes nothing.
use Rattle.std.specs.Prelude.{◌≡◌, ◌≢◌, ◌&&◌, ℕ, zero, suc, ◌+◌, ◌*◌, ◌-◌, ◌/◌, ◌%◌, ◌^◌, ◌<◌, ◌≤◌, eqb, leb, get_or}
use Rattle.std.proofs.Math.Path.{refl, ap, ap₂, sym}
use Rattle.std.proofs.Common.{◌∙◌, subst, mod-eq_of_lt, mod-lt, pow-suc, div-lt_iff_lt-mul, le-div_iff_mul-le, add-zero, one-mul, length-append}
use Rattle.std.proofs.Math.Bool.{true, and-eq-true_iff}
use Rattle.std.proofs.lemmas.Bool.{false≢true}
use mathlib.Core.List.{List, [], ◌∷◌, ◌++◌, append-nil}
use Rattle.std.proofs.Math.Nat.{div-lt_self, div-add-mod', mul-add-div_right, mul-add-mod_self_right, div-eq_of_lt, mul-le-mul_right, pow-zero}
use Rattle.std.proofs.Math.Decide.{dec_lt}
use native.Mathlib.Omega.{arith}
use Rattle.std.proofs.Math.Dec.{T}
use Rattle.std.proofs.Math.ListN.{length, get_or-append}
use Rattle.std.proofs.Math.Seq.{append_snoc}
use borrow.Author.Tests.{lt-ltb, le-ltb, le-leb, ne_eqb, eqb-false, leb-true, not-true}
use Rattle.base.specs.Tests.{all_of}
use Rattle.base.proofs.Tests.{all_of-append, all_of-head, all_of-tail, and_i, T_true, true-T}
use Rattle.sheet.specs.Commands.{is_digit, value_from, value, no_leading_zero, is_number}
use Rattle.sheet.proofs.Fields.{digit-bounds}
use Rattle.sheet.specs.Output.{numeral_within, numeral}
use Rattle.sheet.specs.Numerals.{Number}

module _ (base : ℕ) (two : 2 ≤ base) where
  within-one : (k n : ℕ) → n < base → numeral_within base (suc k) n ≡ (48 + n) ∷ []
  unfolding numeral_within
  within-one k n h = rw (lt-ltb n base h) (ap (λ d. (48 + d) ∷ []) (mod-eq_of_lt h))

  within_more : (k n : ℕ) → base ≤ n → numeral_within base (suc k) n ≡ numeral_within base k (n / base) ++ ((48 + n % base) ∷ [])
  unfolding numeral_within
  within_more k n h = rw (le-ltb n base h) refl

  pub smaller : (n : ℕ) → base ≤ n → n / base < n
  smaller n h = div-lt_self (omega arith) (omega arith)

  -- any bound above the number serves
  within-any : (k m n : ℕ) → n < k → n < m → numeral_within base k n ≡ numeral_within base m n
  within-any zero m n h l = absurd (omega arith)
  within-any (suc k) zero n h l = absurd (omega arith)
  within-any (suc k) (suc m) n h l = go (dec_lt n base) (λ s t. within-any k m (n / base) s t)
    where
      go : Dec (n < base) → (n / base < k → n / base < m → numeral_within base k (n / base) ≡ numeral_within base m (n / base))
          → numeral_within base (suc k) n ≡ numeral_within base (suc m) n
      go (yes b) r = within-one k n b ∙ sym (within-one m n b)
      go (no b) r =
          let s : n / base < n = smaller n (omega arith) in
          within_more k n (omega arith) ∙ ap (λ ds. ds ++ ((48 + n % base) ∷ [])) (r (omega arith) (omega arith)) ∙ sym (within_more m n (omega arith))

  pub numeral-one : (n : ℕ) → n < base → numeral base n ≡ (48 + n) ∷ []
  unfolding numeral
  numeral-one n h = within-one n n h

  pub numeral-more : (n : ℕ) → base ≤ n → numeral base n ≡ numeral base (n / base) ++ ((48 + n % base) ∷ [])
  unfolding numeral
  numeral-more n h =
      let s : n / base < n = smaller n h in
      within_more n n h ∙ ap (λ ds. ds ++ ((48 + n % base) ∷ [])) (within-any n (suc (n / base)) (n / base) s (omega arith))

  pub numeral-length-more : (n : ℕ) → base ≤ n → length (numeral base n) ≡ length (numeral base (n / base)) + 1
  numeral-length-more n h = ap length (numeral-more n h) ∙ length-append (numeral base (n / base)) ((48 + n % base) ∷ [])

  -- what holds of one digit, and of a number if of the number divided by the base, holds of every number
  numeral-by : (P : ℕ → Type 0) → ((n : ℕ) → n < base → P n) → ((n : ℕ) → base ≤ n → P (n / base) → P n) → (k n : ℕ) → n < k → P n
  numeral-by P one more zero n h = absurd (omega arith)
  numeral-by P one more (suc k) n h = go (dec_lt n base) (λ s. numeral-by P one more k (n / base) s)
    where
      go : Dec (n < base) → (n / base < k → P (n / base)) → P n
      go (yes b) r = one n b
      go (no b) r = let s : n / base < n = smaller n (omega arith) in more n (omega arith) (r (omega arith))

  -- a number below a power of the base has at most as many digits
  pub numeral-length : (k n : ℕ) → n < base ^ suc k → length (numeral base n) ≤ suc k
  numeral-length zero n h =
      let p : base ^ 1 ≡ base = pow-suc base 0 ∙ ap (λ m. m * base) (pow-zero base) ∙ one-mul base in
      rw (numeral-one n (subst (λ m. n < m) p h)) (omega arith)
  numeral-length (suc k) n h = go (dec_lt n base) (λ d. numeral-length k (n / base) d)
    where
      go : Dec (n < base) → (n / base < base ^ suc k → length (numeral base (n / base)) ≤ suc k) → length (numeral base n) ≤ suc (suc k)
      go (yes b) r = rw (numeral-one n b) (omega arith)
      go (no b) r =
          let i : length (numeral base (n / base)) ≤ suc k
          = r ((div-lt_iff_lt-mul {k = base} {x = n} {y = base ^ suc k} (omega arith)).1 (subst (λ m. n < m) (pow-suc base (suc k)) h)) in
          let l = numeral-length-more n (omega arith) in
          omega arith

  pub numeral-some : (n : ℕ) → 1 ≤ length (numeral base n)
  numeral-some n = go (dec_lt n base)
    where
      go : Dec (n < base) → 1 ≤ length (numeral base n)
      go (yes b) = rw (numeral-one n b) (omega arith)
      go (no b) = let l = numeral-length-more n (omega arith) in omega arith

-- a list whose first digit is not 0 has no leading zero
pub not-leading : (field : List ℕ) → get_or field 0 0 ≢ 48 → length field ≢ 0 → no_leading_zero field ≡ true
unfolding no_leading_zero
not-leading [] f h = absurd (h refl)
not-leading (b ∷ []) f h = refl
not-leading (b ∷ c ∷ bs) f h = rw (ne_eqb b 48 f) refl

pub number-parts : (base most : ℕ) (field : List ℕ) → is_number base most field ≡ true → Number base most field
unfolding is_number
number-parts base most field e =
    let (a, b) = (and-eq-true_iff (no_leading_zero field) (all_of (is_digit base) field && leb (value base field) most)).0 e in
    let (c, d) = (and-eq-true_iff (all_of (is_digit base) field) (leb (value base field) most)).0 b in
    record { leads = a; digits = true-T (all_of (is_digit base) field) c; small = leb-true (value base field) most d }

value-behind : (base n : ℕ) (xs ys : List ℕ) → value_from base n (xs ++ ys) ≡ value_from base (value_from base n xs) ys
unfolding value_from
value-behind base n [] ys = refl
value-behind base n (b ∷ xs) ys = value-behind base (n * base + (b - 48)) xs ys

module _ (base : ℕ) (two : 2 ≤ base) where
  digit-is : (d : ℕ) → d < base → T (is_digit base (48 + d))
  unfolding is_digit
  digit-is d h = rw (le-leb 48 (48 + d) (omega arith), lt-ltb (48 + d) (48 + base) (omega arith)) tt

  digits-one : (d : ℕ) → d < base → T (all_of (is_digit base) ((48 + d) ∷ []))
  unfolding all_of
  digits-one d h = and_i (is_digit base (48 + d)) true (digit-is d h) tt

  pub numeral-digits : (n : ℕ) → T (all_of (is_digit base) (numeral base n))
  numeral-digits n =
      numeral-by base two (λ m. T (all_of (is_digit base) (numeral base m)))
      (λ m h. rw (numeral-one base two m h) (digits-one m h))
      (λ m h t. rw (numeral-more base two m h) (all_of-append (is_digit base) (numeral base (m / base)) ((48 + m % base) ∷ []) t (digits-one (m % base) (mod-lt m (omega arith)))))
      (suc n)
      n
      (omega arith)

  value-one : (d : ℕ) → value base ((48 + d) ∷ []) ≡ d
  unfolding value value_from
  value-one d = omega arith

  value-more : (m : ℕ) (ds : List ℕ) → value base ds ≡ m / base → value base (ds ++ ((48 + m % base) ∷ [])) ≡ m
  unfolding value value_from
  value-more m ds r =
      value-behind base 0 ds ((48 + m % base) ∷ [])
      ∙ ap₂ (λ a b. a * base + b) r (digit (m % base))
      ∙ div-add-mod' m base
    where
      digit : (d : ℕ) → 48 + d - 48 ≡ d
      digit d = omega arith

  -- read as a number, the digits are the number again
  pub value-numeral : (n : ℕ) → value base (numeral base n) ≡ n
  value-numeral n =
      numeral-by base two (λ m. value base (numeral base m) ≡ m)
      (λ m h. ap (value base) (numeral-one base two m h) ∙ value-one m)
      (λ m h r. ap (value base) (numeral-more base two m h) ∙ value-more m (numeral base (m / base)) r)
      (suc n)
      n
      (omega arith)

  -- only 0 begins with a zero
  starts : (n : ℕ) → 1 ≤ n → get_or (numeral base n) 0 0 ≢ 48
  starts n =
      numeral-by base two (λ m. 1 ≤ m → get_or (numeral base m) 0 0 ≢ 48)
      (λ m h p e. absurd (one m p (ap (λ l. get_or l 0 0) (sym (numeral-one base two m h)) ∙ e)))
      (λ m h r p e.
      r (quotient m h)
      (sym (get_or-append (numeral base (m / base)) ((48 + m % base) ∷ []) 0 0 (numeral-some base two (m / base)))
      ∙ ap (λ l. get_or l 0 0) (sym (numeral-more base two m h))
      ∙ e))
      (suc n)
      n
      (omega arith)
    where
      one : (m : ℕ) → 1 ≤ m → 48 + m ≡ 48 → ⊥
      one m p e = omega arith

      quotient : (m : ℕ) → base ≤ m → 1 ≤ m / base
      quotient m h = (le-div_iff_mul-le {k = base} {x = 1} {y = m} (omega arith)).1 (omega arith)

  pub numeral-leads : (n : ℕ) → no_leading_zero (numeral base n) ≡ true
  unfolding no_leading_zero
  numeral-leads n = go (dec_lt n base)
    where
      go : Dec (n < base) → no_leading_zero (numeral base n) ≡ true
      go (yes b) = rw (numeral-one base two n b) refl
      go (no b) =
          let l : 1 ≤ length (numeral base n) = numeral-some base two n in
          not-leading (numeral base n) (starts n (omega arith)) (λ e. omega arith)

  -- a number's digits are a number, if it is not too large
  pub numeral-is-number : (most n : ℕ) → n ≤ most → is_number base most (numeral base n) ≡ true
  unfolding is_number
  numeral-is-number most n h = rw (numeral-leads n, T_true (all_of (is_digit base) (numeral base n)) (numeral-digits n), value-numeral n, le-leb n most h) refl

  -- a digit stands for a number below the base, and is that number's numeral
  digit_value : (b : ℕ) → T (is_digit base b) → (b - 48 < base) × (48 + (b - 48) ≡ b)
  digit_value b t = let (l, m) = digit-bounds base b t in (omega arith, omega arith)

  digit-numeral : (b : ℕ) → T (is_digit base b) → numeral base (value base (b ∷ [])) ≡ b ∷ []
  unfolding value value_from
  digit-numeral b t =
      let (small, is) = digit_value b t in
      let v : 0 * base + (b - 48) ≡ b - 48 = omega arith in
      ap (numeral base) v ∙ numeral-one base two (b - 48) small ∙ ap (λ c. c ∷ []) is

  -- behind the digits of a number that is not 0: one digit more; any digits
  numeral-behind : (n d : ℕ) → 1 ≤ n → d < base → numeral base (n * base + d) ≡ numeral base n ++ ((48 + d) ∷ [])
  numeral-behind n d some h =
      let l : 1 * base ≤ n * base = mul-le-mul_right base some in
      numeral-more base two (n * base + d) (omega arith)
      ∙ ap₂ (λ m k. numeral base m ++ ((48 + k) ∷ []))
      (mul-add-div_right {m = base} (omega arith) n d ∙ ap (λ k. n + k) (div-eq_of_lt h) ∙ add-zero n)
      (mul-add-mod_self_right n base d ∙ mod-eq_of_lt h)

  digits-behind : (n : ℕ) (xs : List ℕ) → 1 ≤ n → T (all_of (is_digit base) xs) → numeral base (value_from base n xs) ≡ numeral base n ++ xs
  unfolding value_from
  digits-behind n [] some t = sym (append-nil (numeral base n))
  digits-behind n (b ∷ xs) some t =
      let (small, is) = digit_value b (all_of-head (is_digit base) b xs t) in
      let l : 1 * base ≤ n * base = mul-le-mul_right base some in
      digits-behind (n * base + (b - 48)) xs (omega arith) (all_of-tail (is_digit base) b xs t)
      ∙ ap (λ ds. ds ++ xs) (numeral-behind n (b - 48) some small ∙ ap (λ c. numeral base n ++ (c ∷ [])) is)
      ∙ append_snoc (numeral base n) b xs

  -- so a field that is a number is the numeral of its value
  digits_are : (field : List ℕ) → no_leading_zero field ≡ true → T (all_of (is_digit base) field) → numeral base (value base field) ≡ field
  unfolding no_leading_zero value value_from
  digits_are [] e t = absurd (false≢true e)
  digits_are (b ∷ []) e t = digit-numeral b (all_of-head (is_digit base) b [] t)
  digits_are (b ∷ c ∷ bs) e t =
      let digit : T (is_digit base b) = all_of-head (is_digit base) b (c ∷ bs) t in
      let is : 48 + (b - 48) ≡ b = (digit_value b digit).1 in
      let f : b ≢ 48 = eqb-false b 48 (not-true (eqb b 48) e) in
      digits-behind (0 * base + (b - 48)) (c ∷ bs) (leads f is) (all_of-tail (is_digit base) b (c ∷ bs) t)
      ∙ ap (λ ds. ds ++ (c ∷ bs)) (digit-numeral b digit)
    where
      leads : b ≢ 48 → 48 + (b - 48) ≡ b → 1 ≤ 0 * base + (b - 48)
      leads f is = omega arith

  pub number-is-numeral : (most : ℕ) (field : List ℕ) → is_number base most field ≡ true → numeral base (value base field) ≡ field
  number-is-numeral most field e = let p = number-parts base most field e in digits_are field p.leads p.digits
