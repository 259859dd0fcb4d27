-- A number as digits in mixed radix, lowest first: `ks` lists the radices. A node's coordinates are such digits.
-- Order: the product of the radices, reading a digit, writing one, its weight; laws of one written and one read; rotating a digit; a number
-- by what stands below and above a digit.
-- Assumes nothing.
use Rattle.std.specs.Prelude.{◌≡◌, refl, List, [], ◌∷◌, ◌≢◌, T, ltb, length, drop}
use Rattle.std.proofs.Math.Path.{ap, sym}
use Rattle.std.proofs.Common.{ap₂, ◌∙◌, ltb→lt}
use Prim.Native.Nat.{ℕ, zero, suc, ◌+◌, ◌*◌, ◌/◌, ◌%◌, ◌<◌, ◌≤◌}
use native.Mathlib.Nat.{le_of_suc-le-suc, not-suc-le-zero, mod-lt, mod-eq_of_lt, mod-add-div, add-mul-div_left, add-mul-mod_self_left, div-eq_of_lt, zero-add, mul_comm, mod-add-mod, add_assoc, div-lt_iff_lt-mul, mul-le-mul_left, mul-pos, add-mul-mod_self_right, add_comm, div-div-eq-div-mul, div-one, mul-one, mul-add, mul_left_comm}
use native.Mathlib.Omega.{arith}
use Rattle.std.proofs.Math.ListN.{get_or}
use Rattle.base.specs.Tests.{all_of}
use Rattle.base.proofs.Tests.{all_of-head, all_of-tail}
use Rattle.base.specs.Digits.{product, digit, put_digit, weight, Positive, rotate, above, around}

pub positive-by : (ks : List ℕ) → T (all_of (ltb 0) ks) → Positive ks
unfolding Positive
positive-by [] t = tt
positive-by (k ∷ ks) t = (ltb→lt 0 k (all_of-head (ltb 0) k ks t), positive-by ks (all_of-tail (ltb 0) k ks t))

pub digit_lt : (ks : List ℕ) (i n : ℕ) → Positive ks → i < length ks → digit ks i n < get_or ks i 0
unfolding digit Positive
digit_lt [] i n p h = absurd (not-suc-le-zero h)
digit_lt (k ∷ ks) zero n p h = mod-lt n p.0
digit_lt (k ∷ ks) (suc i) n p h = digit_lt ks i (n / k) p.1 (le_of_suc-le-suc h)

pub product-pos : (ks : List ℕ) → Positive ks → 0 < product ks
unfolding product Positive
product-pos [] p = omega arith
product-pos (k ∷ ks) p = mul-pos p.0 (product-pos ks p.1)

-- the two parts of c + k × m
pub low : (c k m : ℕ) → c < k → (c + k * m) % k ≡ c
low c k m h = add-mul-mod_self_left c k m ∙ mod-eq_of_lt h

pub high : (c k m : ℕ) → c < k → (c + k * m) / k ≡ m
high c k m h = add-mul-div_left c m (pos c k h) ∙ ap (λ (x : ℕ). x + m) (div-eq_of_lt h) ∙ zero-add m
  where
    pos : (c k : ℕ) → c < k → 0 < k
    pos c k h = omega arith

multiple : (k m t : ℕ) → t * (k * m) ≡ 0 + k * (t * m)
multiple k m t = mul_left_comm t k m ∙ sym (zero-add (k * (t * m)))

-- a multiple of the product has no digit but 0
pub digit-multiple : (ks : List ℕ) (i t : ℕ) → Positive ks → digit ks i (t * product ks) ≡ 0
unfolding digit product Positive
digit-multiple [] i t p = refl
digit-multiple (k ∷ ks) zero t p = ap (λ (n : ℕ). n % k) (multiple k (product ks) t) ∙ low 0 k (t * product ks) p.0
digit-multiple (k ∷ ks) (suc i) t p =
    ap (digit ks i) (ap (λ (n : ℕ). n / k) (multiple k (product ks) t) ∙ high 0 k (t * product ks) p.0) ∙ digit-multiple ks i t p.1

pub digit-put-same : (ks : List ℕ) (i c n : ℕ) → Positive ks → i < length ks → c < get_or ks i 0 → digit ks i (put_digit ks i c n) ≡ c
unfolding digit put_digit Positive
digit-put-same [] i c n p h hc = absurd (not-suc-le-zero h)
digit-put-same (k ∷ ks) zero c n p h hc = low c k (n / k) hc
digit-put-same (k ∷ ks) (suc i) c n p h hc =
    ap (digit ks i) (high (n % k) k (put_digit ks i c (n / k)) (mod-lt n p.0))
    ∙ digit-put-same ks i c (n / k) p.1 (le_of_suc-le-suc h) hc

pub digit-put-other : (ks : List ℕ) (i j c n : ℕ) → Positive ks → j ≢ i → c < get_or ks i 0 → digit ks j (put_digit ks i c n) ≡ digit ks j n
unfolding digit put_digit Positive
digit-put-other [] i j c n p ne hc = refl
digit-put-other (k ∷ ks) zero zero c n p ne hc = absurd (ne refl)
digit-put-other (k ∷ ks) zero (suc j) c n p ne hc = ap (digit ks j) (high c k (n / k) hc)
digit-put-other (k ∷ ks) (suc i) zero c n p ne hc = low (n % k) k (put_digit ks i c (n / k)) (mod-lt n p.0)
digit-put-other (k ∷ ks) (suc i) (suc j) c n p ne hc =
    ap (digit ks j) (high (n % k) k (put_digit ks i c (n / k)) (mod-lt n p.0))
    ∙ digit-put-other ks i j c (n / k) p.1 (λ e. ne (ap suc e)) hc

pub put-put : (ks : List ℕ) (i c d n : ℕ) → Positive ks → c < get_or ks i 0 → put_digit ks i d (put_digit ks i c n) ≡ put_digit ks i d n
unfolding put_digit Positive
put-put [] i c d n p hc = refl
put-put (k ∷ ks) zero c d n p hc = ap (λ (x : ℕ). d + k * x) (high c k (n / k) hc)
put-put (k ∷ ks) (suc i) c d n p hc =
    ap₂ (λ (x y : ℕ). x + k * put_digit ks i d y)
    (low (n % k) k (put_digit ks i c (n / k)) (mod-lt n p.0))
    (high (n % k) k (put_digit ks i c (n / k)) (mod-lt n p.0))
    ∙ ap (λ (x : ℕ). n % k + k * x) (put-put ks i c d (n / k) p.1 hc)

pub put-comm : (ks : List ℕ) (i j c d n : ℕ) → Positive ks → i ≢ j → c < get_or ks i 0 → d < get_or ks j 0
    → put_digit ks i c (put_digit ks j d n) ≡ put_digit ks j d (put_digit ks i c n)
unfolding put_digit Positive
put-comm [] i j c d n p ne hc hd = refl
put-comm (k ∷ ks) zero zero c d n p ne hc hd = absurd (ne refl)
put-comm (k ∷ ks) zero (suc j) c d n p ne hc hd =
    ap (λ (x : ℕ). c + k * x) (high (n % k) k (put_digit ks j d (n / k)) (mod-lt n p.0))
    ∙ ap₂ (λ (x y : ℕ). x + k * put_digit ks j d y) (sym (low c k (n / k) hc)) (sym (high c k (n / k) hc))
put-comm (k ∷ ks) (suc i) zero c d n p ne hc hd =
    ap₂ (λ (x y : ℕ). x + k * put_digit ks i c y) (low d k (n / k) hd) (high d k (n / k) hd)
    ∙ ap (λ (x : ℕ). d + k * x) (sym (high (n % k) k (put_digit ks i c (n / k)) (mod-lt n p.0)))
put-comm (k ∷ ks) (suc i) (suc j) c d n p ne hc hd =
    ap₂ (λ (x y : ℕ). x + k * put_digit ks i c y)
    (low (n % k) k (put_digit ks j d (n / k)) (mod-lt n p.0))
    (high (n % k) k (put_digit ks j d (n / k)) (mod-lt n p.0))
    ∙ ap (λ (x : ℕ). n % k + k * x) (put-comm ks i j c d (n / k) p.1 (λ e. ne (ap suc e)) hc hd)
    ∙ ap₂ (λ (x y : ℕ). x + k * put_digit ks j d y)
    (sym (low (n % k) k (put_digit ks i c (n / k)) (mod-lt n p.0)))
    (sym (high (n % k) k (put_digit ks i c (n / k)) (mod-lt n p.0)))

pub put-digit : (ks : List ℕ) (i n : ℕ) → put_digit ks i (digit ks i n) n ≡ n
unfolding put_digit digit
put-digit [] i n = refl
put-digit (k ∷ ks) zero n = mod-add-div n k
put-digit (k ∷ ks) (suc i) n = ap (λ (x : ℕ). n % k + k * x) (put-digit ks i (n / k)) ∙ mod-add-div n k

pub below-product : (c k m q : ℕ) → c < k → m < q → c + k * m < k * q
below-product c k m q hc hm = go (mul-le-mul_left k hm)
  where
    go : k * suc m ≤ k * q → c + k * m < k * q
    go l = let e : k * suc m ≡ k * m + k = native.Mathlib.Nat.mul-suc k m in omega arith

pub put-lt : (ks : List ℕ) (i c n : ℕ) → Positive ks → c < get_or ks i 0 → n < product ks → put_digit ks i c n < product ks
unfolding put_digit product Positive
put-lt [] i c n p hc h = h
put-lt (k ∷ ks) zero c n p hc h = below-product c k (n / k) (product ks) hc ((div-lt_iff_lt-mul p.0).1 (rw mul_comm at h))
put-lt (k ∷ ks) (suc i) c n p hc h =
    below-product (n % k) k (put_digit ks i c (n / k)) (product ks) (mod-lt n p.0)
    (put-lt ks i c (n / k) p.1 hc ((div-lt_iff_lt-mul p.0).1 (rw mul_comm at h)))

-- what stands above the digits stays
pub above-put : (ks : List ℕ) (i c n : ℕ) → Positive ks → c < get_or ks i 0 → put_digit ks i c n / product ks ≡ n / product ks
unfolding put_digit product Positive
above-put [] i c n p hc = refl
above-put (k ∷ ks) zero c n p hc =
    sym (div-div-eq-div-mul (c + k * (n / k)) k (product ks)) ∙ ap (λ (x : ℕ). x / product ks) (high c k (n / k) hc) ∙ div-div-eq-div-mul n k (product ks)
above-put (k ∷ ks) (suc i) c n p hc =
    sym (div-div-eq-div-mul (n % k + k * put_digit ks i c (n / k)) k (product ks))
    ∙ ap (λ (x : ℕ). x / product ks) (high (n % k) k (put_digit ks i c (n / k)) (mod-lt n p.0))
    ∙ above-put ks i c (n / k) p.1 hc
    ∙ div-div-eq-div-mul n k (product ks)

-- numbers below the product with the same digits are the same
pub digits-eq : (ks : List ℕ) (n m : ℕ) → Positive ks → n < product ks → m < product ks
    → ((i : ℕ) → i < length ks → digit ks i n ≡ digit ks i m) → n ≡ m
unfolding digit product Positive
digits-eq [] n m p hn hm h = omega arith
digits-eq (k ∷ ks) n m p hn hm h =
    sym (mod-add-div n k)
    ∙ ap₂ (λ (x y : ℕ). x + k * y) (h 0 (omega arith))
    (digits-eq ks (n / k) (m / k) p.1
    ((div-lt_iff_lt-mul p.0).1 (rw mul_comm at hn))
    ((div-lt_iff_lt-mul p.0).1 (rw mul_comm at hm))
    (λ i hi. h (suc i) ((native.Mathlib.Nat.suc-le-suc_iff).1 hi)))
    ∙ mod-add-div m k

pub radix-pos : (ks : List ℕ) (i : ℕ) → Positive ks → i < length ks → 0 < get_or ks i 0
unfolding Positive
radix-pos [] i p h = absurd (not-suc-le-zero h)
radix-pos (k ∷ ks) zero p h = p.0
radix-pos (k ∷ ks) (suc i) p h = radix-pos ks i p.1 (le_of_suc-le-suc h)

rotated-lt : (ks : List ℕ) (i a n : ℕ) → Positive ks → i < length ks → (digit ks i n + a) % get_or ks i 0 < get_or ks i 0
rotated-lt ks i a n p h = mod-lt (digit ks i n + a) (radix-pos ks i p h)

pub rotate-lt : (ks : List ℕ) (i a n : ℕ) → Positive ks → i < length ks → n < product ks → rotate ks i a n < product ks
unfolding rotate
rotate-lt ks i a n p h hn = put-lt ks i ((digit ks i n + a) % get_or ks i 0) n p (rotated-lt ks i a n p h) hn

pub digit-rotate-same : (ks : List ℕ) (i a n : ℕ) → Positive ks → i < length ks → digit ks i (rotate ks i a n) ≡ (digit ks i n + a) % get_or ks i 0
unfolding rotate
digit-rotate-same ks i a n p h = digit-put-same ks i ((digit ks i n + a) % get_or ks i 0) n p h (rotated-lt ks i a n p h)

pub digit-rotate-other : (ks : List ℕ) (i j a n : ℕ) → Positive ks → i < length ks → j ≢ i → digit ks j (rotate ks i a n) ≡ digit ks j n
unfolding rotate
digit-rotate-other ks i j a n p h ne = digit-put-other ks i j ((digit ks i n + a) % get_or ks i 0) n p ne (rotated-lt ks i a n p h)

-- rotations of one digit add up
pub rotate-rotate : (ks : List ℕ) (i a b n : ℕ) → Positive ks → i < length ks → rotate ks i b (rotate ks i a n) ≡ rotate ks i (a + b) n
unfolding rotate
rotate-rotate ks i a b n p h =
    put-put ks i ((digit ks i n + a) % k) ((digit ks i (put_digit ks i ((digit ks i n + a) % k) n) + b) % k) n p (rotated-lt ks i a n p h)
    ∙ ap (λ (c : ℕ). put_digit ks i c n)
    (ap (λ (c : ℕ). (c + b) % k) (digit-put-same ks i ((digit ks i n + a) % k) n p h (rotated-lt ks i a n p h))
    ∙ mod-add-mod (digit ks i n + a) k b
    ∙ ap (λ (c : ℕ). c % k) (add_assoc (digit ks i n) a b))
  where
    k : ℕ
    k = get_or ks i 0

-- rotations of two digits, or of one twice, in either order
pub rotate-comm : (ks : List ℕ) (i j a b n : ℕ) → Positive ks → i < length ks → j < length ks → rotate ks i a (rotate ks j b n) ≡ rotate ks j b (rotate ks i a n)
unfolding rotate
rotate-comm ks i j a b n p hi hj = go (native.Mathlib.Decide.ℕ_discrete i j)
  where
    apart : i ≢ j → rotate ks i a (rotate ks j b n) ≡ rotate ks j b (rotate ks i a n)
    apart ne =
        ap (λ (c : ℕ). put_digit ks i ((c + a) % get_or ks i 0) (rotate ks j b n)) (digit-rotate-other ks j i b n p hj ne)
        ∙ put-comm ks i j ((digit ks i n + a) % get_or ks i 0) ((digit ks j n + b) % get_or ks j 0) n p ne (rotated-lt ks i a n p hi) (rotated-lt ks j b n p hj)
        ∙ ap (λ (c : ℕ). put_digit ks j ((c + b) % get_or ks j 0) (rotate ks i a n)) (sym (digit-rotate-other ks i j a n p hi (λ e. ne (sym e))))

    go : Dec (i ≡ j) → rotate ks i a (rotate ks j b n) ≡ rotate ks j b (rotate ks i a n)
    go (yes e) =
        let t : rotate ks i a (rotate ks i b n) ≡ rotate ks i b (rotate ks i a n) =
        rotate-rotate ks i b a n p hi ∙ ap (λ (c : ℕ). rotate ks i c n) (add_comm b a) ∙ sym (rotate-rotate ks i a b n p hi) in
        rw (← e) t
    go (no ne) = apart ne

-- whole rounds change nothing
pub rotate-rounds : (ks : List ℕ) (i m n : ℕ) → Positive ks → i < length ks → rotate ks i (m * get_or ks i 0) n ≡ n
unfolding rotate
rotate-rounds ks i m n p h =
    ap (λ (c : ℕ). put_digit ks i c n)
    (add-mul-mod_self_right (digit ks i n) m (get_or ks i 0) ∙ mod-eq_of_lt (digit_lt ks i n p h))
    ∙ put-digit ks i n

pub weight-pos : (ks : List ℕ) (i : ℕ) → Positive ks → 0 < weight ks i
unfolding weight Positive
weight-pos [] i p = omega arith
weight-pos (k ∷ ks) zero p = omega arith
weight-pos (k ∷ ks) (suc i) p = mul-pos p.0 (weight-pos ks i p.1)

pub digit-weight : (ks : List ℕ) (i n : ℕ) → i < length ks → digit ks i n ≡ n / weight ks i % get_or ks i 0
unfolding digit weight
digit-weight [] i n h = absurd (not-suc-le-zero h)
digit-weight (k ∷ ks) zero n h = ap (λ (m : ℕ). m % k) (sym (div-one n))
digit-weight (k ∷ ks) (suc i) n h =
    digit-weight ks i (n / k) (le_of_suc-le-suc h) ∙ ap (λ (m : ℕ). m % get_or ks i 0) (div-div-eq-div-mul n k (weight ks i))

pub put-weight : (ks : List ℕ) (i b n : ℕ) → i < length ks → put_digit ks i b n + digit ks i n * weight ks i ≡ n + b * weight ks i
unfolding put_digit digit weight
put-weight [] i b n h = absurd (not-suc-le-zero h)
put-weight (k ∷ ks) zero b n h = let e = mod-add-div n k in let f = mul-one (n % k) in let g = mul-one b in omega arith
put-weight (k ∷ ks) (suc i) b n h =
    let e : n % k + k * (n / k) ≡ n = mod-add-div n k in
    let f : k * (put_digit ks i b (n / k) + digit ks i (n / k) * weight ks i) ≡ k * (n / k + b * weight ks i) =
    ap (λ (m : ℕ). k * m) (put-weight ks i b (n / k) (le_of_suc-le-suc h)) in
    let l = mul-add k (put_digit ks i b (n / k)) (digit ks i (n / k) * weight ks i) in
    let m = mul-add k (n / k) (b * weight ks i) in
    let o = mul_left_comm k (digit ks i (n / k)) (weight ks i) in
    let p = mul_left_comm k b (weight ks i) in
    omega arith

pub product-weight : (ks : List ℕ) (i : ℕ) → i < length ks → product ks ≡ weight ks i * (get_or ks i 0 * above ks i)
unfolding product weight above
product-weight [] i h = absurd (not-suc-le-zero h)
product-weight (k ∷ ks) zero h = omega arith
product-weight (k ∷ ks) (suc i) h =
    let e : k * product ks ≡ k * (weight ks i * (get_or ks i 0 * product (drop (suc i) ks))) = ap (λ (m : ℕ). k * m) (product-weight ks i (le_of_suc-le-suc h)) in
    omega arith

module _ (ks : List ℕ) (i : ℕ) (h : i < length ks) where
  pub digit-around : (b j a : ℕ) → b < weight ks i → j < get_or ks i 0 → digit ks i (around ks i b j a) ≡ j
  unfolding around
  digit-around b j a hb hj =
      digit-weight ks i (b + weight ks i * (j + get_or ks i 0 * a)) h
      ∙ ap (λ (m : ℕ). m % get_or ks i 0) (high b (weight ks i) (j + get_or ks i 0 * a) hb)
      ∙ low j (get_or ks i 0) a hj

  pub put-around : (b j a c : ℕ) → b < weight ks i → j < get_or ks i 0 → put_digit ks i c (around ks i b j a) ≡ around ks i b c a
  unfolding around
  put-around b j a c hb hj =
      let n : ℕ = b + weight ks i * (j + get_or ks i 0 * a) in
      let e : put_digit ks i c n + digit ks i n * weight ks i ≡ n + c * weight ks i = put-weight ks i c n h in
      let f : digit ks i n * weight ks i ≡ j * weight ks i = ap (λ (m : ℕ). m * weight ks i) (digit-around b j a hb hj) in
      omega arith

  pub around-lt : (b j a : ℕ) → b < weight ks i → j < get_or ks i 0 → a < above ks i → around ks i b j a < product ks
  unfolding around
  around-lt b j a hb hj ha =
      rw (product-weight ks i h)
      (below-product b (weight ks i) (j + get_or ks i 0 * a) (get_or ks i 0 * above ks i) hb (below-product j (get_or ks i 0) a (above ks i) hj ha))

  -- every number is such a one
  pub is-around : (n : ℕ) → n ≡ around ks i (n % weight ks i) (digit ks i n) (n / weight ks i / get_or ks i 0)
  unfolding around
  is-around n =
      sym
      (ap (λ (m : ℕ). n % weight ks i + weight ks i * m)
      (ap (λ (m : ℕ). m + get_or ks i 0 * (n / weight ks i / get_or ks i 0)) (digit-weight ks i n h) ∙ mod-add-div (n / weight ks i) (get_or ks i 0))
      ∙ mod-add-div n (weight ks i))

  pub above-lt : (n : ℕ) → Positive ks → n < product ks → n / weight ks i / get_or ks i 0 < above ks i
  above-lt n p hn =
      let e = product-weight ks i h in
      let l : n < get_or ks i 0 * above ks i * weight ks i = omega arith in
      let m : n / weight ks i < get_or ks i 0 * above ks i = (div-lt_iff_lt-mul (weight-pos ks i p)).1 l in
      (div-lt_iff_lt-mul (radix-pos ks i p h)).1 (rw mul_comm at m)
