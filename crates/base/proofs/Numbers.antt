-- A number by its digits (Digits.antt), each times its weight. Order: the weights; the number of some digits; one of them replaced; its digits and
-- its bound; the lowest digits of a number, one by one. `ks` lists the radices, `cs` the digits, lowest first. Assumes nothing.
use Rattle.std.specs.Prelude.{◌≡◌, refl, List, [], ◌∷◌, ℕ, zero, suc, ◌+◌, ◌*◌, ◌/◌, ◌%◌, ◌<◌, ◌≤◌, length, get_or, set}
use Rattle.std.proofs.Common.{ap, sym, ◌∙◌, add-one, mod-eq_of_lt, mul-pos, mul-le-mul_left, le_of_suc-le-suc, not-suc-le-zero, mul_assoc, mul_comm, mul-one, mul-add, mul_left_comm, arith}
use Rattle.std.proofs.Math.Nat.{mod-add-div, mod-one, div-div-eq-div-mul, suc-le-suc_iff}
use Rattle.base.specs.Digits.{product, digit, weight, Positive}
use Rattle.base.proofs.Digits.{product-pos, low, high, below-product, digit-weight}
use Rattle.base.specs.Numbers.{number}

-- The weights ---------------------------------------------------------------------------------------------------------------------------

pub weight-first : (ks : List ℕ) → weight ks 0 ≡ 1
unfolding weight
weight-first [] = refl
weight-first (k ∷ ks) = refl

pub weight-next : (ks : List ℕ) (i : ℕ) → i < length ks → weight ks (suc i) ≡ weight ks i * get_or ks i 0
unfolding weight
weight-next [] i h = absurd (not-suc-le-zero h)
weight-next (k ∷ ks) zero h = ap (λ (w : ℕ). k * w) (weight-first ks) ∙ mul_comm k 1
weight-next (k ∷ ks) (suc i) h = ap (λ (w : ℕ). k * w) (weight-next ks i (le_of_suc-le-suc h)) ∙ sym (mul_assoc k (weight ks i) (get_or ks i 0))

pub weight-all : (ks : List ℕ) → weight ks (length ks) ≡ product ks
unfolding weight product
weight-all [] = refl
weight-all (k ∷ ks) = ap (λ (w : ℕ). k * w) (weight-all ks)

pub weight-most : (ks : List ℕ) (i : ℕ) → Positive ks → weight ks i ≤ product ks
unfolding weight product Positive
weight-most [] i p = omega arith
weight-most (k ∷ ks) zero p = mul-pos p.0 (product-pos ks p.1)
weight-most (k ∷ ks) (suc i) p = mul-le-mul_left k (weight-most ks i p.1)

-- all digits are 0
pub number-zero : (ks : List ℕ) (cs : List ℕ) → ((i : ℕ) → get_or cs i 0 ≡ 0) → number ks cs ≡ 0
unfolding number
number-zero [] cs z = refl
number-zero (k ∷ ks) [] z = refl
number-zero (k ∷ ks) (c ∷ cs) z =
    let e : number ks cs ≡ 0 = number-zero ks cs (λ i. z (suc i)) in
    let f : c ≡ 0 = z 0 in
    rw (e, f) (omega arith)

-- one digit replaced
pub number-set : (ks cs : List ℕ) (i c : ℕ) → i < length ks → i < length cs
    → number ks (set cs i c) + get_or cs i 0 * weight ks i ≡ number ks cs + c * weight ks i
unfolding number weight
number-set [] cs i c h l = absurd (not-suc-le-zero h)
number-set (k ∷ ks) [] i c h l = absurd (not-suc-le-zero l)
number-set (k ∷ ks) (b ∷ cs) zero c h l = let e = mul-one b in let f = mul-one c in omega arith
number-set (k ∷ ks) (b ∷ cs) (suc i) c h l =
    let e : k * (number ks (set cs i c) + get_or cs i 0 * weight ks i) ≡ k * (number ks cs + c * weight ks i) =
    ap (λ (m : ℕ). k * m) (number-set ks cs i c (le_of_suc-le-suc h) (le_of_suc-le-suc l)) in
    let f = mul-add k (number ks (set cs i c)) (get_or cs i 0 * weight ks i) in
    let g = mul-add k (number ks cs) (c * weight ks i) in
    let m = mul_left_comm k (get_or cs i 0) (weight ks i) in
    let n = mul_left_comm k c (weight ks i) in
    omega arith

-- Its digits and its bound ----------------------------------------------------------------------------------------------------------------

pub digit-number : (ks cs : List ℕ) (i : ℕ) → length cs ≡ length ks → ((j : ℕ) → j < length ks → get_or cs j 0 < get_or ks j 0) → i < length ks
    → digit ks i (number ks cs) ≡ get_or cs i 0
unfolding number digit
digit-number [] cs i e b h = absurd (not-suc-le-zero h)
digit-number (k ∷ ks) [] i e b h = absurd (no_zero (length ks) e)
  where
    no_zero : (n : ℕ) → 0 ≡ suc n → ⊥
    no_zero n e = omega arith
digit-number (k ∷ ks) (c ∷ cs) zero e b h = low c k (number ks cs) (b 0 (omega arith))
digit-number (k ∷ ks) (c ∷ cs) (suc i) e b h =
    ap (digit ks i) (high c k (number ks cs) (b 0 (omega arith)))
    ∙ digit-number ks cs i (omega arith) (λ j l. b (suc j) (suc-le-suc_iff.1 l)) (le_of_suc-le-suc h)

pub number_lt : (ks cs : List ℕ) → length cs ≡ length ks → ((j : ℕ) → j < length ks → get_or cs j 0 < get_or ks j 0) → number ks cs < product ks
unfolding number product
number_lt [] cs e b = omega arith
number_lt (k ∷ ks) [] e b = absurd (no_zero (length ks) e)
  where
    no_zero : (n : ℕ) → 0 ≡ suc n → ⊥
    no_zero n e = omega arith
number_lt (k ∷ ks) (c ∷ cs) e b =
    below-product c k (number ks cs) (product ks) (b 0 (omega arith)) (number_lt ks cs (omega arith) (λ j l. b (suc j) (suc-le-suc_iff.1 l)))

-- The lowest digits, one by one ------------------------------------------------------------------------------------

-- what is left of n by w × k: what is left by w, and the next digit
mod-more : (n w k : ℕ) → n % (w * k) ≡ n % w + w * (n / w % k)
mod-more n w k =
    let a = mod-add-div n w in
    let b : w * (n / w % k) + w * (k * (n / w / k)) ≡ w * (n / w) = sym (mul-add w (n / w % k) (k * (n / w / k))) ∙ ap (λ (m : ℕ). w * m) (mod-add-div (n / w) k) in
    let c = mod-add-div n (w * k) in
    let d : w * k * (n / (w * k)) ≡ w * (k * (n / w / k)) = ap (λ (m : ℕ). w * k * m) (sym (div-div-eq-div-mul n w k)) ∙ mul_assoc w k (n / w / k) in
    omega arith

-- no digit, one more, all
pub lowest-none : (ks : List ℕ) (n : ℕ) → n % weight ks 0 ≡ 0
lowest-none ks n = ap (λ (w : ℕ). n % w) (weight-first ks) ∙ mod-one n

pub lowest-more : (ks : List ℕ) (n i : ℕ) → i < length ks → n % weight ks i + weight ks i * digit ks i n ≡ n % weight ks (i + 1)
lowest-more ks n i h =
    ap (λ (b : ℕ). n % weight ks i + weight ks i * b) (digit-weight ks i n h)
    ∙ sym (mod-more n (weight ks i) (get_or ks i 0))
    ∙ ap (λ (w : ℕ). n % w) (sym (ap (weight ks) (add-one i) ∙ weight-next ks i h))

pub lowest-all : (ks : List ℕ) (n : ℕ) → n < product ks → n % weight ks (length ks) ≡ n
lowest-all ks n h = ap (λ (w : ℕ). n % w) (weight-all ks) ∙ mod-eq_of_lt h
