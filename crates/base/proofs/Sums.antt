-- Sums of a number for each number below n, and of a number for each element of a list. Order: the two definitions; sums over a list; equal sums;
-- a change at one place; a term, small terms, and fewer terms, against the sum; a term that is not 0. Assumes nothing.
use Rattle.std.specs.Prelude.{◌≡◌, refl, List, [], ◌∷◌, ◌++◌, ◌⊎◌, ◌≢◌, ℕ, zero, suc, ◌+◌, ◌*◌, ◌<◌, ◌≤◌, T, eqb, length, get_or, drop}
use Rattle.std.proofs.Common.{ap, sym, ◌∙◌, inl, inr, add-one, add-zero, eq-or-lt_of_le, le_of_suc-le-suc, not-suc-le-zero, lt-suc_self, ne_of_gt, lt_irrefl, suc-mul, mul-suc, arith, eqb→eq, drop_of_length-le, drop-cons}
use Rattle.std.proofs.Math.Decide.{ℕ_discrete}
use Rattle.std.proofs.Math.Nat.{le_step}
use Rattle.base.specs.Tests.{all_of}
use Rattle.base.proofs.Tests.{all_of-head, all_of-tail}
use Rattle.base.specs.Sums.{sum_below, sum_of}

-- one term more
pub sum-next : (n : ℕ) (f : ℕ → ℕ) → sum_below (n + 1) f ≡ sum_below n f + f n
unfolding sum_below
sum-next n f = ap (λ (k : ℕ). sum_below k f) (add-one n)

pub sum_of-append : {A : Type 0} (f : A → ℕ) (xs ys : List A) → sum_of f (xs ++ ys) ≡ sum_of f xs + sum_of f ys
unfolding sum_of
sum_of-append f [] ys = omega arith
sum_of-append f (x ∷ xs) ys = let e = sum_of-append f xs ys in omega arith

pub sum_of-one : {A : Type 0} (f : A → ℕ) (x : A) → sum_of f (x ∷ []) ≡ f x
unfolding sum_of
sum_of-one f x = add-zero (f x)

-- the sum from a place on: the element there and the rest, or nothing where none is left
pub sum-from : (g : ℕ → ℕ) (l : List ℕ) (i : ℕ) → i < length l → sum_of g (drop i l) ≡ g (get_or l i 0) + sum_of g (drop (i + 1) l)
unfolding sum_of
sum-from g l i h = ap (sum_of g) (drop-cons l i 0 h) ∙ ap (λ (j : ℕ). g (get_or l i 0) + sum_of g (drop j l)) (sym (add-one i))

pub sum-end : (g : ℕ → ℕ) (l : List ℕ) (i : ℕ) → length l ≤ i → sum_of g (drop i l) ≡ 0
unfolding sum_of
sum-end g l i h = ap (sum_of g) (drop_of_length-le l h)

-- what is left without the first elements adds up to no more
pub sum_of-drop : {A : Type 0} (f : A → ℕ) (k : ℕ) (xs : List A) → sum_of f (drop k xs) ≤ sum_of f xs
unfolding sum_of
sum_of-drop f zero xs = omega arith
sum_of-drop f (suc k) [] = omega arith
sum_of-drop f (suc k) (x ∷ xs) = let l = sum_of-drop f k xs in omega arith

-- where each element counts one, the sum is their number; where each counts at least one, it is no less; where each counts at most m, at most m times
-- their number, and where each counts m, just that
pub sum_of-ones : {A : Type 0} (f : A → ℕ) (xs : List A) → ((x : A) → f x ≡ 1) → sum_of f xs ≡ length xs
unfolding sum_of
sum_of-ones f [] h = refl
sum_of-ones f (x ∷ xs) h = let a = h x in let e = sum_of-ones f xs h in omega arith

pub sum_of-least : {A : Type 0} (f : A → ℕ) (xs : List A) → ((x : A) → 0 < f x) → length xs ≤ sum_of f xs
unfolding sum_of
sum_of-least f [] h = omega arith
sum_of-least f (x ∷ xs) h = let a = h x in let l = sum_of-least f xs h in omega arith

pub sum_of-most : {A : Type 0} (f : A → ℕ) (m : ℕ) (xs : List A) → ((x : A) → f x ≤ m) → sum_of f xs ≤ m * length xs
unfolding sum_of
sum_of-most f m [] h = omega arith
sum_of-most f m (x ∷ xs) h = let a = h x in let l = sum_of-most f m xs h in let e = mul-suc m (length xs) in omega arith

pub sum_of-equal : {A : Type 0} (f : A → ℕ) (m : ℕ) (xs : List A) → T (all_of (λ x. eqb (f x) m) xs) → sum_of f xs ≡ m * length xs
unfolding sum_of
sum_of-equal f m [] t = omega arith
sum_of-equal f m (x ∷ xs) t =
    let a = eqb→eq (f x) m (all_of-head (λ y. eqb (f y) m) x xs t) in
    let l = sum_of-equal f m xs (all_of-tail (λ y. eqb (f y) m) x xs t) in
    let e = mul-suc m (length xs) in
    omega arith

pub sum_same : (n : ℕ) (f g : ℕ → ℕ) → ((i : ℕ) → i < n → f i ≡ g i) → sum_below n f ≡ sum_below n g
unfolding sum_below
sum_same zero f g h = refl
sum_same (suc n) f g h =
    let e = sum_same n f g (λ i h'. h i (le_step h')) in
    let e' = h n (lt-suc_self n) in
    omega arith

-- f and g differ at i at most: their sums differ by what they differ there
pub sum-change : (n : ℕ) (f g : ℕ → ℕ) (i : ℕ) → i < n → ((j : ℕ) → j < n → j ≢ i → f j ≡ g j) → sum_below n f + g i ≡ sum_below n g + f i
unfolding sum_below
sum-change zero f g i h s = absurd (not-suc-le-zero h)
sum-change (suc n) f g i h s = go (eq-or-lt_of_le (le_of_suc-le-suc h)) (λ h'. sum-change n f g i h' (λ j k ne. s j (le_step k) ne))
  where
    go : (i ≡ n) ⊎ (i < n) → (i < n → sum_below n f + g i ≡ sum_below n g + f i) → sum_below n f + f n + g i ≡ sum_below n g + g n + f i
    go (inl e) r =
        let low : sum_below n f ≡ sum_below n g = sum_same n f g (λ j k. s j (le_step k) (λ e'. lt_irrefl n (rw (e' ∙ e) at k))) in
        let fe : f i ≡ f n = ap f e in
        let ge : g i ≡ g n = ap g e in
        omega arith
    go (inr h') r =
        let e = r h' in
        let top : f n ≡ g n = s n (lt-suc_self n) (ne_of_gt h') in
        omega arith

-- each term is at most the sum
pub term-le : (n : ℕ) (f : ℕ → ℕ) (i : ℕ) → i < n → f i ≤ sum_below n f
unfolding sum_below
term-le zero f i h = absurd (not-suc-le-zero h)
term-le (suc n) f i h = go (eq-or-lt_of_le (le_of_suc-le-suc h)) (λ h'. term-le n f i h')
  where
    go : (i ≡ n) ⊎ (i < n) → (i < n → f i ≤ sum_below n f) → f i ≤ sum_below n f + f n
    go (inl e) r = let fe : f i ≡ f n = ap f e in omega arith
    go (inr h') r = let l = r h' in omega arith

-- a sum of nothing
pub sum-zero : (n : ℕ) (f : ℕ → ℕ) → ((i : ℕ) → i < n → f i ≡ 0) → sum_below n f ≡ 0
unfolding sum_below
sum-zero zero f h = refl
sum-zero (suc n) f h =
    let low : sum_below n f ≡ 0 = sum-zero n f (λ i k. h i (le_step k)) in
    let top : f n ≡ 0 = h n (lt-suc_self n) in
    omega arith

-- a sum of small terms
pub sum-most : (n m : ℕ) (f : ℕ → ℕ) → ((i : ℕ) → i < n → f i ≤ m) → sum_below n f ≤ n * m
unfolding sum_below
sum-most zero m f h = omega arith
sum-most (suc n) m f h =
    let a = sum-most n m f (λ i l. h i (le_step l)) in
    let b = h n (lt-suc_self n) in
    let c = suc-mul n m in
    omega arith

-- a sum over fewer numbers is at most the sum over more
pub sum-fewer : (m n : ℕ) (f : ℕ → ℕ) → m ≤ n → sum_below m f ≤ sum_below n f
unfolding sum_below
sum-fewer m zero f h = let e : m ≡ 0 = omega arith in rw e (omega arith)
sum-fewer m (suc n) f h = go (eq-or-lt_of_le h) (λ h'. sum-fewer m n f h')
  where
    go : (m ≡ suc n) ⊎ (m < suc n) → (m ≤ n → sum_below m f ≤ sum_below n f) → sum_below m f ≤ sum_below n f + f n
    go (inl e) r = rw e (omega arith)
    go (inr h') r = let l = r (le_of_suc-le-suc h') in omega arith

-- a sum that is not 0 has a term that is not 0
pub some-term : (n : ℕ) (f : ℕ → ℕ) → sum_below n f ≢ 0 → (i : ℕ) × (i < n) × (f i ≢ 0)
unfolding sum_below
some-term zero f ne = absurd (ne refl)
some-term (suc n) f ne = go (ℕ_discrete (f n) 0) (λ low. some-term n f low)
  where
    go : Dec (f n ≡ 0) → (sum_below n f ≢ 0 → (i : ℕ) × (i < n) × (f i ≢ 0)) → (i : ℕ) × (i < suc n) × (f i ≢ 0)
    go (yes e) r = let (i, h, k) = r (λ z. ne (let s : sum_below n f ≡ 0 = z in omega arith)) in (i, le_step h, k)
    go (no k) r = (n, lt-suc_self n, k)
