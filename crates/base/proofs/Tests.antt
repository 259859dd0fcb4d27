-- Tests over ranges and lists, as Booleans that compute, and the laws that turn a test into a fact and back; and a fact for each number of a range, and for
-- each element of a list. Order: clauses joined; below n; facts below n; for some below n; of every element; facts of every element; of a list's members;
-- what is compared by its parts. Assumes nothing.
use Rattle.std.specs.Prelude.{◌≡◌, refl, List, [], ◌∷◌, ◌++◌, ◌⊎◌, ℕ, zero, suc, ◌+◌, ◌-◌, ◌<◌, ◌≤◌, T, eqb}
use Rattle.std.proofs.Common.{subst, inl, inr, eq-or-lt_of_le, le_of_suc-le-suc, not-suc-le-zero, lt-suc_self, add-sub_of_le, arith}
use mathlib.Core.Bool.{Bool, true, false, not, ◌&&◌, ◌||◌}
use Rattle.std.proofs.Math.Nat.{le_step}
use Rattle.base.specs.Tests.{all_pass, EachPasses, all_below, EachBelow, some_below, all_of, EachOf, elem}

-- both tests pass
pub and_l : (a b : Bool) → T (a && b) → T a
and_l true b t = tt
and_l false b t = t

pub and_r : (a b : Bool) → T (a && b) → T b
and_r true b t = t
and_r false b t = absurd t

pub and_i : (a b : Bool) → T a → T b → T (a && b)
and_i true b s t = t
and_i false b s t = s

pub clauses-of : (cs : List Bool) → T (all_pass cs) → EachPasses cs
unfolding all_pass EachPasses
clauses-of [] t = tt
clauses-of (a ∷ []) t = t
clauses-of (a ∷ b ∷ cs) t = (and_l a (all_pass (b ∷ cs)) t, clauses-of (b ∷ cs) (and_r a (all_pass (b ∷ cs)) t))

pub clauses-by : (cs : List Bool) → EachPasses cs → T (all_pass cs)
unfolding all_pass EachPasses
clauses-by [] e = tt
clauses-by (a ∷ []) e = e
clauses-by (a ∷ b ∷ cs) (s, e) = and_i a (all_pass (b ∷ cs)) s (clauses-by (b ∷ cs) e)

-- one of two tests passes
pub or_l : (a b : Bool) → T a → T (a || b)
or_l true b t = tt
or_l false b t = absurd t

pub or_r : (a b : Bool) → T b → T (a || b)
or_r true b t = tt
or_r false b t = t

pub or-e : (a b : Bool) → T (a || b) → T a ⊎ T b
or-e true b t = inl tt
or-e false b t = inr t

-- a test is passed or failed
pub passed? : (b : Bool) → T b ⊎ T (not b)
passed? true = inl tt
passed? false = inr tt

pub T_true : (b : Bool) → T b → b ≡ true
T_true true t = refl
T_true false t = absurd t

pub true-T : (b : Bool) → b ≡ true → T b
true-T true e = tt
true-T false e = absurd (mathlib.Core.Bool.false≢true e)

pub T_false : (b : Bool) → T (not b) → b ≡ false
T_false true t = absurd t
T_false false t = refl

pub all-at : (n : ℕ) (f : ℕ → Bool) → T (all_below n f) → (i : ℕ) → i < n → T (f i)
unfolding all_below
all-at zero f t i h = absurd (not-suc-le-zero h)
all-at (suc n) f t i h = go (eq-or-lt_of_le (le_of_suc-le-suc h)) (λ h'. all-at n f (and_l (all_below n f) (f n) t) i h')
  where
    go : (i ≡ n) ⊎ (i < n) → (i < n → T (f i)) → T (f i)
    go (inl e) r = rw e (and_r (all_below n f) (f n) t)
    go (inr h') r = r h'

pub all-by : (n : ℕ) (f : ℕ → Bool) → ((i : ℕ) → i < n → T (f i)) → T (all_below n f)
unfolding all_below
all-by zero f h = tt
all-by (suc n) f h = and_i (all_below n f) (f n) (all-by n f (λ i h'. h i (le_step h'))) (h n (lt-suc_self n))

pub each_at : (P : ℕ → Type 0) (n : ℕ) → EachBelow P n → (i : ℕ) → i < n → P i
unfolding EachBelow
each_at P zero k i h = absurd (not-suc-le-zero h)
each_at P (suc n) (ks, k) i h = go (eq-or-lt_of_le (le_of_suc-le-suc h)) (λ h'. each_at P n ks i h')
  where
    go : (i ≡ n) ⊎ (i < n) → (i < n → P i) → P i
    go (inl e) r = rw e k
    go (inr h') r = r h'

-- the same of n numbers from m on
pub each_from : (P : ℕ → Type 0) (m n : ℕ) → EachBelow (λ (k : ℕ). P (m + k)) n → (i : ℕ) → m ≤ i → i < m + n → P i
each_from P m n ks i l h = subst P (add-sub_of_le l) (each_at (λ (k : ℕ). P (m + k)) n ks (i - m) (omega arith))

pub some_at : (n : ℕ) (f : ℕ → Bool) → T (some_below n f) → (i : ℕ) × (i < n) × T (f i)
unfolding some_below
some_at zero f t = absurd t
some_at (suc n) f t = go (or-e (some_below n f) (f n) t) (λ s. some_at n f s)
  where
    go : T (some_below n f) ⊎ T (f n) → (T (some_below n f) → (i : ℕ) × (i < n) × T (f i)) → (i : ℕ) × (i < suc n) × T (f i)
    go (inl s) r = let (i, h, u) = r s in (i, le_step h, u)
    go (inr u) r = (n, lt-suc_self n, u)

pub some-by : (n : ℕ) (f : ℕ → Bool) (i : ℕ) → i < n → T (f i) → T (some_below n f)
unfolding some_below
some-by zero f i h u = absurd (not-suc-le-zero h)
some-by (suc n) f i h u = go (eq-or-lt_of_le (le_of_suc-le-suc h)) (λ h'. some-by n f i h' u)
  where
    go : (i ≡ n) ⊎ (i < n) → (i < n → T (some_below n f)) → T (some_below n f || f n)
    go (inl e) r = or_r (some_below n f) (f n) (rw e at u)
    go (inr h') r = or_l (some_below n f) (f n) (r h')

pub all_of-head : {A : Type 0} (f : A → Bool) (x : A) (xs : List A) → T (all_of f (x ∷ xs)) → T (f x)
unfolding all_of
all_of-head f x xs t = and_l (f x) (all_of f xs) t

pub all_of-tail : {A : Type 0} (f : A → Bool) (x : A) (xs : List A) → T (all_of f (x ∷ xs)) → T (all_of f xs)
unfolding all_of
all_of-tail f x xs t = and_r (f x) (all_of f xs) t

pub all_of-append : {A : Type 0} (f : A → Bool) (xs ys : List A) → T (all_of f xs) → T (all_of f ys) → T (all_of f (xs ++ ys))
unfolding all_of
all_of-append f [] ys s t = t
all_of-append f (x ∷ xs) ys s t = and_i (f x) (all_of f (xs ++ ys)) (and_l (f x) (all_of f xs) s) (all_of-append f xs ys (and_r (f x) (all_of f xs) s) t)

pub each_within : {A : Type 0} (P : A → Type 0) (x : A) (xs ys : List A) → P x → EachOf P (xs ++ ys) → EachOf P (xs ++ (x ∷ ys))
unfolding EachOf
each_within P x [] ys k ks = (k, ks)
each_within P x (y ∷ xs) ys k (h, ks) = (h, each_within P x xs ys k ks)

pub elem-append-l : (a : ℕ) (xs ys : List ℕ) → T (elem a xs) → T (elem a (xs ++ ys))
unfolding elem
elem-append-l a [] ys t = absurd t
elem-append-l a (x ∷ xs) ys t = go (or-e (eqb a x) (elem a xs) t) (λ s. elem-append-l a xs ys s)
  where
    go : T (eqb a x) ⊎ T (elem a xs) → (T (elem a xs) → T (elem a (xs ++ ys))) → T (eqb a x || elem a (xs ++ ys))
    go (inl s) r = or_l (eqb a x) (elem a (xs ++ ys)) s
    go (inr s) r = or_r (eqb a x) (elem a (xs ++ ys)) (r s)

pub elem-append-r : (a : ℕ) (xs ys : List ℕ) → T (elem a ys) → T (elem a (xs ++ ys))
unfolding elem
elem-append-r a [] ys t = t
elem-append-r a (x ∷ xs) ys t = or_r (eqb a x) (elem a (xs ++ ys)) (elem-append-r a xs ys t)
