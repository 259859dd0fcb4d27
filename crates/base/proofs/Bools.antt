-- Tests as equations: two tests that pass together are the same; a test of two parts by its first failure; tests of numbers below a bound, one by
-- one. Assumes nothing.
use Rattle.std.specs.Prelude.{◌≡◌, refl, ◌⊎◌, Bool, true, false, not, ◌&&◌, ℕ, ◌+◌, ◌<◌, T}
use Rattle.std.proofs.Common.{ap, sym, ◌∙◌, inl, inr, add-one}
use Rattle.std.proofs.lemmas.Bool.{false≢true}
use Rattle.base.specs.Tests.{all_below, some_below}
use Rattle.base.proofs.Tests.{all-at, some-by, T_true, true-T, T_false, passed?}

pub same_test : (a b : Bool) → (T a → T b) → (T b → T a) → a ≡ b
same_test true true f g = refl
same_test true false f g = absurd (f tt)
same_test false true f g = absurd (g tt)
same_test false false f g = refl

-- the first part fails, or passes and leaves the others
pub and-stop : (a b : Bool) → a ≡ false → a && b ≡ false
and-stop a b e = ap (λ t. t && b) e

pub and-on : (a b : Bool) → a ≡ true → a && b ≡ b
and-on a b e = ap (λ t. t && b) e

-- one fails below n; one more passes
pub fails-at : (n : ℕ) (f : ℕ → Bool) (k : ℕ) → k < n → f k ≡ false → all_below n f ≡ false
fails-at n f k l e = go (passed? (all_below n f))
  where
    never : T (all_below n f) → ⊥
    never t = false≢true (sym e ∙ T_true (f k) (all-at n f t k l))

    go : T (all_below n f) ⊎ T (not (all_below n f)) → all_below n f ≡ false
    go (inl t) = absurd (never t)
    go (inr t) = T_false (all_below n f) t

pub all_more : (f : ℕ → Bool) (k : ℕ) → all_below k f ≡ true → f k ≡ true → all_below (k + 1) f ≡ true
unfolding all_below
all_more f k a e = ap (λ (n : ℕ). all_below n f) (add-one k) ∙ and-on _ _ a ∙ e

-- one passes below n
pub passes_at : (n : ℕ) (f : ℕ → Bool) (k : ℕ) → k < n → f k ≡ true → some_below n f ≡ true
passes_at n f k l e = T_true (some_below n f) (some-by n f k l (true-T (f k) e))
