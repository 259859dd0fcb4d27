-- Tests over ranges and lists, as Booleans that compute, and the laws that turn a test into a fact and back; and a fact for each number of a range, and for
-- each element of a list. Order: clauses joined; below n; facts below n; for some below n; of every element; facts of every element; of a list's members;
-- what is compared by its parts. Assumes nothing.
use Rattle.std.specs.Prelude.{◌≡◌, List, [], ◌∷◌, ℕ, zero, suc, T, eqb}
use Rattle.std.proofs.Common.{ap}
use mathlib.Core.HLevel.{Discrete}
use mathlib.Core.Bool.{Bool, true, false, ◌&&◌, ◌||◌}

-- a test of several clauses, joined as definitions join them, each with all that stand behind it: a && (b && c)
unfoldable pub all_pass : List Bool → Bool
all_pass [] = true
all_pass (a ∷ []) = a
all_pass (a ∷ b ∷ cs) = a && all_pass (b ∷ cs)

-- that each of them passes: (of a, (of b, of c))
unfoldable pub EachPasses : List Bool → Type 0
EachPasses [] = Unit
EachPasses (a ∷ []) = T a
EachPasses (a ∷ b ∷ cs) = T a × EachPasses (b ∷ cs)

-- the test passes at every number below n
unfoldable pub all_below : ℕ → (ℕ → Bool) → Bool
all_below zero f = true
all_below (suc n) f = all_below n f && f n

-- what holds of every number below n, as a tuple of what holds of each: ((tt, of 0), of 1) and so on
unfoldable pub EachBelow : (ℕ → Type 0) → ℕ → Type 0
EachBelow P zero = Unit
EachBelow P (suc n) = EachBelow P n × P n

-- the test passes at some number below n
unfoldable pub some_below : ℕ → (ℕ → Bool) → Bool
some_below zero f = false
some_below (suc n) f = some_below n f || f n

-- the test passes at every element of the list
unfoldable pub all_of : {A : Type 0} → (A → Bool) → List A → Bool
all_of f [] = true
all_of f (x ∷ xs) = f x && all_of f xs

-- what holds of every element of the list, as a tuple of what holds of each
unfoldable pub EachOf : {A : Type 0} → (A → Type 0) → List A → Type 0
EachOf P [] = Unit
EachOf P (x ∷ xs) = P x × EachOf P xs

-- the number is one of the list's
unfoldable pub elem : ℕ → List ℕ → Bool
elem a [] = false
elem a (x ∷ xs) = eqb a x || elem a xs

-- pairs are compared by their parts, and whatever can be told apart by something that can be compared is compared by that
unfoldable pub pair-discrete : {A B : Type 0} → Discrete A → Discrete B → Discrete (A × B)
pair-discrete {A} {B} a? b? x y = go (a? x.0 y.0) (b? x.1 y.1)
  where
    go : Dec (x.0 ≡ y.0) → Dec (x.1 ≡ y.1) → Dec (x ≡ y)
    go (yes e) (yes f) = yes (λ i. (e i, f i))
    go (yes e) (no n) = no (λ (p : x ≡ y). n (ap (λ (z : A × B). z.1) p))
    go (no n) d = no (λ (p : x ≡ y). n (ap (λ (z : A × B). z.0) p))

unfoldable pub discrete-by : {A B : Type 0} → Discrete B → (f : A → B) → ((x y : A) → f x ≡ f y → x ≡ y) → Discrete A
discrete-by same? f apart x y = go (same? (f x) (f y))
  where
    go : Dec (f x ≡ f y) → Dec (x ≡ y)
    go (yes e) = yes (apart x y e)
    go (no n) = no (λ p. n (ap f p))
