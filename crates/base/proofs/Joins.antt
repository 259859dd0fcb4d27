-- A list for each number below n, or for each element of a list, joined in order. Order: the first, its sum and its length; the sum of a mapped list; the
-- second, `flat_map` of mathlib, of two lists joined, and its length. Assumes nothing.
use Rattle.std.specs.Prelude.{◌≡◌, refl, ℕ, zero, suc, length}
use Rattle.std.proofs.Common.{ap, sym, ◌∙◌, arith, length-append}
use mathlib.Core.List.{List, [], ◌∷◌, ◌++◌, map, flat_map, append_assoc}
use Rattle.base.specs.Sums.{sum_below, sum_of}
use Rattle.base.proofs.Sums.{sum_of-append}
use Rattle.base.specs.Joins.{join_below}

pub sum_of-join : {A : Type 0} (g : A → ℕ) (n : ℕ) (f : ℕ → List A) → sum_of g (join_below n f) ≡ sum_below n (λ i. sum_of g (f i))
unfolding join_below sum_below sum_of
sum_of-join g zero f = refl
sum_of-join g (suc n) f = let a = sum_of-append g (join_below n f) (f n) in let b = sum_of-join g n f in omega arith

pub length-join : {A : Type 0} (n : ℕ) (f : ℕ → List A) → length (join_below n f) ≡ sum_below n (λ i. length (f i))
unfolding join_below sum_below
length-join zero f = refl
length-join (suc n) f = let a = length-append (join_below n f) (f n) in let b = length-join n f in omega arith

pub sum_of-map : {A B : Type 0} (g : B → ℕ) (f : A → B) (xs : List A) → sum_of g (map f xs) ≡ sum_of (λ x. g (f x)) xs
unfolding sum_of
sum_of-map g f [] = refl
sum_of-map g f (x ∷ xs) = let e = sum_of-map g f xs in omega arith

pub flat_append : {A B : Type 0} (f : A → List B) (xs ys : List A) → flat_map f (xs ++ ys) ≡ flat_map f xs ++ flat_map f ys
unfolding flat_map
flat_append f [] ys = refl
flat_append f (x ∷ xs) ys = ap (λ (l : List _). f x ++ l) (flat_append f xs ys) ∙ sym (append_assoc (f x) (flat_map f xs) (flat_map f ys))

pub length-flat : {A B : Type 0} (f : A → List B) (xs : List A) → length (flat_map f xs) ≡ sum_of (λ x. length (f x)) xs
unfolding flat_map sum_of
length-flat f [] = refl
length-flat f (x ∷ xs) = let a = length-append (f x) (flat_map f xs) in let b = length-flat f xs in omega arith
