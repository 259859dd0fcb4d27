-- Lists in which no element stands twice, whatever the elements are, if they can be compared. Order: the test; that it passes exactly if every element
-- stands in the list once at most; of a list of two parts, and of a rearrangement; three rows. Assumes nothing.
use Rattle.std.specs.Prelude.{◌≡◌, ◌↔◌, true, false, ◌≤◌, T, eqb}
use Rattle.std.proofs.Math.Path.{refl}
use mathlib.Core.HLevel.{Discrete}
use mathlib.Core.List.{List, [], ◌∷◌, ◌++◌}
use Rattle.std.proofs.Math.Decide.{ℕ_discrete}
use native.Mathlib.Omega.{arith}
use Rattle.std.proofs.Math.Dec.{eqb→eq, eqb_refl}
use Rattle.base.proofs.Tests.{and_l, and_r, and_i}
use Rattle.base.specs.Rearrangement.{one_if, count, Rearranged}
use Rattle.base.proofs.Rearrangement.{count_same, count-other, count-append}
use Rattle.base.specs.Different.{all_different}

module _ {A : Type 0} (same? : Discrete A) where
  once : (xs : List A) → T (all_different same? xs) → (a : A) → count same? a xs ≤ 1
  unfolding all_different count
  once [] t a = omega arith
  once (x ∷ xs) t a = go (same? a x) (once xs (and_r (eqb (count same? x xs) 0) (all_different same? xs) t) a)
    where
      none : count same? x xs ≡ 0
      none = eqb→eq (count same? x xs) 0 (and_l (eqb (count same? x xs) 0) (all_different same? xs) t)

      go : Dec (a ≡ x) → count same? a xs ≤ 1 → count same? a (x ∷ xs) ≤ 1
      go (yes e) l = let z : count same? a xs ≡ 0 = rw e none in let k = count_same same? a x xs e in omega arith
      go (no ne) l = let k = count-other same? a x xs ne in omega arith

  by-once : (xs : List A) → ((a : A) → count same? a xs ≤ 1) → T (all_different same? xs)
  unfolding all_different count
  by-once [] h = tt
  by-once (x ∷ xs) h =
      let k = count_same same? x x xs refl in
      let l = h x in
      let z : count same? x xs ≡ 0 = omega arith in
      and_i (eqb (count same? x xs) 0) (all_different same? xs) (rw z (eqb_refl 0)) (by-once xs (λ a. let m = h a in omega arith))

  pub different-exactly : (xs : List A) → T (all_different same? xs) ↔ ((a : A) → count same? a xs ≤ 1)
  different-exactly xs = (once xs, by-once xs)

  -- of a list of two parts each part
  pub different-front : (xs ys : List A) → T (all_different same? (xs ++ ys)) → T (all_different same? xs)
  different-front xs ys t = by-once xs (λ a. let l = once (xs ++ ys) t a in let e = count-append same? a xs ys in omega arith)

  pub different-behind : (xs ys : List A) → T (all_different same? (xs ++ ys)) → T (all_different same? ys)
  different-behind xs ys t = by-once ys (λ a. let l = once (xs ++ ys) t a in let e = count-append same? a xs ys in omega arith)

  -- in whatever order
  pub different-rearranged : (xs ys : List A) → Rearranged same? xs ys → T (all_different same? xs) → T (all_different same? ys)
  unfolding Rearranged
  different-rearranged xs ys r t = by-once ys (λ a. let e = r a in let l = once xs t a in omega arith)

-- three rows of numbers
pub none-twice : all_different ℕ_discrete (3 ∷ 5 ∷ 4 ∷ []) ≡ true
unfolding all_different count one_if ℕ_discrete
none-twice = refl

pub neighbours-same : all_different ℕ_discrete (5 ∷ 3 ∷ 3 ∷ []) ≡ false
unfolding all_different count one_if ℕ_discrete
neighbours-same = refl

pub ends_same : all_different ℕ_discrete (3 ∷ 5 ∷ 3 ∷ []) ≡ false
unfolding all_different count one_if ℕ_discrete
ends_same = refl
