-- Words that are 0, some at a time. Order: two words in one, and any number; a list by its parts. Assumes nothing.
use mathlib.Core.Path.{◌≡◌, refl, ap, ap₂, sym, ◌∙◌}
use mathlib.Core.Bool.{Bool, true, false, ◌&&◌}
use mathlib.Core.List.{List, [], ◌∷◌, ◌++◌}
use Prim.Native.Nat.{ℕ, zero, suc, ◌+◌, ◌*◌, ◌≤◌}
use native.Mathlib.Nat.{suc-mul}
use native.Mathlib.Omega.{arith}
use borrow.Author.Tests.{ne_eqb}
use lib.Bits.{bit_and, bit_or, or_add_and, and_le_r}
use lib.Dec.{eqb, eqb-zero-suc, eqb-suc-zero}
use lib.ListN.{take, drop}
use Rattle.std.specs.List.{fold, list_all}
use Rattle.std.specs.Simd.{first_chunks}
use Rattle.std.proofs.lemmas.List.{take-append-drop, drop-drop}
use Rattle.std.proofs.lemmas.List.Folds.{list_all-append}
use Rattle.base.specs.Tests.{all_of}
use Rattle.base.proofs.Bools.{and-stop}

-- a test for 0, either way round
either_way : (a : ℕ) → eqb 0 a ≡ eqb a 0
either_way zero = refl
either_way (suc a) = eqb-zero-suc a ∙ sym (eqb-suc-zero a)

-- two words are 0 when what they have in either is
or-none : (a b : ℕ) → eqb (bit_or a b) 0 ≡ eqb a 0 && eqb b 0
or-none zero b = refl
or-none (suc a) b =
    ne_eqb (bit_or (suc a) b) 0 (some (bit_or (suc a) b) (bit_and (suc a) b) (or_add_and (suc a) b) (and_le_r (suc a) b))
    ∙ sym (and-stop _ _ (eqb-suc-zero a))
  where
    some : (o n : ℕ) → o + n ≡ suc a + b → n ≤ b → o ≡ 0 → ⊥
    some o n e l z = omega arith

-- words are 0 when what they have together is
alone : (a : Bool) → a && true ≡ a
alone true = refl
alone false = refl

regroup : (a b c : Bool) → a && b && c ≡ a && (b && c)
regroup true b c = refl
regroup false b c = refl

none_in : (a : ℕ) (l : List ℕ) → eqb (fold bit_or a l) 0 ≡ eqb a 0 && all_of (eqb 0) l
unfolding all_of
none_in a [] = sym (alone (eqb a 0))
none_in a (x ∷ xs) =
    none_in (bit_or a x) xs
    ∙ ap (λ (t : Bool). t && all_of (eqb 0) xs) (or-none a x)
    ∙ regroup (eqb a 0) (eqb x 0) (all_of (eqb 0) xs)
    ∙ ap (λ (t : Bool). eqb a 0 && (t && all_of (eqb 0) xs)) (sym (either_way x))

pub no_bits-is : (l : List ℕ) → eqb (fold bit_or 0 l) 0 ≡ all_of (eqb 0) l
no_bits-is l = none_in 0 l

-- A list by its parts --------------------------------------------------------------------------------------------------------------------

module _ (f : ℕ → Bool) where
  is-list_all : (l : List ℕ) → all_of f l ≡ list_all f l
  unfolding all_of
  is-list_all [] = refl
  is-list_all (x ∷ xs) = ap (λ (t : Bool). f x && t) (is-list_all xs)

  -- the first n, and the rest
  parted : (n : ℕ) (l : List ℕ) → all_of f l ≡ all_of f (take n l) && all_of f (drop n l)
  parted n l =
      ap (all_of f) (sym (take-append-drop n l))
      ∙ is-list_all (take n l ++ drop n l)
      ∙ list_all-append f (take n l) (drop n l)
      ∙ ap₂ (λ (a b : Bool). a && b) (sym (is-list_all (take n l))) (sym (is-list_all (drop n l)))

  -- k times n, and the rest
  pub chunks-is : (n k : ℕ) (l : List ℕ) → list_all (all_of f) (first_chunks n k l) && all_of f (drop (k * n) l) ≡ all_of f l
  chunks-is n zero l = ap (λ (m : ℕ). all_of f (drop m l)) (let e : 0 * n ≡ 0 = omega arith in e)
  chunks-is n (suc k) l =
      regroup (all_of f (take n l)) (list_all (all_of f) (first_chunks n k (drop n l))) (all_of f (drop (suc k * n) l))
      ∙ ap (λ (t : Bool). all_of f (take n l) && t)
      (ap (λ (m : List ℕ). list_all (all_of f) (first_chunks n k (drop n l)) && all_of f m)
      (ap (λ (m : ℕ). drop m l) (suc-mul k n ∙ let e : k * n + n ≡ n + k * n = omega arith in e) ∙ sym (drop-drop (k * n) n l))
      ∙ chunks-is n k (drop n l))
      ∙ sym (parted n l)
