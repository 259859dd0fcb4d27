-- What the functions of the reader answer, in terms of the definitions of `sheet`, specs/Commands.antt. Nothing here has to be believed: the contract of
-- `read_command` does not name it. Order: a field; what its answer shows of it; the fields behind the first. Assumes nothing.
use Rattle.std.proofs.Math.Path.{◌≡◌, refl, ap, sym, ◌∙◌}
use Rattle.std.specs.Prelude.{Bool, ◌&&◌, cond, is_some, List, [], ◌∷◌, map, ℕ, ◌≤◌, leb, length, get_or, Option, Some, None}
use Rattle.std.proofs.Math.Bool.{true, false}
use Rattle.std.proofs.Common.{leb-true}
use Rattle.std.proofs.Math.Dec.{T}
use Rattle.std.proofs.lemmas.Option.{cond_some}
use Rattle.base.specs.Tests.{all_of}
use Rattle.base.proofs.Tests.{and_r, T_true, true-T}
use Rattle.reader.specs.declared.Numbers.{Numbers}
use Rattle.sheet.specs.Commands.{is_digit, value_from, value, ten, largest_number, no_leading_zero, is_number}

unfoldable pub number_of : ℕ → ℕ → List ℕ → Option ℕ
number_of base most field = cond (is_number base most field) (Some (value base field)) None

-- the same where leading zeros do not matter, and where the digits of n stand before the field
unfoldable pub digits_from : ℕ → ℕ → ℕ → List ℕ → Option ℕ
digits_from base most n field = cond (all_of (is_digit base) field && leb (value_from base n field) most) (Some (value_from base n field)) None

-- there is a number where the test passes
pub number-there : {A : Type 0} (b : Bool) (x : A) → is_some (cond b (Some x) None) ≡ b
number-there true x = refl
number-there false x = refl

-- by what was read in a field, whether it is a number, and which; it is at most `most`, so a narrower type may hold it
module _ (base most : ℕ) (field : List ℕ) where
  pub is-number : (n : ℕ) → Some n ≡ number_of base most field → is_number base most field ≡ true
  unfolding number_of
  is-number n e = (cond_some (is_number base most field) (value base field) n (sym e)).0

  pub number_is : (n : ℕ) → Some n ≡ number_of base most field → n ≡ value base field
  unfolding number_of
  number_is n e = sym (cond_some (is_number base most field) (value base field) n (sym e)).1

  pub number_fits : (n : ℕ) → Some n ≡ number_of base most field → n ≤ most
  unfolding is_number
  number_fits n e =
      let t : T (is_number base most field) = true-T (is_number base most field) (is-number n e) in
      let small = leb (value base field) most in
      let digits = all_of (is_digit base) field in
      let within : T small = and_r digits small (and_r (no_leading_zero field) (digits && small) t) in
      rw (number_is n e) (leb-true (value base field) most (T_true small within))

  pub not-number : None ≡ number_of base most field → is_number base most field ≡ false
  unfolding number_of
  not-number e = sym (number-there (is_number base most field) (value base field)) ∙ ap is_some (sym e)

-- the first of some numbers, as many as a command can take, 0 for those that are missing
unfoldable pub first_numbers : List ℕ → List ℕ
first_numbers n = get_or n 0 0 ∷ get_or n 1 0 ∷ get_or n 2 0 ∷ get_or n 3 0 ∷ get_or n 4 0 ∷ get_or n 5 0 ∷ []

-- what is read in fields: numbers, if each of them is one
unfoldable pub numbers_of : List (List ℕ) → Option Numbers
numbers_of fields =
    cond (all_of (is_number ten largest_number) fields) (Some (record { count = length fields; values = first_numbers (map (value ten) fields) })) None
