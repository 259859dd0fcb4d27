-- Laws of a number's digits in a base of two or more. Order: a number by its last digit; the digits of a number below a power of the base are few; they are
-- digits, and read as a number they are that number again; a field that is a number has its digits. Assumes nothing.
use Rattle.std.specs.Prelude.{◌≡◌, ℕ, ◌≤◌}
use Rattle.std.proofs.Math.Bool.{true}
use mathlib.Core.List.{List}
use Rattle.std.proofs.Math.Dec.{T}
use Rattle.base.specs.Tests.{all_of}
use Rattle.sheet.specs.Commands.{is_digit, value, no_leading_zero}

-- what holds of a field that is a number
pub record Number (base most : ℕ) (field : List ℕ) : Type 0 where
  pub leads : no_leading_zero field ≡ true
  pub digits : T (all_of (is_digit base) field)
  pub small : value base field ≤ most
