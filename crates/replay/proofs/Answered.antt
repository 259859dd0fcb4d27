-- A call is not refused exactly where its number is 0. Assumes nothing.
use Rattle.std.proofs.Common.{◌≡◌, refl, ap, sym, ◌∙◌, ℕ, Result, Ok, Err, Option, eqb, ne_eqb, arith}
use Rattle.std.specs.Result.{is_ok}
use Rattle.network.specs.declared.Refusal.{Refusal}
use Rattle.network.specs.Refusals.{refusal_number, number_of, numbered}
use Rattle.network.specs.Calls.{moved_number}
use Rattle.network.proofs.RefusalLaws.{number-positive}

pub ok-by-number : {A : Type 0} {k : ℕ} (r : Result A Refusal) → number_of r ≡ k → is_ok r ≡ eqb k 0
ok-by-number r e = kind r ∙ ap (λ (n : ℕ). eqb n 0) e
  where
    kind : {A : Type 0} (r : Result A Refusal) → is_ok r ≡ eqb (number_of r) 0
    kind (Ok x) = refl
    kind (Err x) = sym (ne_eqb (refusal_number x) 0 (λ z. let p = number-positive x in omega arith))

pub moved-by-number : (r : Result (Option ℕ) Refusal) → number_of r ≡ moved_number (numbered r)
unfolding moved_number
moved-by-number (Ok x) = refl
moved-by-number (Err x) = refl
