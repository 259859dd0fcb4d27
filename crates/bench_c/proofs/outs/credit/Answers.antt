-- `bench_c::outs::credit` meets its contract: each case of the answer by its definition. Assumes nothing.
use Rattle.std.proofs.Common.{◌≡◌, refl, ap, ◌∙◌, [], ◌∷◌, ℕ, Result, Ok, Err}
use Rattle.std.specs.Result.{result_unwrap_or}
use Rattle.network.specs.declared.Refusal.{Refusal}
use Rattle.network.specs.Refusals.{number_of, numbered}
use Rattle.network.specs.Calls.{credit_number, credit_free}
use Rattle.bench_c.specs.Outs.{credit_out}
use Rattle.bench_c.proofs.outs.credit.Goals as goal

number : (r : Result ℕ Refusal) → number_of r ≡ credit_number (numbered r)
unfolding credit_number
number (Ok n) = refl
number (Err e) = refl

free : (r : Result ℕ Refusal) → (result_unwrap_or r 0 ∷ []) ≡ credit_out (numbered r)
unfolding credit_out credit_free
free (Ok n) = refl
free (Err e) = refl

pub returns : goal.returns
returns c =
    record { answer = c.number_of.ensures ∙ number c.args.c; out = ap (λ (n : ℕ). n ∷ []) c.unwrap_or.ensures ∙ free c.args.c }
