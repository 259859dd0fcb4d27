-- `replay::bytes_of` meets its contract, by cases on the answer. Assumes nothing.
use Rattle.std.proofs.Common.{◌≡◌, refl, ◌∙◌, ℕ, Result, Ok, Err}
use Rattle.std.specs.Result.{result_unwrap_or}
use Rattle.network.specs.declared.Refusal.{Refusal}
use Rattle.network.specs.Refusals.{numbered}
use Rattle.waveform.specs.Calls.{written_length}
use Rattle.replay.proofs.bytes_of.Goals as goal

bytes : (r : Result ℕ Refusal) → result_unwrap_or r 0 ≡ written_length (numbered r)
unfolding written_length
bytes (Ok n) = refl
bytes (Err r) = refl

pub returns : goal.returns
returns c = c.unwrap_or.ensures ∙ bytes c.args.written
