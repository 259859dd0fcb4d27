-- `bench_c::bench_credit` meets its contract: the call's, with the answer in numbers. Assumes nothing.
use Rattle.std.proofs.Common.{ap, ◌∙◌}
use Rattle.network.specs.Calls.{credit_number}
use Rattle.bench_c.specs.Outs.{credit_out}
use Rattle.bench_c.proofs.bench_credit.Goals as goal

pub returns : goal.returns
returns c = let e = c.credit-c.ensures.answer in record { answer = c.credit.ensures.answer ∙ ap credit_number e; out = c.credit.ensures.out ∙ ap credit_out e }
