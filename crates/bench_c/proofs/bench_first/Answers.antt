-- `bench_c::bench_first` meets its contract: the call's, with the answer in numbers. Assumes nothing.
use Rattle.std.proofs.Common.{ap, ◌∙◌}
use Rattle.network.specs.Calls.{found_number}
use Rattle.bench_c.specs.Outs.{found_out}
use Rattle.bench_c.proofs.bench_first.Goals as goal

pub returns : goal.returns
returns c = let e = c.first-f.ensures.answer in record { answer = c.found.ensures.answer ∙ ap found_number e; out = c.found.ensures.out ∙ ap found_out e }
