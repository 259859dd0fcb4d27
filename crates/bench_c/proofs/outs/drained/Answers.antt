-- `bench_c::outs::drained` meets its contract: each word by the reader of the answer that gives it. Assumes nothing.
use Rattle.std.proofs.Common.{◌≡◌, refl, ◌∙◌, Result, Ok, Err}
use Rattle.network.specs.declared.Drained.{Drained}
use Rattle.network.specs.declared.Refusal.{Refusal}
use Rattle.network.specs.Refusals.{number_of, numbered}
use Rattle.network.specs.Calls.{drained_number}
use Rattle.bench_c.specs.Outs.{drained_out}
use Rattle.bench_c.proofs.outs.drained.Goals as goal

number : (r : Result Drained Refusal) → number_of r ≡ drained_number (numbered r)
unfolding drained_number
number (Ok d) = refl
number (Err e) = refl

pub returns : goal.returns
unfolding drained_out
returns c =
    let moves = c.drained_moves-moves.ensures in
    let delivered = c.drained_delivered-delivered.ensures in
    let why = c.stop_number-why.ensures in
    record { answer = c.number_of.ensures ∙ number c.args.d; out = rw (← moves, ← delivered, ← why) refl }
