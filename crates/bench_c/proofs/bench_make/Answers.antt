-- `bench_c::bench_make` meets its contract: the sizes are the numbers given. Assumes nothing.
use Rattle.std.proofs.Common.{ap, ◌∙◌}
use Rattle.network.specs.declared.Sizes.{Sizes}
use Rattle.network.specs.Sizes.{shape_of}
use Rattle.network.specs.Refusals.{make_refusal}
use Rattle.network.specs.Calls.{make_words}
use Rattle.bench_c.proofs.bench_make.Goals as goal

pub returns : goal.returns
returns c =
    let call = c.make.ensures in
    let s = c.sized-s.ensures in
    let w = c.args.words.now in
    record { answer = c.number_of.ensures ∙ call.answer ∙ ap (λ (k : Sizes). make_refusal (shape_of k) w) s; words = call.words ∙ ap (λ (k : Sizes). make_words (shape_of k) w) s }
