-- `replay::make` meets its contract: what the call answers. Assumes nothing.
use Rattle.std.proofs.Common.{ap, ◌∙◌}
use Rattle.network.specs.declared.Sizes.{Sizes}
use Rattle.network.specs.Sizes.{shape_of}
use Rattle.network.specs.Refusals.{make_refusal}
use Rattle.network.specs.Calls.{make_words}
use Rattle.session.specs.Session.{perform}
use Rattle.replay.specs.Replay.{carried_out, changed}
use Rattle.replay.proofs.Answered.{ok-by-number}
use Rattle.replay.proofs.make.Goals as goal

pub returns : goal.returns
unfolding carried_out changed perform
returns c =
    let call = c.make.ensures in
    let s = c.sized-s.ensures in
    let w = c.args.store.now in
    record { store = call.words ∙ ap (λ (k : Sizes). make_words (shape_of k) w) s; changed = c.is_ok.ensures.value ∙ ok-by-number _ (call.answer ∙ ap (λ (k : Sizes). make_refusal (shape_of k) w) s) }
