-- `session::run_make` meets its contract: what the call answers is what is printed. Assumes nothing.
use Rattle.std.proofs.Common.{ap, sym, ◌∙◌}
use Rattle.network.specs.declared.Sizes.{Sizes}
use Rattle.network.specs.Sizes.{shape_of, sized}
use Rattle.network.specs.Refusals.{make_refusal}
use Rattle.network.specs.Calls.{make_words}
use Rattle.session.specs.Session.{perform}
use Rattle.session.proofs.run_make.Goals as goal

pub returns : goal.returns
unfolding perform
returns c =
    let line = c.put_answer.ensures in
    let call = c.make-answer.ensures in
    let s = c.sized-s.ensures in
    let a = c.args in
    let told = sym {b = make_refusal (shape_of (sized a.x a.y a.z a.e a.a a.j)) a.store.now} (call.answer ∙ ap (λ (k : Sizes). make_refusal (shape_of k) a.store.now) s) in
    record { store = call.words ∙ ap (λ (k : Sizes). make_words (shape_of k) a.store.now) s; printed = rw told line }
