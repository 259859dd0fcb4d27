-- `session::run_offer` meets its contract: what the call answers is what is printed. Assumes nothing.
use Rattle.std.proofs.Common.{sym}
use Rattle.session.specs.Session.{perform}
use Rattle.session.proofs.run_offer.Goals as goal

pub returns : goal.returns
unfolding perform
returns c =
    let line = c.put_answer.ensures in
    let call = c.offer-answer.ensures in
    record { store = call.words; printed = rw (sym call.answer) line }
