-- `replay::apply` meets its contract, by cases on the command. Assumes nothing.
use Rattle.std.proofs.Common.{refl, ◌∙◌}
use Rattle.session.specs.Session.{perform}
use Rattle.replay.specs.Replay.{carried_out, changed}
use Rattle.replay.proofs.Answered.{ok-by-number, moved-by-number}
use Rattle.replay.proofs.apply.Goals as goal

pub returns-in-Make : goal.returns-in-Make
returns-in-Make c = rw c.in-Make.is c.make.ensures

pub returns-in-Offer : goal.returns-in-Offer
unfolding carried_out changed perform
returns-in-Offer c = rw c.in-Offer.is (record { store = c.offer.ensures.words; changed = c.is_ok.ensures.value ∙ ok-by-number _ c.offer.ensures.answer })

pub returns-in-Move : goal.returns-in-Move
unfolding carried_out changed perform
returns-in-Move c =
    let made = c.move_packet.ensures in
    rw c.in-Move.is (record { store = made.words; changed = c.is_ok-in-Move.ensures.value ∙ ok-by-number _ (moved-by-number _ ∙ made.told.number) })

pub returns-in-Drain : goal.returns-in-Drain
unfolding carried_out changed
returns-in-Drain c = rw c.in-Drain.is (record { store = refl; changed = refl })

pub returns-in-Bad : goal.returns-in-Bad
unfolding carried_out changed perform
returns-in-Bad c = rw c.in-Bad.is (record { store = refl; changed = refl })
