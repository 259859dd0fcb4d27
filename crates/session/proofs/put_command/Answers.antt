-- `session::put_command` meets its contract, by cases on the command. Assumes nothing.
use Rattle.std.proofs.Common.{refl}
use Rattle.session.specs.Session.{perform}
use Rattle.session.proofs.put_command.Goals as goal

pub returns-in-Make : goal.returns-in-Make
returns-in-Make c = rw c.in-Make.is c.run_make.ensures

pub returns-in-Offer : goal.returns-in-Offer
returns-in-Offer c = rw c.in-Offer.is c.run_offer.ensures

pub returns-in-Move : goal.returns-in-Move
returns-in-Move c = rw c.in-Move.is c.run_move.ensures

pub returns-in-Drain : goal.returns-in-Drain
returns-in-Drain c = rw c.in-Drain.is c.run_drain.ensures

pub returns-in-Bad : goal.returns-in-Bad
unfolding perform
returns-in-Bad c = rw c.in-Bad.is (record { store = refl; printed = c.put_bad.ensures })
