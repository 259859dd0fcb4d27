-- `session::run_drain` meets its contract: the ledger has a word for every packet that the Drain delivers. Assumes nothing.
use Rattle.std.proofs.Common.{◌≡◌, sym, ◌+◌, ◌≤◌, length, arith}
use Rattle.network.specs.Refusals.{numbered}
use Rattle.network.specs.Calls.{drained_delivered}
use Rattle.session.specs.Session.{perform}
use Rattle.network.proofs.DrainLaws.{delivered-within}
use Rattle.session.proofs.run_drain.Goals as goal

pub put_drained-requires : goal.put_drained-requires
put_drained-requires c =
    let k : length c.drain-answer.new.ledger ≡ 64 = c.drain-answer.auto.ledger in
    let within : drained_delivered (numbered c.drain-answer.result) ≤ 64
    = rw c.drain-answer.ensures.answer (delivered-within c.args.store.now c.args.budget 64) in
    let room : c.args.page.now.at + 1314 ≤ length c.args.page.now.out.now = c.requires in
    record { answer_in_bounds = rw k within; drain_room_in_bounds = rw k (omega arith) }

pub returns : goal.returns
unfolding perform
returns c =
    let line = c.put_drained.ensures in
    let call = c.drain-answer.ensures in
    record { store = call.words; printed = rw (sym call.answer, sym call.ledger) line }
