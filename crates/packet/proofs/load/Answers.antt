-- `packet::load` meets its contract, by the kind of the queue. Assumes nothing.
use Rattle.std.proofs.Common.{sym, ◌∙◌}
use Rattle.network.proofs.LayoutLaws.{load_one, load-chunks}
use Rattle.packet.proofs.load.Goals as goal

pub returns-then-not-is_adaptive : goal.returns-then-not-is_adaptive
returns-then-not-is_adaptive c =
    let a = c.args in
    sym (load_one a.q a.p (sym c.is_adaptive.ensures ∙ c.if-not-is_adaptive.true))

pub returns : goal.returns
returns c =
    let a = c.args in
    c.chunks.ensures ∙ sym (load-chunks a.q a.p (sym c.is_adaptive.ensures ∙ c.if-not-is_adaptive.false))
