-- `calls::look_refusal` meets its contract. Assumes nothing.
use Rattle.std.proofs.Common.{sym, ◌∙◌}
use Rattle.network.proofs.Answers.{passed-number}
use Rattle.calls.specs.Returns.{look-shut, look-open}
use Rattle.calls.proofs.look_refusal.Goals as goal

pub returns-in_err-open_look : goal.returns-in_err-open_look
returns-in_err-open_look c =
    let a = c.args in
    passed-number _ _ c.from_residual.ensures.1 ∙ sym (look-shut a.words.now a.node a.queue c.open_look.ensures c.in_err-open_look.was)

pub returns : goal.returns
returns c = let a = c.args in sym (look-open a.words.now a.node a.queue c.open_look.ensures c.in_ok-open_look.was).passed
