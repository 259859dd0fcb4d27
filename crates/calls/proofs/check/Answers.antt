-- `calls::check` meets its contract. Assumes nothing.
use Rattle.std.proofs.Common.{sym, ◌∙◌}
use Rattle.network.proofs.Answers.{passed-number}
use Rattle.checker.specs.Opened.{is_open, is-shut}
use Rattle.calls.proofs.check.Goals as goal

pub returns-in_err-open : goal.returns-in_err-open
returns-in_err-open c = passed-number _ _ c.from_residual.ensures.1 ∙ sym (is-shut c.open.ensures c.in_err-open.was).says

pub returns : goal.returns
returns c = sym (is_open c.open.ensures c.in_ok-open.was).passed
