-- `loads::change` meets its contract: the goals that the check does not find by itself. Assumes nothing.
use Rattle.std.proofs.Common.{ap, sym, ◌∙◌, ℕ, ◌+◌, ◌-◌, get_or, set}
use Rattle.loads.specs.Loads.{with_none, with-some}
use Rattle.loads.proofs.change.Goals as goal

pub returns-then-is_adaptive : goal.returns-then-is_adaptive
returns-then-is_adaptive c =
    let a = c.args in
    ap (λ (i : ℕ). set a.loads.now i (get_or a.loads.now i 0 - a.left + a.come)) c.entry-at.ensures
    ∙ with-some a.n a.q _ a.loads.now (sym c.is_adaptive.ensures ∙ c.if-is_adaptive.true)

pub returns-else-is_adaptive : goal.returns-else-is_adaptive
returns-else-is_adaptive c =
    let a = c.args in
    with_none a.n a.q _ a.loads.now (sym c.is_adaptive.ensures ∙ c.if-is_adaptive.false)
