-- `queue::remove` meets its contract: the goals that the check does not find by itself. Assumes nothing.
use Rattle.std.proofs.Common.{ap, ◌∙◌, List, ℕ, ◌+◌, ◌-◌, arith, get_or, set}
use Rattle.network.specs.Layout.{count_of}
use Rattle.queue.proofs.StoreLaws.{removed, oldest}
use Rattle.queue.proofs.remove.Goals as goal

pub returns-clause-words : goal.returns-clause-words
unfolding count_of
returns-clause-words c =
    let part = c.args.q.now in
    let count = get_or part 0 0 in
    ap (λ (l : List ℕ). set (set l count 0) 0 (count - 1)) c.copy_within.ensures.after ∙ removed part (count + 1 - 2) c.requires.queue (omega arith)

pub returns-clause-head : goal.returns-clause-head
unfolding count_of
returns-clause-head c = oldest c.args.q.now c.requires.q_nonzero
