-- `queue::append` meets its contract: the two stores make the words that the law `appended` speaks of. Assumes nothing.
use Rattle.network.specs.Layout.{count_of}
use Rattle.queue.proofs.StoreLaws.{appended}
use Rattle.queue.proofs.append.Goals as goal

pub returns : goal.returns
unfolding count_of
returns c = appended c.args.q.now c.args.p c.requires.queue c.requires.q_bound
