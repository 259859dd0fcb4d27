-- `queue::queue_start` meets its contract: a node's words and the words before a queue are small. Assumes nothing.
use Rattle.std.proofs.Common.{ap, ℕ, ◌+◌, ◌*◌, ◌-◌, ◌≤◌, arith}
use Rattle.network.specs.Sizes.{most_nodes}
use Rattle.network.specs.Layout.{queue_start}
use Rattle.network.proofs.TorusLaws.{sizes-nodes}
use Rattle.queue.proofs.ClosedForms.{most_node_words, most_words, product_small, node-small, before_small}
use Rattle.queue.proofs.queue_start.Goals as goal
use Rattle.queue.proofs.queue_start.Goals.{After-words_before-before}

sum-small : (c : After-words_before-before) → c.args.n * c.node_words-node.result + c.words_before-before.result ≤ most_words
sum-small c =
    let a = c.args in
    let p = c.requires in
    let w = c.node_words-node.ensures in
    let l = node-small a.s p.0 in
    let h = p.1 in
    let few = sizes-nodes a.s p.0 in
    let m = product_small a.n c.node_words-node.result (most_nodes - 1) most_node_words (omega arith) (omega arith) in
    let b = c.words_before-before.ensures in
    let k = before_small a.s a.q p.0 p.2 in
    omega arith

pub overflow_mul-result : goal.overflow_mul-result
overflow_mul-result c = omega (arith, sum-small (goal.at.overflow_mul-result c).After-words_before-before)

pub overflow_add-result : goal.overflow_add-result
overflow_add-result c = omega (arith, sum-small (goal.at.overflow_add-result c).After-words_before-before)

pub overflow_add-result-2 : goal.overflow_add-result-2
overflow_add-result-2 c = omega (arith, sum-small (goal.at.overflow_add-result-2 c).After-words_before-before)

pub returns : goal.returns
unfolding queue_start
returns c =
    let w = ap (λ (k : ℕ). c.args.n * k) c.node_words-node.ensures in
    let b = c.words_before-before.ensures in
    omega arith
