-- `queue::need` meets its contract. Assumes nothing.
use Rattle.std.proofs.Common.{ap, ap₂, ℕ, ◌+◌, ◌*◌, ◌≤◌, arith}
use Rattle.network.specs.Sizes.{most_nodes}
use Rattle.network.proofs.TorusLaws.{sizes-nodes}
use Rattle.network.specs.Layout.{header_words, need}
use Rattle.queue.proofs.ClosedForms.{most_node_words, product_small, node-small}
use Rattle.queue.proofs.need.Goals as goal
use Rattle.queue.proofs.need.Goals.{After-node_words-node}

words_small : (c : After-node_words-node) → c.nodes-nodes.result * c.node_words-node.result ≤ most_nodes * most_node_words
words_small c =
    let s = c.args.s in
    let t = c.requires in
    let m = c.nodes-nodes.ensures in
    let w = c.node_words-node.ensures in
    let k = sizes-nodes s t in
    let l = node-small s t in
    product_small c.nodes-nodes.result c.node_words-node.result most_nodes most_node_words (omega arith) (omega arith)

pub overflow_mul-result : goal.overflow_mul-result
overflow_mul-result c = omega (arith, words_small (goal.at.overflow_mul-result c).After-node_words-node)

pub overflow_add-result : goal.overflow_add-result
overflow_add-result c = omega (arith, words_small (goal.at.overflow_add-result c).After-node_words-node)

pub returns : goal.returns
unfolding need
returns c = ap (λ (k : ℕ). header_words + k) (ap₂ (λ (k m : ℕ). k * m) c.nodes-nodes.ensures c.node_words-node.ensures)
