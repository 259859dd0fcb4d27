-- `queue_check::queues_fit` meets its contract: the goals that the check does not find by itself. Assumes nothing.
use Rattle.std.proofs.Common.{◌≡◌, ◌∙◌, ◌+◌, ◌<◌, ◌≤◌, arith}
use Rattle.network.specs.Sizes.{shape_of, nodes}
use Rattle.network.specs.Layout.{node_words}
use Rattle.queue_check.proofs.Walks.{most_packets, most_work_left, net-start, net-tally, net-within, net-more, net-small, net-stop, net-done}
use Rattle.queue_check.proofs.queues_fit.Goals as goal
use Rattle.queue_check.proofs.queues_fit.Goals.{After-node_words-node, After-nodes-nodes, In_ok-t, In-loop-n}

pub loop-n-init : goal.loop-n-init
loop-n-init c = net-start _ _ c.requires.sizes

-- n is a node, and how many words it takes
is-node : (c : In-loop-n) → c.loop-n._n < nodes (shape_of c.args.s)
is-node c = let e = c.nodes-nodes.ensures in let h = c.loop-n-test.true in omega arith

words-is : (c : After-node_words-node) → c.node_words-node.result ≡ node_words (shape_of c.args.s)
words-is c = c.node_words-node.ensures

pub returns-in_err-t : goal.returns-in_err-t
returns-in_err-t c = c.from_residual.ensures ∙ net-stop _ _ _ _ _ _ _ c.loop-n.invariant (is-node (goal.at.returns-in_err-t c).In-loop-n) c.in_err-t.ensures

sums : (c : In_ok-t)
    → (c.loop-n.held + c.in_ok-t.t.held ≤ most_packets)
    × (c.loop-n.work + c.in_ok-t.t.work ≤ most_work_left)
sums c =
    let i = c.loop-n.invariant in
    let e = c.nodes-nodes.ensures in
    let h = c.loop-n-test.true in
    let is : c.loop-n._n < nodes (shape_of c.args.s) = omega arith in
    net-small _ _ c.requires _ _ _ c.in_ok-t.t i.upto is (net-tally _ _ _ _ _ _ _ _ i is c.in_ok-t.ensures)

pub overflow_add-held : goal.overflow_add-held
overflow_add-held c = omega (arith, sums (goal.at.overflow_add-held c).In_ok-t)

pub overflow_add-work : goal.overflow_add-work
overflow_add-work c = omega (arith, sums (goal.at.overflow_add-work c).In_ok-t)

pub overflow_add-start : goal.overflow_add-start
overflow_add-start c = omega (arith, net-within _ _ c.requires _ _ _ _ _ _ c.loop-n.invariant (is-node (goal.at.overflow_add-start c).In-loop-n) (words-is (goal.at.overflow_add-start c).After-node_words-node), c.well_formed)

pub loop-n-preserved : goal.loop-n-preserved
loop-n-preserved c = net-more _ _ _ _ _ _ _ _ _ c.in_ok-t.t c.loop-n.invariant (is-node (goal.at.loop-n-preserved c).In-loop-n) (words-is (goal.at.loop-n-preserved c).After-node_words-node) c.in_ok-t.ensures c.next_place-place.ensures.0 c.next_place-place.ensures.1

pub returns : goal.returns
returns c =
    let e = c.nodes-nodes.ensures in
    let l = c.loop-n-test.false in
    net-done _ _ _ _ _ _ _ c.loop-n.invariant (omega arith)
