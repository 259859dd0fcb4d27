-- `rules::look_rules` meets its contract. Assumes nothing.
use Rattle.std.proofs.Common.{◌≡◌, refl, Bool, true, false, ℕ, le-leb, leb}
use borrow.Author.Tests.{lt-leb}
use Rattle.network.specs.Sizes.{Shape, shape_of, nodes, queues}
use Rattle.network.specs.Refusals.{refuse, look_rules, no_such_node, no_such_queue}
use Rattle.rules.proofs.look_rules.Goals as goal

-- by what the two tests said
tested : (S : Shape) (n q count : ℕ) (a b : Bool) → count ≡ nodes S → leb count n ≡ a → leb queues q ≡ b → refuse a no_such_node (refuse b no_such_queue 0) ≡ look_rules S n q
unfolding look_rules
tested S n q count a b e ea eb = cc

pub returns-then-nodes-n : goal.returns-then-nodes-n
returns-then-nodes-n c =
    let a = c.args in
    tested (shape_of a.s) a.n a.q c.nodes.result true _ c.nodes.ensures (le-leb c.nodes.result a.n c.if-nodes-n.true) refl

pub returns-then-q-ge-QUEUES : goal.returns-then-q-ge-QUEUES
returns-then-q-ge-QUEUES c =
    let a = c.args in
    tested (shape_of a.s) a.n a.q c.nodes.result false true c.nodes.ensures
    (lt-leb c.nodes.result a.n c.if-nodes-n.false) (le-leb queues a.q c.if-q-ge-QUEUES.true)

pub returns : goal.returns
returns c =
    let a = c.args in
    tested (shape_of a.s) a.n a.q c.nodes.result false false c.nodes.ensures
    (lt-leb c.nodes.result a.n c.if-nodes-n.false) (lt-leb queues a.q c.if-q-ge-QUEUES.false)
