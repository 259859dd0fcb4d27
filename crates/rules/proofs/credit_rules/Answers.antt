-- `rules::credit_rules` meets its contract. Assumes nothing.
use Rattle.std.proofs.Common.{◌≡◌, refl, Bool, true, false, ◌||◌, ℕ, eq-eqb, ne_eqb, le-leb, leb, eqb}
use borrow.Author.Tests.{lt-leb}
use Rattle.network.specs.Sizes.{Shape, shape_of, nodes, queues}
use Rattle.network.specs.Refusals.{refuse, credit_rules, no_such_node, no_such_output}
use Rattle.rules.proofs.credit_rules.Goals as goal

-- by what the three tests said
tested : (S : Shape) (n o count : ℕ) (a b d : Bool) → count ≡ nodes S → leb count n ≡ a → eqb o 0 ≡ b → leb queues o ≡ d
    → refuse a no_such_node (refuse (b || d) no_such_output 0) ≡ credit_rules S n o
unfolding credit_rules
tested S n o count a b d e ea eb ed = cc

pub returns-then-nodes-n : goal.returns-then-nodes-n
returns-then-nodes-n c =
    let a = c.args in
    tested (shape_of a.s) a.n a.o c.nodes.result true _ _ c.nodes.ensures (le-leb c.nodes.result a.n c.if-nodes-n.true) refl refl

pub returns-then-o-eq-DELIVER : goal.returns-then-o-eq-DELIVER
returns-then-o-eq-DELIVER c =
    let a = c.args in
    tested (shape_of a.s) a.n a.o c.nodes.result false true _ c.nodes.ensures
    (lt-leb c.nodes.result a.n c.if-nodes-n.false) (eq-eqb a.o 0 c.if-o-eq-DELIVER.true) refl

pub returns-then-o-ge-QUEUES : goal.returns-then-o-ge-QUEUES
returns-then-o-ge-QUEUES c =
    let a = c.args in
    tested (shape_of a.s) a.n a.o c.nodes.result false false true c.nodes.ensures
    (lt-leb c.nodes.result a.n c.if-nodes-n.false) (ne_eqb a.o 0 c.if-o-eq-DELIVER.false) (le-leb queues a.o c.if-o-ge-QUEUES.true)

pub returns : goal.returns
returns c =
    let a = c.args in
    tested (shape_of a.s) a.n a.o c.nodes.result false false false c.nodes.ensures
    (lt-leb c.nodes.result a.n c.if-nodes-n.false) (ne_eqb a.o 0 c.if-o-eq-DELIVER.false) (lt-leb queues a.o c.if-o-ge-QUEUES.false)
