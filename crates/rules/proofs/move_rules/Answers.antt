-- `rules::move_rules` meets its contract. Assumes nothing.
use Rattle.std.proofs.Common.{◌≡◌, refl, sym, ◌∙◌, Bool, true, false, not, List, ℕ, eq-eqb, ne_eqb, le-leb, leb, eqb, length}
use borrow.Author.Tests.{lt-leb}
use Rattle.base.specs.Tests.{elem}
use Rattle.network.specs.Sizes.{Shape, shape_of, nodes, queues}
use Rattle.network.specs.Layout.{held}
use Rattle.network.specs.Routes.{routes}
use Rattle.network.specs.Refusals.{number_of, refuse, head, flow_rules, move_rules, no_such_node, no_such_queue, no_such_output, queue_empty, no_route}
use Rattle.rules.proofs.move_rules.Goals as goal
use Rattle.rules.proofs.move_rules.Goals.{Else-o-ge-QUEUES}

-- by what the tests said
tested : (S : Shape) (w : List ℕ) (n q o count held-there p flow : ℕ) (route a b d e : Bool) → count ≡ nodes S
    → held-there ≡ length (held S w n q) → p ≡ head (held S w n q) → route ≡ elem o (routes q p) → flow ≡ flow_rules S w n q o p
    → leb count n ≡ a → leb queues q ≡ b → leb queues o ≡ d → eqb held-there 0 ≡ e
    → refuse a no_such_node (refuse b no_such_queue (refuse d no_such_output (refuse e queue_empty (refuse (not route) no_route flow)))) ≡ move_rules S w n q o
unfolding move_rules
tested S w n q o count held-there p flow route a b d e ec eh ep er ef ea eb ed ee = cc

there : (c : Else-o-ge-QUEUES) → (leb c.nodes.result c.args.n ≡ false) × (leb queues c.args.q ≡ false) × (leb queues c.args.o ≡ false)
there c =
    let a = c.args in
    (lt-leb c.nodes.result a.n c.if-nodes-n.false, lt-leb queues a.q c.if-q-ge-QUEUES.false, lt-leb queues a.o c.if-o-ge-QUEUES.false)

pub nodes-requires : goal.nodes-requires
nodes-requires c = c.requires.in-range

pub returns-then-nodes-n : goal.returns-then-nodes-n
returns-then-nodes-n c =
    let a = c.args in
    tested (shape_of a.s) a.words.now a.n a.q a.o c.nodes.result _ _ _ _ true _ _ _ c.nodes.ensures refl refl refl refl
    (le-leb c.nodes.result a.n c.if-nodes-n.true) refl refl refl

pub returns-then-q-ge-QUEUES : goal.returns-then-q-ge-QUEUES
returns-then-q-ge-QUEUES c =
    let a = c.args in
    tested (shape_of a.s) a.words.now a.n a.q a.o c.nodes.result _ _ _ _ false true _ _ c.nodes.ensures refl refl refl refl
    (lt-leb c.nodes.result a.n c.if-nodes-n.false) (le-leb queues a.q c.if-q-ge-QUEUES.true) refl refl

pub returns-then-o-ge-QUEUES : goal.returns-then-o-ge-QUEUES
returns-then-o-ge-QUEUES c =
    let a = c.args in
    tested (shape_of a.s) a.words.now a.n a.q a.o c.nodes.result _ _ _ _ false false true _ c.nodes.ensures refl refl refl refl
    (lt-leb c.nodes.result a.n c.if-nodes-n.false) (lt-leb queues a.q c.if-q-ge-QUEUES.false) (le-leb queues a.o c.if-o-ge-QUEUES.true) refl

pub returns-then-held_count-eq0 : goal.returns-then-held_count-eq0
returns-then-held_count-eq0 c =
    let a = c.args in
    let t = there (goal.at.returns-then-held_count-eq0 c).Else-o-ge-QUEUES in
    tested (shape_of a.s) a.words.now a.n a.q a.o c.nodes.result c.held_count.result _ _ _ false false false true
    c.nodes.ensures c.held_count.ensures refl refl refl t.0 t.1 t.2 (eq-eqb c.held_count.result 0 c.if-held_count-eq0.true)

pub returns-then-not-is_route : goal.returns-then-not-is_route
returns-then-not-is_route c =
    let a = c.args in
    let t = there (goal.at.returns-then-not-is_route c).Else-o-ge-QUEUES in
    let no = sym c.if-not-is_route.true ∙ c.is_route.ensures in
    tested (shape_of a.s) a.words.now a.n a.q a.o c.nodes.result c.held_count.result c.head-p.result _ false false false false false
    c.nodes.ensures c.held_count.ensures c.head-p.ensures no refl t.0 t.1 t.2 (ne_eqb c.held_count.result 0 c.if-held_count-eq0.false)

pub returns : goal.returns
returns c =
    let a = c.args in
    let t = there (goal.at.returns c).Else-o-ge-QUEUES in
    let is = sym c.if-not-is_route.false ∙ c.is_route.ensures in
    tested (shape_of a.s) a.words.now a.n a.q a.o c.nodes.result c.held_count.result c.head-p.result (number_of c.flow_rules.result) true false false false false
    c.nodes.ensures c.held_count.ensures c.head-p.ensures is c.flow_rules.ensures t.0 t.1 t.2 (ne_eqb c.held_count.result 0 c.if-held_count-eq0.false)
