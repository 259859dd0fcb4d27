-- `flow::flow_rules` meets its contract. Assumes nothing.
use Rattle.std.proofs.Common.{◌≡◌, refl, Bool, true, false, cond, List, ℕ, eq-eqb, ne_eqb, lt-ltb, le-ltb, ltb, eqb}
use Rattle.network.specs.Sizes.{Shape, shape_of}
use Rattle.network.specs.Layout.{load}
use Rattle.network.specs.Routes.{free_load, load_needed}
use Rattle.network.specs.Refusals.{refuse, flow_rules, no_slot, no_bubble}
use Rattle.flow.proofs.flow_rules.Goals as goal
use Rattle.flow.proofs.flow_rules.Goals.{After-load_needed}

-- by what the three tests said
tested : (S : Shape) (w : List ℕ) (n q o p free taken needed : ℕ) (a b d : Bool) → free ≡ free_load S w n o → taken ≡ load o p → needed ≡ load_needed q o p
    → eqb o 0 ≡ a → ltb free taken ≡ b → ltb free needed ≡ d → cond a 0 (refuse b no_slot (refuse d no_bubble 0)) ≡ flow_rules S w n q o p
unfolding flow_rules
tested S w n q o p free taken needed a b d ef et en ea eb ed = cc

pub returns-then-o-eq-DELIVER : goal.returns-then-o-eq-DELIVER
returns-then-o-eq-DELIVER c =
    let a = c.args in
    let S = shape_of a.s in
    let w = a.words.now in
    tested S w a.n a.q a.o a.p (free_load S w a.n a.o) (load a.o a.p) (load_needed a.q a.o a.p) true _ _
    refl refl refl (eq-eqb a.o 0 c.if-o-eq-DELIVER.true) refl refl

pub returns-then-free-load : goal.returns-then-free-load
returns-then-free-load c =
    let a = c.args in
    tested (shape_of a.s) a.words.now a.n a.q a.o a.p c.free_load-free.result c.load.result (load_needed a.q a.o a.p) false true _
    c.free_load-free.ensures c.load.ensures refl (ne_eqb a.o 0 c.if-o-eq-DELIVER.false) (lt-ltb c.free_load-free.result c.load.result c.if-free-load.true) refl

by_last : (n : After-load_needed) (d : Bool) → ltb n.free_load-free.result n.load_needed.result ≡ d
    → refuse d no_bubble 0
    ≡ flow_rules (shape_of n.args.s) n.args.words.now n.args.n n.args.q n.args.o n.args.p
by_last n d e =
    let a = n.args in
    tested (shape_of a.s) a.words.now a.n a.q a.o a.p n.free_load-free.result n.load.result n.load_needed.result false false d
    n.free_load-free.ensures n.load.ensures n.load_needed.ensures (ne_eqb a.o 0 n.if-o-eq-DELIVER.false) (le-ltb n.free_load-free.result n.load.result n.if-free-load.false) e

pub returns-then-free-load_needed : goal.returns-then-free-load_needed
returns-then-free-load_needed c = by_last (goal.at.returns-then-free-load_needed c).After-load_needed true (lt-ltb c.free_load-free.result c.load_needed.result c.if-free-load_needed.true)

pub returns : goal.returns
returns c = by_last (goal.at.returns c).After-load_needed false (le-ltb c.free_load-free.result c.load_needed.result c.if-free-load_needed.false)
