-- `rules::offer_rules` meets its contract. Assumes nothing.
use Rattle.std.proofs.Common.{◌≡◌, refl, sym, ◌∙◌, Bool, true, false, ◌||◌, List, ℕ, arith, eq-eqb, ne_eqb, le-leb, leb, eqb}
use borrow.Author.Tests.{lt-leb}
use Rattle.network.specs.Sizes.{Shape, shape_of, nodes, capacity, injection_queue}
use Rattle.network.specs.Layout.{accepted, taken}
use Rattle.network.proofs.LayoutLaws.{header-long, taken-length}
use Rattle.network.specs.Check.{most_accepted}
use Rattle.network.specs.Refusals.{refuse, wrong_chunks, offer_rules, wrong_size, no_such_node, count_spent, injection_full, own_node}
use Rattle.rules.proofs.offer_rules.Goals as goal
use Rattle.rules.proofs.offer_rules.Goals.{After-held_count-held}

-- by what the tests said
tested : (S : Shape) (w : List ℕ) (n destination chunks count held-there slots : ℕ) (a b k o d e : Bool) → count ≡ nodes S
    → held-there ≡ taken S w n injection_queue → slots ≡ capacity S injection_queue
    → leb count n ≡ a → leb count destination ≡ b → wrong_chunks chunks ≡ k → eqb n destination ≡ o → eqb (accepted w) most_accepted ≡ d
    → eqb held-there slots ≡ e
    → refuse (a || b) no_such_node (refuse k wrong_size (refuse o own_node (refuse d count_spent (refuse e injection_full 0)))) ≡ offer_rules S w n destination chunks
unfolding offer_rules
tested S w n destination chunks count held-there slots a b k o d e ec eh es ea eb ek eo ed ee = cc

pub nodes-count-requires : goal.nodes-count-requires
nodes-count-requires c = c.requires.in-range

pub bounds-words-6 : goal.bounds-words-6
bounds-words-6 c =
    let l = header-long (shape_of c.args.s) c.args.words.now c.requires.long in
    omega arith

pub returns-then-count-n : goal.returns-then-count-n
returns-then-count-n c =
    let a = c.args in
    tested (shape_of a.s) a.words.now a.n a.destination a.chunks c.nodes-count.result _ _ true _ _ _ _ _ c.nodes-count.ensures refl refl
    (le-leb c.nodes-count.result a.n (omega arith)) refl refl refl refl refl

pub returns-then-count-destination : goal.returns-then-count-destination
returns-then-count-destination c =
    let a = c.args in
    tested (shape_of a.s) a.words.now a.n a.destination a.chunks c.nodes-count.result _ _ false true _ _ _ _ c.nodes-count.ensures refl refl
    (lt-leb c.nodes-count.result a.n (omega arith)) (le-leb c.nodes-count.result a.destination (omega arith)) refl refl refl refl

pub returns-then-wrong : goal.returns-then-wrong
returns-then-wrong c =
    let a = c.args in
    tested (shape_of a.s) a.words.now a.n a.destination a.chunks c.nodes-count.result _ _ false false true _ _ _ c.nodes-count.ensures refl refl
    (lt-leb c.nodes-count.result a.n (omega arith)) (lt-leb c.nodes-count.result a.destination (omega arith))
    (cc) refl refl refl

pub returns-then-n-destination : goal.returns-then-n-destination
returns-then-n-destination c =
    let a = c.args in
    tested (shape_of a.s) a.words.now a.n a.destination a.chunks c.nodes-count.result _ _ false false false true _ _ c.nodes-count.ensures refl refl
    (lt-leb c.nodes-count.result a.n (omega arith)) (lt-leb c.nodes-count.result a.destination (omega arith))
    (cc) (eq-eqb a.n a.destination (omega arith)) refl refl

pub returns-then-accepted-eq-MOST_ACCEPTED : goal.returns-then-accepted-eq-MOST_ACCEPTED
unfolding accepted
returns-then-accepted-eq-MOST_ACCEPTED c =
    let a = c.args in
    let w = a.words.now in
    tested (shape_of a.s) w a.n a.destination a.chunks c.nodes-count.result _ _ false false false false true _ c.nodes-count.ensures refl refl
    (lt-leb c.nodes-count.result a.n (omega arith)) (lt-leb c.nodes-count.result a.destination (omega arith))
    (cc) (ne_eqb a.n a.destination (omega arith)) (eq-eqb (accepted w) most_accepted (omega arith)) refl

by_last : (c : After-held_count-held) (d e : Bool)
    → leb c.nodes-count.result c.args.n ≡ false → leb c.nodes-count.result c.args.destination ≡ false
    → wrong_chunks c.args.chunks ≡ false → eqb c.args.n c.args.destination ≡ false
    → eqb (accepted c.args.words.now) most_accepted ≡ d
    → eqb c.held_count-held.result c.capacity-slots.result ≡ e
    → refuse d count_spent (refuse e injection_full 0)
    ≡ offer_rules (shape_of c.args.s) c.args.words.now c.args.n c.args.destination c.args.chunks
by_last c d e ea eb ek eo ed ee =
    let a = c.args in
    tested (shape_of a.s) a.words.now a.n a.destination a.chunks c.nodes-count.result c.held_count-held.result c.capacity-slots.result false false false false d e
    c.nodes-count.ensures (c.held_count-held.ensures ∙ sym (taken-length (shape_of a.s) a.words.now a.n injection_queue refl)) c.capacity-slots.ensures
    ea eb ek eo ed ee

pub returns-then-held-slots : goal.returns-then-held-slots
unfolding accepted
returns-then-held-slots c =
    let a = c.args in
    let w = a.words.now in
    by_last (goal.at.returns-then-held-slots c).After-held_count-held false true
    (lt-leb c.nodes-count.result a.n (omega arith)) (lt-leb c.nodes-count.result a.destination (omega arith)) (cc) (ne_eqb a.n a.destination (omega arith))
    (ne_eqb (accepted w) most_accepted (omega arith)) (eq-eqb c.held_count-held.result c.capacity-slots.result (omega arith))

pub returns : goal.returns
unfolding accepted
returns c =
    let a = c.args in
    let w = a.words.now in
    by_last (goal.at.returns c).After-held_count-held false false
    (lt-leb c.nodes-count.result a.n (omega arith)) (lt-leb c.nodes-count.result a.destination (omega arith)) (cc) (ne_eqb a.n a.destination (omega arith))
    (ne_eqb (accepted w) most_accepted (omega arith)) (ne_eqb c.held_count-held.result c.capacity-slots.result (omega arith))
