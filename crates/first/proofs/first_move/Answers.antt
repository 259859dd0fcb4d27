-- `first::first_move` meets its contract: the goals that the check does not find by itself. Assumes nothing.
use Rattle.std.specs.Prelude.{None}
use Rattle.std.proofs.Common.{◌≡◌, sym, ◌∙◌, List, ℕ, ◌+◌, ◌<◌, ◌≤◌, arith, length}
use Rattle.network.specs.Sizes.{shape_of, nodes, queues}
use Rattle.network.specs.declared.Sizes.{Sizes}
use Rattle.network.specs.CheckLaws.{Network}
use Rattle.network.specs.Layout.{accepted, delivered}
use Rattle.network.specs.Calls.{first_in_queue}
use Rattle.queue.specs.QueueOf.{QueueOf}
use Rattle.network.proofs.LayoutLaws.{header-long}
use Rattle.queue.specs.HeldWords.{inside-at}
use Rattle.network.proofs.RefusalLaws.{ok-number, err-number}
use Rattle.first.proofs.Searching.{Reading, found-from-first, output-lt, line-none, line_refused, line-found, lines_none, end-at, queue-none, queues-begin, queue-next, queue-found, nodes-begin, node-next, node-found, nodes-none, nothing-held}
use Rattle.first.proofs.first_move.Goals as goal
use Rattle.first.proofs.first_move.Goals.{After-capacity-slots, After-routes-outputs, In-loop-n, In-loop-q, Joined-words-start-ne0, then-applies+else-is_ok, else-applies, then-words-start-ne0+else-loop-k-test, else-words-start-ne0}

node-lt : (c : In-loop-n) → c.loop-n.n < nodes (shape_of c.args.s)
node-lt c = let e = c.nodes-total.ensures in omega (arith, e, c.loop-n-test.true)

-- the queue of a turn
queue-of : (s : Sizes) (w : List ℕ) (n q total : ℕ) → Network (shape_of s) w → total ≡ nodes (shape_of s) → n < total → q < queues → QueueOf (shape_of s) w n q
queue-of s w n q total N e h k = record { network = N; node = omega arith; queue = k }

reading : (c : After-routes-outputs)
    → Reading c.args.s c.args.words.now c.loop-n.n c.loop-q.q c.loop-q.start c.routes-outputs.result
reading c =
    record { queue = queue-of _ _ _ _ c.nodes-total.result c.requires c.nodes-total.ensures c.loop-n-test.true c.loop-q-test.true; at = c.loop-q.invariant.place; some = c.if-words-start-ne0.true; each = c.routes-outputs.ensures.each; these = c.routes-outputs.ensures.these }

-- the two words of the queue are among those lent
two-words : (c : In-loop-q) → c.loop-q.start + 1 < length c.args.words.now
two-words c =
    let a = c.args in
    inside-at a.s a.words.now c.loop-n.n c.loop-q.q (queue-of _ _ _ _ c.nodes-total.result c.requires c.nodes-total.ensures c.loop-n-test.true c.loop-q-test.true) c.loop-q.start c.loop-q.invariant.place

-- Nothing held ------------------------------------------------------------------------------------------------------------------------
pub bounds-words-6 : goal.bounds-words-6
bounds-words-6 c =
    let l = header-long (shape_of c.args.s) c.args.words.now c.requires.long in
    omega arith

pub bounds-words-7 : goal.bounds-words-7
bounds-words-7 c =
    let l = header-long (shape_of c.args.s) c.args.words.now c.requires.long in
    omega arith

pub returns-then-words : goal.returns-then-words
unfolding accepted delivered
returns-then-words c = sym (nothing-held (shape_of c.args.s) c.args.words.now c.requires c.if-words.true)

-- The search begins -------------------------------------------------------------------------------------------------------------------
pub loop-n-init : goal.loop-n-init
loop-n-init c = nodes-begin

pub loop-q-init : goal.loop-q-init
loop-q-init c = queues-begin c.loop-n.invariant.place

pub offset_bounds-words-start : goal.offset_bounds-words-start
offset_bounds-words-start c = omega (arith, two-words (goal.at.offset_bounds-words-start c).In-loop-q, c.well_formed)

pub bounds-words-start : goal.bounds-words-start
bounds-words-start c = omega (arith, two-words (goal.at.bounds-words-start c).In-loop-q)

pub bounds-words-start-then-words-start-ne0 : goal.bounds-words-start-then-words-start-ne0
bounds-words-start-then-words-start-ne0 c = two-words (goal.at.bounds-words-start-then-words-start-ne0 c).In-loop-q

-- The lines of a head's routes ---------------------------------------------------------------------------------------------------------
pub loop-k-init : goal.loop-k-init
loop-k-init c = found-from-first (reading (goal.at.loop-k-init c).After-routes-outputs)

pub flow_rules-requires : goal.flow_rules-requires
flow_rules-requires c =
    let k = reading (goal.at.flow_rules-requires c).After-routes-outputs in
    record {
      network = k.queue.network;
      node = k.queue.node;
      queue = output-lt k c.loop-k.k c.loop-k-test.true (sym c.applies.ensures ∙ c.if-applies.true);
    }

pub loop-k-preserved : goal.loop-k-preserved
loop-k-preserved c =
    let k = reading (goal.at.loop-k-preserved c).After-routes-outputs in
    elim c.if-applies.branch [
      | then-applies+else-is_ok w ↦
          line_refused k c.loop-k.k c.loop-k-test.true (sym c.applies.ensures ∙ w.if-applies.true)
          (λ z. err-number _ (sym w.is_ok.ensures.value ∙ w.if-is_ok.false) (w.flow_rules.ensures ∙ z)) c.loop-k.invariant
      | else-applies w ↦ line-none k c.loop-k.k c.loop-k-test.true (sym c.applies.ensures ∙ w.if-applies.false) c.loop-k.invariant
    ]

-- A node's queues ---------------------------------------------------------------------------------------------------------------------
nothing-in-queue : (c : Joined-words-start-ne0) → first_in_queue (shape_of c.args.s) c.args.words.now c.loop-n.n c.loop-q.q ≡ None
nothing-in-queue c =
    let a = c.args in
    let queue : QueueOf (shape_of a.s) a.words.now c.loop-n.n c.loop-q.q = queue-of _ _ _ _ c.nodes-total.result c.requires c.nodes-total.ensures c.loop-n-test.true c.loop-q-test.true in
    elim c.if-words-start-ne0.branch [
      | then-words-start-ne0+else-loop-k-test w ↦ (
          let k : Reading c.args.s c.args.words.now c.loop-n.n c.loop-q.q c.loop-q.start w.routes-outputs.result =
          record { queue = queue; at = c.loop-q.invariant.place; some = w.if-words-start-ne0.true; each = w.routes-outputs.ensures.each; these = w.routes-outputs.ensures.these } in
          lines_none k w.loop-k.k (omega (arith, w.loop-k.auto)) w.loop-k-test.false w.loop-k.invariant)
      | else-words-start-ne0 w ↦ queue-none a.s a.words.now c.loop-n.n c.loop-q.q c.loop-q.start queue c.loop-q.invariant.place w.if-words-start-ne0.false
    ]

-- where the next queue's words start is among the words too, or just behind them
next_start : (c : After-capacity-slots)
    → c.loop-q.start + (1 + c.capacity-slots.result) ≤ length c.args.words.now
next_start c =
    let a = c.args in
    end-at a.s a.words.now c.loop-n.n c.loop-q.q (queue-of _ _ _ _ c.nodes-total.result c.requires c.nodes-total.ensures c.loop-n-test.true c.loop-q-test.true) c.loop-q.start c.capacity-slots.result c.loop-q.invariant.place c.capacity-slots.ensures

pub overflow_add-start : goal.overflow_add-start
overflow_add-start c = omega (arith, next_start (goal.at.overflow_add-start c).After-capacity-slots, c.well_formed)

pub overflow_add-start-in-loop-q : goal.overflow_add-start-in-loop-q
overflow_add-start-in-loop-q c = omega (arith, next_start (goal.at.overflow_add-start-in-loop-q c).After-capacity-slots, c.well_formed)

pub loop-q-preserved : goal.loop-q-preserved
loop-q-preserved c =
    let a = c.args in
    let none = nothing-in-queue (goal.at.loop-q-preserved c).Joined-words-start-ne0 in
    queue-next c.loop-q.invariant c.loop-q-test.true c.capacity-slots.ensures none

-- The nodes ---------------------------------------------------------------------------------------------------------------------------
pub loop-n-preserved : goal.loop-n-preserved
loop-n-preserved c = node-next c.loop-n.invariant (node-lt (goal.at.loop-n-preserved c).In-loop-n) c.loop-q.invariant (omega (arith, c.loop-q.auto)) c.loop-q-test.false

-- The two answers ---------------------------------------------------------------------------------------------------------------------
pub returns-then-is_ok : goal.returns-then-is_ok
returns-then-is_ok c =
    let e = c.nodes-total.ensures in
    let k = reading (goal.at.returns-then-is_ok c).After-routes-outputs in
    sym
    (node-found c.loop-n.invariant (omega (arith, e, c.loop-n-test.true))
    (queue-found c.loop-q.invariant c.loop-q-test.true
    (line-found k c.loop-k.k c.loop-k-test.true (sym c.applies.ensures ∙ c.if-applies.true)
    (sym c.flow_rules.ensures ∙ ok-number _ (sym c.is_ok.ensures.value ∙ c.if-is_ok.true)) c.loop-k.invariant)))

pub returns-after-loop-n : goal.returns-after-loop-n
returns-after-loop-n c = let e = c.nodes-total.ensures in sym (nodes-none c.loop-n.invariant (omega (arith, e, c.loop-n-test.false)))
