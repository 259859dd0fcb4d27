-- `first::first_in_queue` meets its contract: the goals that the check does not find by itself. Assumes nothing.
use Rattle.std.proofs.Common.{◌≡◌, sym, ◌∙◌, Bool, true, false, ◌≢◌, ℕ, ◌+◌, ◌<◌, arith, eqb-true, eqb, length}
use borrow.Author.Tests.{eqb-false}
use Rattle.queue.specs.HeldWords.{inside-at}
use Rattle.first.proofs.Searching.{Reading, found-from-first, output-lt, line-none, line_refused, line-found, lines_none, queue-none}
use Rattle.first.proofs.first_in_queue.Goals as goal
use Rattle.first.proofs.first_in_queue.Goals.{After-queue_start-start, After-routes-outputs, then-applies+else-may_flow, else-applies}

-- a test that says whether a rule's number is 0
passed : (said : Bool) (number : ℕ) → said ≡ eqb number 0 → said ≡ true → number ≡ 0
passed said number e t = eqb-true number 0 (sym e ∙ t)

failed : (said : Bool) (number : ℕ) → said ≡ eqb number 0 → said ≡ false → number ≢ 0
failed said number e t = eqb-false number 0 (sym e ∙ t)

-- the two words of the queue are among those lent
two-words : (c : After-queue_start-start) → c.queue_start-start.result + 1 < length c.args.words.now
two-words c =
    let a = c.args in
    inside-at a.s a.words.now a.n a.q c.requires.queue_of c.queue_start-start.result c.queue_start-start.ensures

-- what was read of the queue
reading : (c : After-routes-outputs)
    → Reading c.args.s c.args.words.now c.args.n c.args.q c.queue_start-start.result c.routes-outputs.result
reading c =
    record { queue = c.requires.queue_of; at = c.queue_start-start.ensures; some = c.if-words-start-eq0.false; each = c.routes-outputs.ensures.each; these = c.routes-outputs.ensures.these }

pub offset_bounds-words-start : goal.offset_bounds-words-start
offset_bounds-words-start c = omega (arith, two-words (goal.at.offset_bounds-words-start c).After-queue_start-start, c.well_formed)

pub bounds-words-start : goal.bounds-words-start
bounds-words-start c = omega (arith, two-words (goal.at.bounds-words-start c).After-queue_start-start)

pub returns-then-words-start-eq0 : goal.returns-then-words-start-eq0
returns-then-words-start-eq0 c =
    let a = c.args in
    sym (queue-none a.s a.words.now a.n a.q c.queue_start-start.result c.requires.queue_of c.queue_start-start.ensures c.if-words-start-eq0.true)

pub bounds-words-start-2 : goal.bounds-words-start-2
bounds-words-start-2 c = two-words (goal.at.bounds-words-start-2 c).After-queue_start-start

pub loop-k-init : goal.loop-k-init
loop-k-init c = found-from-first (reading (goal.at.loop-k-init c).After-routes-outputs)

pub may_flow-requires-clause-queue_of : goal.may_flow-requires-clause-queue_of
may_flow-requires-clause-queue_of c =
    let k = reading (goal.at.may_flow-requires-clause-queue_of c).After-routes-outputs in
    record {
      network = k.queue.network;
      node = k.queue.node;
      queue = output-lt k c.loop-k.k c.loop-k-test.true (sym c.applies.ensures ∙ c.if-applies.true);
    }

pub returns-then-may_flow : goal.returns-then-may_flow
returns-then-may_flow c =
    sym
    (line-found (reading (goal.at.returns-then-may_flow c).After-routes-outputs) c.loop-k.k c.loop-k-test.true (sym c.applies.ensures ∙ c.if-applies.true)
    (passed _ _ c.may_flow.ensures c.if-may_flow.true) c.loop-k.invariant)

pub loop-k-preserved : goal.loop-k-preserved
loop-k-preserved c =
    let k = reading (goal.at.loop-k-preserved c).After-routes-outputs in
    elim c.if-applies.branch [
      | then-applies+else-may_flow w ↦
          line_refused k c.loop-k.k c.loop-k-test.true (sym c.applies.ensures ∙ w.if-applies.true) (failed _ _ w.may_flow.ensures w.if-may_flow.false) c.loop-k.invariant
      | else-applies w ↦ line-none k c.loop-k.k c.loop-k-test.true (sym c.applies.ensures ∙ w.if-applies.false) c.loop-k.invariant
    ]

pub returns : goal.returns
returns c = sym (lines_none (reading (goal.at.returns c).After-routes-outputs) c.loop-k.k (omega (arith, c.loop-k.auto)) c.loop-k-test.false c.loop-k.invariant)
