-- `packet_check::work_if_fits` meets its contract: the goals that the check does not find by itself. Assumes nothing.
use Rattle.std.proofs.Common.{◌≡◌, sym, ◌∙◌, true, ◌+◌, arith, get_or}
use Rattle.network.specs.Sizes.{shape_of}
use Rattle.packet_check.specs.PacketLimits.{spares_clear, below_along}
use Rattle.packet_check.specs.Tables.{first_distance}
use Rattle.packet_check.proofs.Judged.{judged-none, More, judged-more, passes-is, distance_read, Short, short, spare-set, limit-reached, led-elsewhere, work-is}
use Rattle.packet_check.proofs.work_if_fits.Goals as goal
use Rattle.packet_check.proofs.work_if_fits.Goals.{After-moved-node, After-passes, At-loop-i, Else-not-passes}

pub returns-then-not-spares_clear : goal.returns-then-not-spares_clear
returns-then-not-spares_clear c = spare-set c.args.s c.args.place c.args.q c.args.p c.requires.0 (sym c.spares_clear.ensures ∙ c.if-not-spares_clear.true)

pub loop-i-init : goal.loop-i-init
loop-i-init c = judged-none _ _ _ _

clear : (c : At-loop-i) → spares_clear c.args.p ≡ true
clear c = sym c.spares_clear.ensures ∙ c.if-not-spares_clear.false

-- what the test says
along : (c : After-passes)
    → c.passes.result ≡ below_along (shape_of c.args.s) c.args.q c.args.p c.loop-i.i
along c =
    c.passes.ensures ∙ passes-is c.args.s _ _ _ _ c.loop-i-test.true c.above-a.ensures.offset _ c.requires.1 c.requires.0.sizes c.requires.2

pub returns-then-not-passes : goal.returns-then-not-passes
returns-then-not-passes c =
    limit-reached c.args.s c.args.place c.args.q c.args.p c.requires.0 (clear (goal.at.returns-then-not-passes c).At-loop-i) c.loop-i.i c.loop-i-test.true
    (sym (along (goal.at.returns-then-not-passes c).After-passes) ∙ c.if-not-passes.true)

-- the offset passes, and is less than once round
below : (c : Else-not-passes)
    → below_along (shape_of c.args.s) c.args.q c.args.p c.loop-i.i ≡ true
below c =
    sym
    (c.passes.ensures ∙ passes-is c.args.s _ _ _ _ c.loop-i-test.true c.above-a.ensures.offset _ c.requires.1 c.requires.0.sizes c.requires.2)
    ∙ c.if-not-passes.false

once : (c : Else-not-passes)
    → Short c.args.s c.args.q c.args.p
    c.loop-i.i c.above-a.result c.loop-i-test.true c.above-a.ensures.offset
once c = short _ _ _ _ _ _ _ c.requires.0.sizes (below c)

pub moved-node-requires : goal.moved-node-requires
moved-node-requires c =
    let h = c.loop-i-test.true in
    (c.requires.1, c.requires.0.sizes, h, c.requires.0.below _ h, (once (goal.at.moved-node-requires c).Else-not-passes).least, (once (goal.at.moved-node-requires c).Else-not-passes).most)

-- one dimension more
more : (c : After-moved-node)
    → More c.args.s (record { at = c.args.place.at })
    c.args.q c.args.p c.loop-i.i
    (c.loop-i.node + c.moved-node.result)
    (c.loop-i.work + get_or c.args.tables.now (first_distance + c.above-a.result) 0)
more c =
    let passed : below_along (shape_of c.args.s) c.args.q c.args.p c.loop-i.i ≡ true =
    sym
    (c.passes.ensures ∙ passes-is c.args.s _ _ _ _ c.loop-i-test.true c.above-a.ensures.offset _ c.requires.1 c.requires.0.sizes c.requires.2)
    ∙ c.if-not-passes.false in
    let less : Short c.args.s c.args.q c.args.p c.loop-i.i c.above-a.result c.loop-i-test.true c.above-a.ensures.offset =
    short _ _ _ _ _ _ _ c.requires.0.sizes passed in
    judged-more _ _ _ _ c.requires.0 _ _ _ _ _ c.loop-i.invariant c.loop-i-test.true passed
    (c.moved-node.ensures _ _ less.back c.above-a.ensures.offset)
    (distance_read c.args.s c.args.q _ _ _ c.loop-i-test.true c.above-a.ensures.offset _ c.requires.1 c.above-a.ensures.small)

pub overflow_add-node : goal.overflow_add-node
overflow_add-node c = let l = (more (goal.at.overflow_add-node c).After-moved-node).small in omega arith

pub overflow_add-work-in-loop-i : goal.overflow_add-work-in-loop-i
overflow_add-work-in-loop-i c = let l = (more (goal.at.overflow_add-work-in-loop-i c).After-moved-node).few in omega arith

pub loop-i-preserved : goal.loop-i-preserved
loop-i-preserved c = (more (goal.at.loop-i-preserved c).After-moved-node).judged

pub returns-then-destination-node : goal.returns-then-destination-node
returns-then-destination-node c =
    led-elsewhere c.args.s c.args.place c.args.q c.args.p c.requires.0 (clear (goal.at.returns-then-destination-node c).At-loop-i) _ _ _ c.loop-i.invariant c.loop-i-test.false
    (λ e. c.if-destination-node.true (c.destination.ensures ∙ e))

pub returns : goal.returns
returns c =
    work-is c.args.s c.args.place c.args.q c.args.p c.requires.0 (clear (goal.at.returns c).At-loop-i) _ _ _ c.loop-i.invariant c.loop-i-test.false
    (sym c.destination.ensures ∙ c.if-destination-node.false)
