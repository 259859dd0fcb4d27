-- `ring_check::group_room` meets its contract: the goals that the check does not find by itself. Assumes nothing.
use Rattle.std.proofs.Common.{◌∙◌, ◌+◌, ◌*◌, ◌<◌, length, refl, arith, rules, tests}
use Rattle.std.proofs.lemmas.Iterator.{YieldsList-from_range, serves_from_Range}
use Rattle.std.proofs.lemmas.Iterator.Search.{all_from_yields_List}
use Rattle.ring_check.specs.RingLines.{RingsIn, ring_room, group_room}
use Rattle.ring_check.proofs.RingWalks.{all-range, next-inside, rings-at}
use Rattle.ring_check.proofs.group_room.Goals as goal

pub all-requires-clause-callable : goal.all-requires-clause-callable
all-requires-clause-callable c =
    serves_from_Range (λ x q k. search (rules, tests))
    (λ x l h.
    let n = next-inside c.requires.rings x h in
    let p : c.args.first + x * c.args.r.node < length c.args.words.now = omega (arith, c.requires) in
    let q : RingsIn c.args.words.now c.args.r (c.args.first + x * c.args.r.node) c.args.r.group c.args.r.step = rings-at c.requires (omega (arith, c.requires)) in
    search rules)

pub returns : goal.returns
unfolding group_room
returns c =
    all_from_yields_List (λ b. ring_room c.args.words.now c.args.r (c.args.first + b * c.args.r.node)) _ _ _ c.all.ensures.ran
    (YieldsList-from_range 0 c.args.r.rings c.args.r.rings refl (omega arith)) (λ x b q k. search (rules, tests))
    ∙ all-range _ _
