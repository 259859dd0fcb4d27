-- `ring_check::groups_room` meets its contract: the goals that the check does not find by itself. Assumes nothing.
use Rattle.std.proofs.Common.{◌∙◌, ◌+◌, ◌*◌, ◌<◌, length, refl, arith, rules, tests}
use Rattle.std.proofs.lemmas.Iterator.{YieldsList-from_range, serves_from_Range}
use Rattle.std.proofs.lemmas.Iterator.Search.{all_from_yields_List}
use Rattle.ring_check.specs.RingLines.{RingsIn, group_room, groups_room}
use Rattle.ring_check.proofs.RingWalks.{all-range, next-inside, rings-at}
use Rattle.ring_check.proofs.groups_room.Goals as goal

pub all-requires-clause-callable : goal.all-requires-clause-callable
all-requires-clause-callable c =
    serves_from_Range (λ x q k. search (rules, tests))
    (λ x l h.
    let n = next-inside c.requires.groups x h in
    let p : c.args.first + x * c.args.r.group < length c.args.words.now = omega (arith, c.requires) in
    let q : RingsIn c.args.words.now c.args.r (c.args.first + x * c.args.r.group) c.args.r.group c.args.r.node = rings-at c.requires (omega (arith, c.requires)) in
    search rules)

pub returns : goal.returns
unfolding groups_room
returns c =
    all_from_yields_List (λ a. group_room c.args.words.now c.args.r (c.args.first + a * c.args.r.group)) _ _ _ c.all.ensures.ran
    (YieldsList-from_range 0 c.args.r.groups c.args.r.groups refl (omega arith)) (λ x b q k. search (rules, tests))
    ∙ all-range _ _
