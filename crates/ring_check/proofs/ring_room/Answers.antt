-- `ring_check::ring_room` meets its contract: the goals that the check does not find by itself. Assumes nothing.
use Rattle.std.proofs.Common.{◌∙◌, ◌+◌, ◌*◌, ◌<◌, length, refl, arith, ltb, get_or, rules, tests}
use Rattle.std.proofs.lemmas.Iterator.{YieldsList-from_range, serves_from_Range}
use Rattle.std.proofs.lemmas.Iterator.Search.{any_from_yields_List}
use Rattle.ring_check.specs.RingLines.{ring_room}
use Rattle.ring_check.proofs.RingWalks.{some-range, next-inside}
use Rattle.ring_check.proofs.ring_room.Goals as goal

-- the place is among the words
pub any-requires-clause-callable : goal.any-requires-clause-callable
any-requires-clause-callable c =
    serves_from_Range (λ x q k. search (rules, tests))
    (λ x l h.
    let n = next-inside c.requires.ring x h in
    let p : c.args.first + x * c.args.r.step < length c.args.words.now = omega (arith, c.requires) in
    search rules)

pub returns : goal.returns
unfolding ring_room
returns c =
    any_from_yields_List (λ j. ltb (get_or c.args.words.now (c.args.first + j * c.args.r.step) 0) c.args.r.slots) _ _ _ c.any.ensures.ran
    (YieldsList-from_range 0 c.args.r.nodes c.args.r.nodes refl (omega arith)) (λ x b q k. search (rules, tests))
    ∙ some-range _ _
