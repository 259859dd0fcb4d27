-- `ready::next_move` meets its contract: the goals that the check does not find by itself. Assumes nothing.
use Rattle.std.specs.Prelude.{Some}
use Rattle.std.proofs.Common.{refl, sym, subst, ◌∙◌}
use Rattle.headset.specs.Set.{LowestMember}
use Rattle.network.specs.Sizes.{shape_of}
use Rattle.network.proofs.TorusLaws.{sizes-nodes}
use Rattle.ready.specs.ReadyHeads.{lowest-first, lowest-none, move_some}
use Rattle.ready.proofs.next_move.Goals as goal

-- the lowest head's move is First's
pub returns-in-Some-first_in_queue-clause-answer : goal.returns-in-Some-first_in_queue-clause-answer
returns-in-Some-first_in_queue-clause-answer c =
    let at = c.loop-head in
    let lowest = subst (LowestMember at.ready) c.in-Some.is at.invariant.1 in
    sym
    (lowest-first (shape_of c.args.s) c.args.words.now at.ready c.in-Some.h (Some c.in-Some-first_in_queue.found) at.invariant.0 lowest
    (sym c.first_in_queue.ensures ∙ c.in-Some-first_in_queue.is) (move_some _ _ refl))

-- no head is left
pub returns-clause-answer : goal.returns-clause-answer
returns-clause-answer c =
    let at = c.loop-head in
    sym
    (lowest-none (shape_of c.args.s) c.args.words.now at.ready at.invariant.0 (subst (LowestMember at.ready) c.in_default.is at.invariant.1)
    (sizes-nodes c.args.s c.requires.network.in-range))
