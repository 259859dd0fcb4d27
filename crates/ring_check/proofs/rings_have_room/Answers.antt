-- `ring_check::rings_have_room` meets its contract: the goal that the check does not find by itself. Assumes nothing.
use Rattle.std.proofs.Common.{refl, ◌∙◌, Bool, List, ℕ, rules, tests}
use Rattle.std.proofs.lemmas.Iterator.{YieldsList-from_range}
use Rattle.std.proofs.lemmas.Iterator.Search.{all_from_yields_List}
use Rattle.base.specs.Tests.{all_below}
use Rattle.network.specs.Sizes.{Shape, shape_of, directions, nodes}
use Rattle.network.specs.Check.{ring_has_room, rings_have_room}
use Rattle.ring_check.proofs.RingWalks.{all-range}
use Rattle.ring_check.proofs.rings_have_room.Goals as goal

-- the rings of one direction have room
abbrev rooms : Shape → List ℕ → ℕ → Bool
rooms S w d = all_below (nodes S) (λ n. ring_has_room S w d n)

pub returns : goal.returns
unfolding rings_have_room
returns c =
    all_from_yields_List (rooms (shape_of c.args.s) c.args.words.now) _ _ _ c.all.ensures.ran (YieldsList-from_range 0 directions directions refl refl)
    (λ x b q k. search (rules, tests))
    ∙ all-range (rooms (shape_of c.args.s) c.args.words.now) directions
