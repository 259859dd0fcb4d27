-- `near::fill_node` meets its contract: the goals that the check does not find by itself. Assumes nothing.
use Rattle.std.proofs.Common.{◌≡◌, ap, subst, ◌∙◌, ℕ, ◌<◌, get_or}
use Rattle.network.specs.Sizes.{shape_of, directions, dimension_of, nodes}
use Rattle.network.proofs.PacketLaws.{dimension-lt}
use Rattle.network.specs.Torus.{coordinate}
use Rattle.torus.specs.GeometryLaws.{place-node, place-coordinate}
use Rattle.near.proofs.fill_node.Goals as goal
use Rattle.near.proofs.fill_node.Goals.{Start}

is-node : (c : Start) → c.args.n < nodes (shape_of c.args.s)
is-node c = subst (λ (k : ℕ). k < nodes (shape_of c.args.s)) c.requires.1 (place-node c.requires.0)

coordinate-at : (c : Start) (d : ℕ) → d < directions
    → get_or c.args.place.at (dimension_of d) 0 ≡ coordinate (shape_of c.args.s) (dimension_of d) c.args.n
coordinate-at c d h = place-coordinate c.requires.0 (dimension_of d) (dimension-lt d h) ∙ ap (coordinate (shape_of c.args.s) (dimension_of d)) c.requires.1

pub fill_entry-requires-clause-t : goal.fill_entry-requires-clause-t
fill_entry-requires-clause-t c =
    let h = c.loop-d-test.true in
    let s = (goal.at.fill_entry-requires-clause-t c).Start in
    (c.requires.0.sizes, h, is-node s, coordinate-at s c.loop-d.d h)
