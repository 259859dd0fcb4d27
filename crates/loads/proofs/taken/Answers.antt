-- `loads::taken` meets its contract: the goals that the check does not find by itself. Assumes nothing.
use Rattle.std.proofs.Common.{sym, ◌∙◌, arith}
use Rattle.network.specs.Sizes.{shape_of}
use Rattle.network.proofs.TorusLaws.{sizes-nodes}
use Rattle.network.proofs.LayoutLaws.{taken-length}
use Rattle.loads.proofs.taken.Goals as goal

pub returns-then-not-is_adaptive : goal.returns-then-not-is_adaptive
returns-then-not-is_adaptive c =
    let a = c.args in
    c.held_count.ensures
    ∙ sym (taken-length (shape_of a.s) a.words.now a.n a.q (sym c.is_adaptive.ensures ∙ c.if-not-is_adaptive.true))

pub entry-at-requires : goal.entry-at-requires
entry-at-requires c =
    let k = c.requires.queue_of in
    let h = k.node in
    (omega (arith, h, sizes-nodes c.args.s k.network.in-range), sym c.is_adaptive.ensures ∙ c.if-not-is_adaptive.false)
