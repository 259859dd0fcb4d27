-- `queue_check::load_fits` meets its contract. Assumes nothing.
use Rattle.std.proofs.Common.{refl, sym, ◌∙◌, arith}
use Rattle.network.specs.Layout.{count_of}
use Rattle.queue_check.proofs.Loads.{slots-fit, chunks_fit}
use Rattle.queue_check.proofs.load_fits.Goals as goal

pub returns-then-not-is_adaptive : goal.returns-then-not-is_adaptive
returns-then-not-is_adaptive c = slots-fit c.args.q c.args.part.now c.requires.0 (sym c.is_adaptive.ensures ∙ c.if-not-is_adaptive.true)

pub overflow_add-count : goal.overflow_add-count
unfolding count_of
overflow_add-count c = omega (arith, c.requires.0)

pub slice_bounds-chunks_of-end : goal.slice_bounds-chunks_of-end
unfolding count_of
slice_bounds-chunks_of-end c = omega (arith, c.requires.0)

pub returns : goal.returns
unfolding count_of
returns c =
    chunks_fit c.args.q c.args.part.now c.requires.0 (sym c.is_adaptive.ensures ∙ c.if-not-is_adaptive.false)
    _ c.chunks_of.result refl c.chunks_of.ensures
