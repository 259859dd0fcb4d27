-- `queue_check::packets_fit` meets its contract: the goals that the check does not find by itself. Assumes nothing.
use Rattle.std.proofs.Common.{◌≡◌, refl, ap, sym, ◌∙◌, Bool, true, ℕ, arith, get_or}
use Rattle.base.specs.Tests.{all_of}
use Rattle.network.specs.Sizes.{shape_of}
use Rattle.network.specs.Packet.{work}
use Rattle.network.specs.Layout.{count_of}
use Rattle.network.specs.Check.{packet_fits}
use Rattle.network.specs.declared.Sizes.{Sizes}
use Rattle.torus.specs.declared.Place.{Place}
use Rattle.torus.specs.Geometry.{node_at}
use Rattle.queue_check.specs.TallyLaws.{tally-fails}
use Rattle.queue_check.proofs.Loads.{behind, behind-few, packets-behind}
use Rattle.queue_check.proofs.Tallies.{left-stop, work_none, work-some, packets-length, packets-more, packets-small, packets-end}
use Rattle.queue_check.proofs.packets_fit.Goals as goal
use Rattle.queue_check.proofs.packets_fit.Goals.{In_ok-work}

abbrev test : Sizes → Place → ℕ → ℕ → Bool
test s place q = packet_fits (shape_of s) (node_at s place) q

pub overflow_add-packets : goal.overflow_add-packets
unfolding count_of
overflow_add-packets c = omega (arith, c.requires.2)

pub slice_bounds-packets-end : goal.slice_bounds-packets-end
unfolding count_of
slice_bounds-packets-end c = omega (arith, c.requires.2)

pub returns-in_err-work : goal.returns-in_err-work
unfolding count_of
returns-in_err-work c =
    c.from_residual.ensures
    ∙ tally-fails _ _ _
    (ap (all_of (test c.args.s c.args.place c.args.q)) (sym (packets-behind c.args.q c.args.part.now c.requires.2 _ refl))
    ∙ left-stop (test c.args.s c.args.place c.args.q) work _ _ _ c.loop-p.invariant c.loop-p-test.true (work_none _ _ c.in_err-work.ensures))

-- the packet has passed, with this work left
abbrev packet : In_ok-work → ℕ
packet c = get_or (behind c.args.q c.args.part.now c.requires.2 (get_or c.args.part.now 0 0)) c.loop-p.p-index 0

passed : (c : In_ok-work) → (test c.args.s c.args.place c.args.q (packet c) ≡ true) × (c.in_ok-work.field-0 ≡ work (packet c))
passed c = work-some _ _ _ c.in_ok-work.ensures

pub overflow_add-work : goal.overflow_add-work
unfolding count_of
overflow_add-work c =
    let b = behind-few c.args.q c.args.part.now c.requires.2 _ refl c.requires.3 in
    let l = packets-small (test c.args.s c.args.place c.args.q) _ _ _ _ c.loop-p.invariant c.loop-p-test.true (passed (goal.at.overflow_add-work c).In_ok-work) b in
    omega arith

pub loop-p-preserved : goal.loop-p-preserved
loop-p-preserved c = packets-more (test c.args.s c.args.place c.args.q) _ _ _ _ c.loop-p.invariant c.loop-p-test.true (passed (goal.at.loop-p-preserved c).In_ok-work)

pub returns : goal.returns
unfolding count_of
returns c =
    packets-end (test c.args.s c.args.place c.args.q) _ _ _ _ _ c.loop-p.invariant c.loop-p-test.false
    (packets-behind c.args.q c.args.part.now c.requires.2 _ refl) (sym (packets-length c.args.part.now c.requires.2))
