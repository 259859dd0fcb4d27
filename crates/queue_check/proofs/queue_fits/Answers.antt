-- `queue_check::queue_fits` meets its contract. Assumes nothing.
use Rattle.std.proofs.Common.{◌≡◌, ap, sym, ◌∙◌, true, ℕ, ◌+◌, arith, eqb, drop}
use Rattle.base.specs.Tests.{all_of}
use Rattle.network.specs.Sizes.{Shape, shape_of}
use Rattle.network.specs.Layout.{count_of, queue_length}
use Rattle.torus.specs.Geometry.{node_at}
use Rattle.queue_check.specs.TallyLaws.{tally-fails, tally-same}
use Rattle.queue_check.proofs.QueueParts.{part-over, part-used, part-heavy, part-packets, part-empty, rest_all}
use Rattle.queue_check.proofs.queue_fits.Goals as goal
use Rattle.queue_check.proofs.queue_fits.Goals.{After-all_zero, Else-not-all_zero, Start}

abbrev S : Start → Shape
S st = shape_of st.args.s

abbrev n : Start → ℕ
n st = node_at st.args.s st.args.place

pub bounds-part-0 : goal.bounds-part-0
unfolding queue_length
bounds-part-0 c = let l = c.requires.2 in omega arith

pub returns-then-part-count : goal.returns-then-part-count
unfolding count_of
returns-then-part-count c = tally-fails _ _ _ (part-over (S (goal.at.returns-then-part-count c).Start) (n (goal.at.returns-then-part-count c).Start) c.args.q c.args.part.now c.requires.2 c.if-part-count.true)

-- what the test of the unused words says
looked : (c : After-all_zero) → c.all_zero.result ≡ all_of (eqb 0) (drop (count_of c.args.part.now + 1) c.args.part.now)
unfolding count_of
looked c = c.all_zero.ensures ∙ ap (all_of (eqb 0)) (rest_all _ c.args.part.now)

pub returns-then-not-all_zero : goal.returns-then-not-all_zero
unfolding count_of
returns-then-not-all_zero c =
    tally-fails _ _ _
    (part-used (S (goal.at.returns-then-not-all_zero c).Start) (n (goal.at.returns-then-not-all_zero c).Start) c.args.q c.args.part.now c.requires.2 c.if-part-count.false
    (sym (looked (goal.at.returns-then-not-all_zero c).After-all_zero) ∙ c.if-not-all_zero.true))

-- they are 0
zeros : (c : Else-not-all_zero) → all_of (eqb 0) (drop (count_of c.args.part.now + 1) c.args.part.now) ≡ true
unfolding count_of looked
zeros c = sym (c.all_zero.ensures ∙ ap (all_of (eqb 0)) (rest_all _ c.args.part.now)) ∙ c.if-not-all_zero.false

pub returns-then-count-eq0 : goal.returns-then-count-eq0
unfolding count_of
returns-then-count-eq0 c = part-empty (S (goal.at.returns-then-count-eq0 c).Start) (n (goal.at.returns-then-count-eq0 c).Start) c.args.q c.args.part.now c.requires.2 c.if-count-eq0.true c.if-part-count.false (zeros (goal.at.returns-then-count-eq0 c).Else-not-all_zero)

pub load_fits-requires : goal.load_fits-requires
unfolding count_of
load_fits-requires c = (c.if-part-count.false, c.requires.3)

pub returns-then-not-load_fits : goal.returns-then-not-load_fits
unfolding count_of
returns-then-not-load_fits c =
    tally-fails _ _ _
    (part-heavy (S (goal.at.returns-then-not-load_fits c).Start) (n (goal.at.returns-then-not-load_fits c).Start) c.args.q c.args.part.now c.requires.2 c.if-part-count.false (zeros (goal.at.returns-then-not-load_fits c).Else-not-all_zero)
    (sym c.load_fits.ensures ∙ c.if-not-load_fits.true))

pub packets_fit-requires : goal.packets_fit-requires
unfolding count_of
packets_fit-requires c = (c.requires.0, c.requires.1, c.if-part-count.false, c.requires.3, c.requires.4)

pub returns : goal.returns
unfolding count_of
returns c =
    tally-same _ _ _ _ _ c.packets_fit.ensures
    (part-packets (S (goal.at.returns c).Start) (n (goal.at.returns c).Start) c.args.q c.args.part.now c.requires.2 c.if-part-count.false (zeros (goal.at.returns c).Else-not-all_zero)
    (sym c.load_fits.ensures ∙ c.if-not-load_fits.false))
