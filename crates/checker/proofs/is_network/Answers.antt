-- `checker::is_network` meets its contract. Assumes nothing.
use Rattle.std.proofs.Common.{le-leb, ◌≡◌, sym, ◌∙◌, ◌&&◌, List, ℕ, arith, length}
use Rattle.base.proofs.Tests.{T_true}
use Rattle.base.proofs.Bools.{and-stop, and-on}
use Rattle.network.specs.Sizes.{Shape, shape_of, sizes_in_range}
use Rattle.network.specs.Layout.{need}
use Rattle.network.specs.Check.{queues_fit, packets_held, work_left, rings_have_room, counters_fit, is_network}
use Rattle.queue.specs.Queue.{EnoughWords}
use Rattle.queue_check.specs.TallyLaws.{Passed, tally-yes, tally-no}
use Rattle.checker.proofs.is_network.Goals as goal
use Rattle.checker.proofs.is_network.Goals.{In-Some}

-- the clauses that are left
left : (S : Shape) (w : List ℕ) → EnoughWords S w → is_network S w ≡ queues_fit S w && (rings_have_room S w && counters_fit S w)
unfolding is_network
left S w enough = and-on _ _ (T_true (sizes_in_range S) enough.sizes) ∙ and-on _ _ (le-leb (need S) (length w) enough.long)

pub returns-in_default : goal.returns-in_default
returns-in_default c = sym (left _ _ c.requires ∙ and-stop _ _ (tally-no _ _ _ c.in_default.ensures))

fitting : (c : In-Some)
    → Passed c.in-Some.t
    (queues_fit (shape_of c.args.s) c.args.words.now)
    (packets_held (shape_of c.args.s) c.args.words.now)
    (work_left (shape_of c.args.s) c.args.words.now)
fitting c = tally-yes _ _ _ _ c.in-Some.ensures

pub returns-then-not-rings_have_room : goal.returns-then-not-rings_have_room
returns-then-not-rings_have_room c =
    sym
    (left _ _ c.requires
    ∙ and-on _ _ (fitting (goal.at.returns-then-not-rings_have_room c).In-Some).fits
    ∙ and-stop _ _ (sym c.rings_have_room.ensures ∙ c.if-not-rings_have_room.true))

pub counters_fit-requires : goal.counters_fit-requires
unfolding need
counters_fit-requires c = let l = c.requires.long in omega arith

pub returns : goal.returns
returns c =
    let f = fitting (goal.at.returns c).In-Some in
    c.counters_fit.ensures _ f.packets f.hops-left
    ∙ sym
    (left _ _ c.requires
    ∙ and-on _ _ f.fits
    ∙ and-on _ _ (sym c.rings_have_room.ensures ∙ c.if-not-rings_have_room.false))
