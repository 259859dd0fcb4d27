-- `queue_check::node_fits` meets its contract: the goals that the check does not find by itself. Assumes nothing.
use Rattle.std.specs.Prelude.{Option}
use Rattle.std.proofs.Common.{◌≡◌, ap, sym, subst, ◌∙◌, List, ℕ, ◌+◌, ◌≤◌, arith, length}
use Rattle.base.specs.Parts.{span}
use Rattle.network.specs.Sizes.{shape_of, capacity, largest_capacity}
use Rattle.network.specs.Layout.{queue_part}
use Rattle.torus.specs.GeometryLaws.{place-node}
use Rattle.torus.specs.Geometry.{node_at}
use Rattle.network.specs.declared.Sizes.{Sizes}
use Rattle.torus.specs.declared.Place.{Place}
use Rattle.queue_check.specs.declared.Tally.{Tally}
use Rattle.queue_check.specs.QueueTally.{tally}
use Rattle.queue_check.proofs.Walks.{node_packets, node_work, NodeWalk, node-start, node_end, node-part, node-tally, node-more, node-small, node-stop, node_done, part_length, part_small, part_end, fits, holds, works}
use Rattle.queue_check.proofs.node_fits.Goals as goal
use Rattle.queue_check.proofs.node_fits.Goals.{After-capacity, After-queue_fits, In_ok-t}

pub loop-q-init : goal.loop-q-init
loop-q-init c = node-start _ _ _ _ c.requires.2

-- the words of queue q, and what is known of its tally
abbrev Part : Sizes → List ℕ → Place → ℕ → ℕ → ℕ → Type 0
Part s w place q at end = span w at end ≡ queue_part (shape_of s) w (node_at s place) q

abbrev Found : Sizes → List ℕ → Place → ℕ → Option Tally → Type 0
Found s w place q t =
    t ≡ tally (fits (shape_of s) w (node_at s place) q) (holds (shape_of s) w (node_at s place) q) (works (shape_of s) w (node_at s place) q)

-- its capacity
slots : (c : After-capacity) → c.capacity.result ≡ capacity (shape_of c.args.s) c.loop-q.q
slots c = c.capacity.ensures

-- its words end among the words
ends : (c : After-capacity) → c.loop-q.at + c.capacity.result + 1 ≤ length c.args.words.now
ends c =
    let e = node_end (shape_of c.args.s) c.args.words.now (node_at c.args.s c.args.place) _ _ _ _ c.capacity.result c.loop-q.invariant (slots c) in
    let l = part_end (shape_of c.args.s) c.args.words.now c.requires.1 (node_at c.args.s c.args.place) (place-node c.requires.0) c.loop-q.q c.loop-q-test.true in
    omega arith

pub overflow_add-end : goal.overflow_add-end
overflow_add-end c = omega (arith, ends (goal.at.overflow_add-end c).After-capacity)

pub overflow_add-end-in-loop-q : goal.overflow_add-end-in-loop-q
overflow_add-end-in-loop-q c = omega (arith, ends (goal.at.overflow_add-end-in-loop-q c).After-capacity)

pub offset_bounds-words-at : goal.offset_bounds-words-at
offset_bounds-words-at c = omega (arith, ends (goal.at.offset_bounds-words-at c).After-capacity)

pub slice_bounds-queue_fits-end : goal.slice_bounds-queue_fits-end
slice_bounds-queue_fits-end c = omega (arith, ends (goal.at.slice_bounds-queue_fits-end c).After-capacity)

part : (c : After-capacity)
    → Part c.args.s c.args.words.now c.args.place c.loop-q.q c.loop-q.at (c.loop-q.at + c.capacity.result + 1)
part c = node-part _ _ _ _ _ _ _ c.capacity.result c.loop-q.invariant (slots c)

pub queue_fits-requires : goal.queue_fits-requires
queue_fits-requires c =
    let q = c.loop-q.q in
    let h = c.loop-q-test.true in (
      c.requires.0,
      h,
      ap length (part (goal.at.queue_fits-requires c).After-capacity) ∙ part_length (shape_of c.args.s) c.args.words.now c.requires.1 (node_at c.args.s c.args.place) (place-node c.requires.0) q h,
      subst (λ (l : List ℕ). length l ≤ largest_capacity + 1) (sym (part (goal.at.queue_fits-requires c).After-capacity)) (part_small (shape_of c.args.s) c.args.words.now c.requires.1 (node_at c.args.s c.args.place) (place-node c.requires.0) q h),
      c.requires.3,
    )

found : (c : After-queue_fits) → Found c.args.s c.args.words.now c.args.place c.loop-q.q c.queue_fits.result
found c = node-tally _ _ _ _ _ _ (node-part _ _ _ _ _ _ _ c.capacity.result c.loop-q.invariant c.capacity.ensures) c.queue_fits.ensures

pub returns-in_err-t : goal.returns-in_err-t
returns-in_err-t c =
    c.from_residual.ensures ∙ node-stop _ _ _ _ (sym c.in_err-t.was ∙ found (goal.at.returns-in_err-t c).After-queue_fits) c.loop-q-test.true

-- the walk goes on, and its sums are small
module _ (c : In_ok-t) where
  next : NodeWalk (shape_of c.args.s) c.args.words.now (node_at c.args.s c.args.place) (c.loop-q.q + 1)
      (c.loop-q.at + c.capacity.result + 1)
      (c.loop-q.held + c.in_ok-t.t.held)
      (c.loop-q.work + c.in_ok-t.t.work)
  next =
      node-more _ _ _ _ _ _ _ c.capacity.result c.in_ok-t.t c.loop-q.invariant c.capacity.ensures
      (node-tally _ _ _ _ _ _ (node-part _ _ _ _ _ _ _ c.capacity.result c.loop-q.invariant c.capacity.ensures) c.in_ok-t.ensures)
      c.loop-q-test.true

  small : (c.loop-q.held + c.in_ok-t.t.held ≤ node_packets) × (c.loop-q.work + c.in_ok-t.t.work ≤ node_work)
  small = node-small _ _ _ c.requires.1 (place-node c.requires.0) _ _ _ _ next

pub overflow_add-held : goal.overflow_add-held
overflow_add-held c = omega (arith, small (goal.at.overflow_add-held c).In_ok-t)

pub overflow_add-work : goal.overflow_add-work
overflow_add-work c = omega (arith, small (goal.at.overflow_add-work c).In_ok-t)

pub loop-q-preserved : goal.loop-q-preserved
loop-q-preserved c = next (goal.at.loop-q-preserved c).In_ok-t

pub returns : goal.returns
returns c = node_done _ _ _ _ _ _ _ c.loop-q.invariant c.loop-q-test.false
