-- `flow::may_flow` meets its contract: what is taken of the target and what the move needs are together no more than its capacity exactly when as much is
-- free as the move needs. Assumes nothing.
use Rattle.std.proofs.Common.{◌≡◌, refl, sym, ◌∙◌, true, false, List, ◌≢◌, ℕ, ◌+◌, ◌-◌, ◌<◌, ◌≤◌, arith, eq-eqb, ne_eqb, le-leb, leb, eqb}
use native.Mathlib.Decide.{dec_le}
use borrow.Author.Tests.{lt-leb}
use Rattle.network.specs.Sizes.{shape_of, capacity, most_chunks, largest_capacity}
use Rattle.network.proofs.SizesLaws.{range-of, capacity-most}
use Rattle.network.specs.Layout.{taken}
use Rattle.network.specs.Routes.{target, free_load, load_needed}
use Rattle.network.proofs.RoutesLaws.{target_is, needed-most}
use Rattle.network.specs.Refusals.{flow_rules}
use Rattle.network.proofs.RefusalLaws.{flow-of, flow-by}
use Rattle.network.specs.declared.Sizes.{Sizes}
use Rattle.queue.specs.QueueOf.{QueueOf}
use Rattle.network.proofs.TorusLaws.{sizes-nodes}
use Rattle.queue.specs.HeldWords.{asked}
use Rattle.near.specs.Table.{entry-within}
use Rattle.flow.proofs.Targets.{at_target, target-few, target_free}
use Rattle.flow.proofs.may_flow.Goals as goal
use Rattle.flow.proofs.may_flow.Goals.{After-look_up-there}

-- by the numbers that the code compares
module _ (s : Sizes) (w : List ℕ) (n q o p there slots needed : ℕ) (k : QueueOf (shape_of s) w n o) (et : there ≡ target (shape_of s) n o)
    (es : slots ≡ capacity (shape_of s) o) (en : needed ≡ load_needed q o p) (some : o ≢ 0) where
  rules : ℕ
  rules = flow_rules (shape_of s) w n q o p

  load : ℕ
  load = taken (shape_of s) w there o

  few : load ≤ slots
  unfolding load
  few = target-few s w n o there k et slots load es refl

  free : slots - load ≡ free_load (shape_of s) w n o
  unfolding load
  free = target_free s w n o there k et slots load es refl

  goes : load + needed ≤ slots → eqb rules 0 ≡ true
  unfolding rules
  goes l = eq-eqb rules 0 (flow-by (shape_of s) w n q o p (λ ne. omega (arith, free, en, l)))

  stays : slots < load + needed → eqb rules 0 ≡ false
  unfolding rules
  stays l = ne_eqb rules 0 (λ z. let g = flow-of (shape_of s) w n q o p z some in omega (arith, g, few, free, en, l))

  pub room : (sum : ℕ) → sum ≡ taken (shape_of s) w there o → leb (sum + needed) slots ≡ eqb (flow_rules (shape_of s) w n q o p) 0
  unfolding rules load
  room sum e = go (dec_le (sum + needed) slots)
    where
      go : Dec (sum + needed ≤ slots) → leb (sum + needed) slots ≡ eqb rules 0
      go (yes l) = le-leb (sum + needed) slots l ∙ sym (goes (omega (arith, e, l)))
      go (no l) = lt-leb (sum + needed) slots (omega (arith, l)) ∙ sym (stays (omega (arith, e, l)))

-- what is taken and what is needed are small
small-sum : (s : Sizes) (w : List ℕ) (n q o p there needed sum : ℕ) → QueueOf (shape_of s) w n o → there ≡ target (shape_of s) n o → needed ≡ load_needed q o p
    → sum ≡ taken (shape_of s) w there o → sum + needed ≤ largest_capacity + most_chunks
small-sum s w n q o p there needed sum k et en e =
    let l = target-few s w n o there k et _ _ refl refl in
    let m = capacity-most (shape_of s) o (range-of (shape_of s) k.network.in-range) in
    let a = needed-most q o p in
    omega arith

is-target : (c : After-look_up-there) → c.look_up-there.result ≡ target (shape_of c.args.s) c.args.n c.args.o
is-target c =
    let S = shape_of c.args.s in
    target_is S c.args.n c.args.o _ _ c.direction_of.ensures (c.look_up-there.ensures S c.requires.near c.requires.queue_of.node)

pub returns-then-o-eq-DELIVER : goal.returns-then-o-eq-DELIVER
returns-then-o-eq-DELIVER c =
    let a = c.args in
    let S = shape_of a.s in
    sym (eq-eqb (flow_rules S a.words.now a.n a.q a.o a.p) 0 (flow-by S a.words.now a.n a.q a.o a.p (λ ne. absurd (ne c.if-o-eq-DELIVER.true))))

pub look_up-there-requires : goal.look_up-there-requires
look_up-there-requires c =
    let a = c.args in
    let places = asked a.s a.words.now a.n a.o c.requires.queue_of in
    let h = places.1 in
    let few = sizes-nodes a.s places.0 in
    (omega arith, omega arith, entry-within a.n _ c.requires.near h (omega arith))

pub taken-requires : goal.taken-requires
taken-requires c =
    let a = c.args in
    record { queue_of = at_target a.s a.words.now a.n a.o c.look_up-there.result c.requires.queue_of (is-target (goal.at.taken-requires c).After-look_up-there); loads = c.requires.loads }

pub overflow_add-result : goal.overflow_add-result
overflow_add-result c =
    let a = c.args in
    omega (
      arith,
      small-sum a.s a.words.now a.n a.q a.o a.p c.look_up-there.result c.load_needed-needed.result c.taken.result
          c.requires.queue_of (is-target (goal.at.overflow_add-result c).After-look_up-there) c.load_needed-needed.ensures c.taken.ensures,
    )

pub returns : goal.returns
returns c =
    let a = c.args in
    room a.s a.words.now a.n a.q a.o a.p c.look_up-there.result c.capacity-slots.result c.load_needed-needed.result c.requires.queue_of (is-target (goal.at.returns c).After-look_up-there)
    c.capacity-slots.ensures c.load_needed-needed.ensures c.if-o-eq-DELIVER.false c.taken.result c.taken.ensures
