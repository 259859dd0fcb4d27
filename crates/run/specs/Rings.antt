-- The ring clause of the check: a free slot somewhere round an escape ring. Order: the clause as a fact; words in which no queue grew but the target
-- of a move. Assumes nothing.
use Rattle.std.specs.Prelude.{◌≡◌, ◌≢◌, Bool, cond, List, ℕ, ◌+◌, ◌-◌, ◌*◌, ◌/◌, ◌%◌, ◌<◌, ◌≤◌, T}
use Rattle.std.proofs.Common.{ap, sym, ◌∙◌, arith, ne_eqb, lt→ltb}
use native.Mathlib.Nat.{mod-lt, mod-add-div', lt_of_le_of_lt}
use Rattle.std.proofs.Math.Decide.{ℕ_discrete}
use Rattle.base.proofs.Tests.{some_at, some-by}
use Rattle.network.specs.Sizes.{Shape, size, nodes, queues, directions, dimension_of, direction_of, is_escape, escape_queue, capacity}
use Rattle.network.proofs.PacketLaws.{dimension-lt}
use Rattle.network.specs.Torus.{along, neighbour}
use Rattle.network.specs.TorusLaws.{Torus}
use Rattle.network.proofs.TorusLaws.{along-lt, along-add, along-rounds, along-round, size-pos}
use Rattle.network.specs.Layout.{load, taken}
use Rattle.network.proofs.LayoutLaws.{load-escape}
use Rattle.network.specs.Check.{has_room, ring_has_room}
use Rattle.network.proofs.CheckLaws.{has-room-of, has-room-by}
use Rattle.network.proofs.SameWords.{same?}
use Rattle.network.specs.Routes.{deliver, load_needed, free_load, target}
use Rattle.network.proofs.RoutesLaws.{free-load-is, needed-escape}
use Rattle.network.specs.AfterLaws.{NotTarget}

-- a free slot in one queue
unfoldable pub Room : Shape → List ℕ → ℕ → ℕ → Type 0
Room S w n q = taken S w n q < capacity S q

pub record RingRoom (S : Shape) (w : List ℕ) (d n : ℕ) : Type 0 where
  pub steps : ℕ
  pub within : steps < size S (dimension_of d)
  pub room : Room S w (along S d steps n) (escape_queue d)

pub ring_of : (S : Shape) (w : List ℕ) (d n : ℕ) → T (ring_has_room S w d n) → RingRoom S w d n
unfolding ring_has_room Room
ring_of S w d n t =
    let (j, h, u) = some_at (size S (dimension_of d)) (λ j. has_room S w (along S d j n) (escape_queue d)) t in
    record { steps = j; within = h; room = has-room-of S w (along S d j n) (escape_queue d) u }

-- however far round the free slot is
pub ring-by : (S : Shape) (w : List ℕ) (d n c : ℕ) → Torus S → d < directions → Room S w (along S d c n) (escape_queue d) → T (ring_has_room S w d n)
unfolding ring_has_room Room
ring-by S w d n c tor hd r =
    some-by k (λ j. has_room S w (along S d j n) (escape_queue d)) (c % k) (mod-lt c pos)
    (has-room-by S w (along S d (c % k) n) (escape_queue d) (rw around r))
  where
    k : ℕ
    k = size S (dimension_of d)

    pos : 0 < k
    pos = size-pos S (dimension_of d) tor (dimension-lt d hd)

    around : along S d (c % k) n ≡ along S d c n
    around =
        sym (along-rounds S d (c / k) (along S d (c % k) n) tor hd)
        ∙ along-add S d (c / k * k) (c % k) n tor hd
        ∙ ap (λ (x : ℕ). along S d x n) (mod-add-div' c k)

-- the node before one on its ring
pub back_to : (S : Shape) (d n : ℕ) → Torus S → d < directions → along S d (size S (dimension_of d) - 1) (neighbour S d n) ≡ n
unfolding neighbour
back_to S d n tor hd =
    let pos : 0 < size S (dimension_of d) = size-pos S (dimension_of d) tor (dimension-lt d hd) in
    let whole : 1 + (size S (dimension_of d) - 1) ≡ size S (dimension_of d) = omega arith in
    along-add S d (size S (dimension_of d) - 1) 1 n tor hd ∙ ap (λ (x : ℕ). along S d x n) whole ∙ along-round S d n tor hd

-- how a move of a packet changes how much of the queues is taken: more of its target, if it has one, by the packet's load there, less of its source
-- n, q, no more of any other queue
pub record Shifted (S : Shape) (w v : List ℕ) (n q o : ℕ) : Type 0 where
  pub packet : ℕ
  pub others : (m r : ℕ) → m < nodes S → r < queues → NotTarget S n o m r → taken S v m r ≤ taken S w m r
  pub newest : o ≢ deliver → taken S v (target S n o) o ≡ taken S w (target S n o) o + load o packet
  pub source : taken S v n q < taken S w n q

-- the direction and the kind of an escape queue
pub escape-direction : (d : ℕ) → d < directions → direction_of (escape_queue d) ≡ d
escape-direction d h = omega arith

pub escape-is : (d : ℕ) → T (is_escape (escape_queue d))
escape-is d = lt→ltb directions (escape_queue d) (omega arith)

pub escape-lt : (d : ℕ) → d < directions → escape_queue d < queues
escape-lt d h = omega arith

-- R151, R152
needs_two : (q d p : ℕ) → q ≢ escape_queue d → load_needed q (escape_queue d) p ≡ 2
needs_two q d p ne = needed-escape q d p ∙ ap (λ (own : Bool). cond own 1 2) (ne_eqb q (escape_queue d) ne)

-- a ring keeps a free slot: where the move enters it, one of two stays free at the target; where it travels along it, it frees one at the source
pub ring-kept : (S : Shape) (w v : List ℕ) (n q o p : ℕ) → Torus S → n < nodes S → taken S w n q ≤ capacity S q
    → (o ≢ deliver → load_needed q o p ≤ free_load S w n o) → Shifted S w v n q o
    → (d m : ℕ) → d < directions → m < nodes S → T (ring_has_room S w d m) → T (ring_has_room S v d m)
unfolding Room target
ring-kept S w v n q o p tor hn few flow sh d m hd hm t = go (same? (target S n o) o a (escape_queue d))
  where
    old : RingRoom S w d m
    old = ring_of S w d m t

    a : ℕ
    a = along S d old.steps m

    ha : a < nodes S
    ha = along-lt S d old.steps m tor hd hm

    -- the free slot is at the target
    travels : (o ≡ escape_queue d) → (target S n o ≡ a) → Dec (q ≡ escape_queue d) → T (ring_has_room S v d m)
    travels eo et (yes eq) =
        let next : neighbour S d n ≡ a = ap (λ (e : ℕ). neighbour S e n) (sym (ap direction_of eo ∙ escape-direction d hd)) ∙ et in
        let before : along S d (old.steps + (size S (dimension_of d) - 1)) m ≡ n =
        sym (along-add S d (size S (dimension_of d) - 1) old.steps m tor hd)
        ∙ ap (λ (x : ℕ). along S d (size S (dimension_of d) - 1) x) (sym next)
        ∙ back_to S d n tor hd in
        let freed : Room S v n q = native.Mathlib.Nat.lt_of_lt_of_le sh.source few in
        ring-by S v d m (old.steps + (size S (dimension_of d) - 1)) tor hd (rw (before, ← eq) freed)
    travels eo et (no ne) =
        let two : 2 ≤ free_load S w n o = rw (ap (λ (r : ℕ). load_needed q r p) eo ∙ needs_two q d p ne) at (flow away) in
        let free : free_load S w n o ≡ capacity S o - taken S w (target S n o) o = free-load-is S w n o in
        let more : taken S v (target S n o) o ≡ taken S w (target S n o) o + load o sh.packet = sh.newest away in
        let one : load o sh.packet ≡ 1 = load-escape o sh.packet (omega arith) in
        let still : Room S v (target S n o) o =
        roomy (capacity S o) (taken S w (target S n o) o) (taken S v (target S n o) o) (load o sh.packet) (free_load S w n o) two free more one in
        ring-by S v d m old.steps tor hd (rw (← et, ← eo) still)
      where
        transit : (d : ℕ) → escape_queue d ≡ deliver → ⊥
        transit d z = omega arith

        away : o ≢ deliver
        away z = transit d (sym eo ∙ z)

        roomy : (c x y l f : ℕ) → 2 ≤ f → f ≡ c - x → y ≡ x + l → l ≡ 1 → y < c
        roomy c x y l f h e g one = omega arith

    go : Dec ((target S n o ≡ a) × (o ≡ escape_queue d)) → T (ring_has_room S v d m)
    go (yes e) = travels e.1 e.0 (ℕ_discrete q (escape_queue d))
    go (no ne) = ring-by S v d m old.steps tor hd (lt_of_le_of_lt (sh.others a (escape_queue d) ha (escape-lt d hd) (λ away. ne)) old.room)
