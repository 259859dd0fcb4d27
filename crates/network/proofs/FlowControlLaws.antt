-- Move's flow rule is the flow control of FlowControl.antt: for every network, every standing head, each of its routes, and every capacity. Order: who enters a
-- ring; the tests for 11 and 12 in all words; a standing head; Move; packets of eight chunks; a delivery. Assumes nothing.
use Rattle.std.specs.Prelude.{◌≡◌, refl, ◌⊎◌, ◌↔◌, ◌≢◌, Bool, true, false, cond, not, ◌&&◌, List, ℕ, ◌+◌, ◌*◌, ◌-◌, ◌<◌, ◌≤◌, T, leb, ltb, eqb, length}
use Rattle.std.proofs.Common.{ap, ◌∙◌, inl, inr, arith, ne_eqb, ltb→lt, lt→ltb, eqb→eq, T_not}
use Rattle.std.proofs.Math.Decide.{dec_lt}
use Rattle.std.proofs.lemmas.Bool.{lt-leb}
use Rattle.std.proofs.Math.Dec.{eqb_refl, not_T}
use Rattle.base.specs.Tests.{all_of, elem}
use Rattle.base.proofs.Tests.{and_l, and_r, and_i, T_true}
use Rattle.network.specs.Sizes.{Shape, nodes, queues, directions, most_chunks, direction_of, adaptive_queue, escape_queue, is_escape, is_adaptive, capacity}
use Rattle.network.proofs.SizesLaws.{adaptive-chunks, adaptive-capacity}
use Rattle.network.specs.Packet.{chunks, distance, heading, hops_left}
use Rattle.network.proofs.PacketLaws.{heading-lt}
use Rattle.network.proofs.TorusLaws.{in_range-torus, neighbour-lt}
use Rattle.network.specs.Layout.{shape, held, load, taken}
use Rattle.network.proofs.LayoutLaws.{load-chunks, load-escape, load-pos, taken-equal}
use Rattle.network.specs.CheckLaws.{Network}
use Rattle.network.specs.Routes.{routes, deliver, target, free_load, enters_ring, load_needed}
use Rattle.network.specs.RoutesLaws.{Onward}
use Rattle.network.proofs.RoutesLaws.{route-of, free-load-is}
use Rattle.network.specs.Refusals.{refuse, network_refusal, head, flow_rules, move_rules, move_refusal, no_such_node, no_such_queue, no_such_output, queue_empty, no_route, no_slot, no_bubble}
use Rattle.network.proofs.RefusalLaws.{else_by-zero, network-passed}
use Rattle.network.specs.FlowControl.{Enters, FlowControl, ByFree, Standing}

-- R80, R151, R152: the test of Routes.antt passes exactly for those who enter a ring
pub enters-exactly : (q o : ℕ) → o < queues → T (enters_ring q o) ↔ Enters q o
unfolding enters_ring
enters-exactly q o h = (of, by)
  where
    of : T (is_escape o && not (eqb q o)) → Enters q o
    of t =
        let l : directions < o = ltb→lt directions o (and_l (is_escape o) (not (eqb q o)) t) in
        record {
          ring = o - escape_queue 0;
          into = record { direction = omega arith; escape = omega arith };
          from-outside = λ r. T_not (eqb q o) (and_r (is_escape o) (not (eqb q o)) t) (let e : q ≡ o = r.escape ∙ omega arith in rw e (eqb_refl o));
        }

    by : Enters q o → T (is_escape o && not (eqb q o))
    by e =
        let x : o ≡ escape_queue e.ring = e.into.escape in
        and_i (is_escape o) (not (eqb q o)) (lt→ltb directions o (omega arith))
        (not_T (eqb q o) (λ t. e.from-outside (record { direction = e.into.direction; escape = eqb→eq q o t ∙ x })))

-- the two tests one after the other, by what each finds
told-by : (a b : Bool) (free takes : ℕ) (Entering : Type 0) → T a ↔ (free < takes) → T b ↔ ((free < takes) ⊎ ((free ≡ takes) × Entering))
    → ByFree free takes Entering (refuse a no_slot (refuse b no_bubble 0))
told-by true b free takes Entering few room =
    record {
      no-slot = ((λ e. few.0 tt), (λ l. refl));
      no-bubble = ((λ e. absurd (omega (arith, e))), (λ e. absurd (let l = few.0 tt in let z = e.0 in omega arith)));
      neither = λ x y. absurd (x refl);
    }
told-by false true free takes Entering few room =
    record {
      no-slot = ((λ e. absurd (omega (arith, e))), (λ l. absurd (few.1 l)));
      no-bubble = ((λ e. full (room.0 tt)), (λ e. refl));
      neither = λ x y. absurd (y refl);
    }
  where
    full : (free < takes) ⊎ ((free ≡ takes) × Entering) → (free ≡ takes) × Entering
    full (inl l) = absurd (few.1 l)
    full (inr e) = e
told-by false false free takes Entering few room =
    record {
      no-slot = ((λ e. absurd (omega (arith, e))), (λ l. absurd (few.1 l)));
      no-bubble = ((λ e. absurd (omega (arith, e))), (λ e. absurd (room.1 (inr e))));
      neither = λ x y. refl;
    }

-- R150 to R152, R171, R172: of every output above 0, in all words: 11 exactly if less is free than the head takes, 12 exactly if just as much is free and the
-- head enters a ring, else neither
pub flow-by-free : (S : Shape) (w : List ℕ) (n q o p : ℕ) → o < queues → o ≢ deliver
    → ByFree (free_load S w n o) (load o p) (Enters q o) (flow_rules S w n q o p)
unfolding flow_rules load_needed
flow-by-free S w n q o p h ne =
    rw (ne_eqb o deliver ne)
    (told-by (ltb free takes) (ltb free (cond (enters_ring q o) 2 takes)) free takes (Enters q o) (ltb→lt free takes, lt→ltb free takes)
    (room (enters_ring q o) (enters-exactly q o h)))
  where
    free : ℕ
    free = free_load S w n o

    takes : ℕ
    takes = load o p

    -- whoever enters needs one slot more than he takes
    room : (b : Bool) → T b ↔ Enters q o → T (ltb free (cond b 2 takes)) ↔ ((free < takes) ⊎ ((free ≡ takes) × Enters q o))
    room true enters = ((λ u. either (dec_lt free takes) (let l = ltb→lt free 2 u in let t = one in omega arith)), (λ c. lt→ltb free 2 (less c)))
      where
        one : takes ≡ 1
        one = let e : o ≡ escape_queue (enters.0 tt).ring = (enters.0 tt).into.escape in load-escape o p (omega arith)

        either : Dec (free < takes) → free ≤ takes → (free < takes) ⊎ ((free ≡ takes) × Enters q o)
        either (yes l) m = inl l
        either (no g) m = inr (omega arith, enters.0 tt)

        less : (free < takes) ⊎ ((free ≡ takes) × Enters q o) → free < 2
        less (inl l) = let t = one in omega arith
        less (inr z) = let t = one in let k = z.0 in omega arith
    room false enters = ((λ u. inl (ltb→lt free takes u)), (λ c. lt→ltb free takes (less c)))
      where
        less : (free < takes) ⊎ ((free ≡ takes) × Enters q o) → free < takes
        less (inl l) = l
        less (inr z) = absurd (enters.1 z.1)

-- what is free, and so what is told, by the capacity and what is taken of it
by-capacity : (capacity taken takes told : ℕ) (Entering : Type 0) → 0 < takes → ByFree (capacity - taken) takes Entering told
    → FlowControl capacity taken takes Entering told
by-capacity capacity taken takes told Entering some f =
    record {
      flows = (
        (λ z. record { fits = fits z (dec_lt (capacity - taken) takes); one_more = λ e. more z e (dec_lt takes (capacity - taken)) }),
        (λ m. f.neither
            (λ e. let l = f.no-slot.0 e in let k = m.fits in omega arith)
            (λ e. let (s, en) = f.no-bubble.0 e in let k = m.one_more en in omega arith)),
      );
      no-slot = ((λ e. let l = f.no-slot.0 e in omega arith), (λ l. f.no-slot.1 (omega arith)));
      no-bubble = ((λ e. let (s, en) = f.no-bubble.0 e in (omega arith, en)), (λ e. let s = e.0 in f.no-bubble.1 (omega arith, e.1)));
    }
  where
    fits : told ≡ 0 → Dec (capacity - taken < takes) → taken + takes ≤ capacity
    fits z (yes l) = absurd (let e = f.no-slot.1 l in omega arith)
    fits z (no g) = omega arith

    more : told ≡ 0 → Entering → Dec (takes < capacity - taken) → taken + takes + 1 ≤ capacity
    more z en (yes l) = omega arith
    more z en (no g) = absurd (let k = fits z (dec_lt (capacity - taken) takes) in let e = f.no-bubble.1 (omega arith, en) in omega arith)

-- a route is an output
route-output : (q p o : ℕ) → T (elem o (routes q p)) → o < queues
route-output q p o t = go (route-of q p o t)
  where
    below : Onward p o → o < queues
    below r = by r.by
      where
        d : heading r.dimension p < directions
        d = heading-lt r.dimension p r.below

        by : (o ≡ adaptive_queue (heading r.dimension p)) ⊎ ((o ≡ escape_queue (heading r.dimension p)) × ((j : ℕ) → j < r.dimension → distance j p ≡ 0)) → o < queues
        by (inl e) = let l = d in omega arith
        by (inr e) = let l = d in let k = e.0 in omega arith

    go : ((o ≡ deliver) × (hops_left p ≡ 0)) ⊎ Onward p o → o < queues
    go (inl e) = let z = e.0 in omega arith
    go (inr r) = below r

-- of a standing head and one of its routes Move tells what the flow rule tells
standing-told : (w : List ℕ) (n q o : ℕ) → Standing w n q o → move_refusal w n q o ≡ flow_rules (shape w) w n q o (head (held (shape w) w n q))
unfolding move_refusal move_rules
standing-told w n q o s =
    else_by-zero (network_refusal w) _ s.network
    ∙ passed (leb (nodes (shape w)) n) no_such_node _ (lt-leb (nodes (shape w)) n s.node)
    ∙ passed (leb queues q) no_such_queue _ (lt-leb queues q s.queue)
    ∙ passed (leb queues o) no_such_output _ (lt-leb queues o (route-output q (head (held (shape w) w n q)) o s.route))
    ∙ passed (eqb (length (held (shape w) w n q)) 0) queue_empty _ (ne_eqb (length (held (shape w) w n q)) 0 s.holds)
    ∙ passed (not (elem o (routes q (head (held (shape w) w n q))))) no_route _ (ap not (T_true (elem o (routes q (head (held (shape w) w n q)))) s.route))
  where
    passed : (b : Bool) (k later : ℕ) → b ≡ false → refuse b k later ≡ later
    passed b k later e = ap (λ (t : Bool). refuse t k later) e

-- Move, by what is free and by the capacity: in every network, of every standing head and each of its routes but a delivery
pub move-by-free : (w : List ℕ) (n q o : ℕ) → Standing w n q o → o ≢ deliver
    → ByFree (free_load (shape w) w n o) (load o (head (held (shape w) w n q))) (Enters q o) (move_refusal w n q o)
move-by-free w n q o s ne =
    rw (standing-told w n q o s)
    (flow-by-free (shape w) w n q o (head (held (shape w) w n q)) (route-output q (head (held (shape w) w n q)) o s.route) ne)

pub flow-control : (w : List ℕ) (n q o : ℕ) → Standing w n q o → o ≢ deliver
    → FlowControl (capacity (shape w) o) (taken (shape w) w (target (shape w) n o) o) (load o (head (held (shape w) w n q))) (Enters q o) (move_refusal w n q o)
flow-control w n q o s ne =
    by-capacity (capacity (shape w) o) (taken (shape w) w (target (shape w) n o) o) (load o (head (held (shape w) w n q))) (move_refusal w n q o) (Enters q o)
    (load-pos o (head (held (shape w) w n q)))
    (rw (free-load-is (shape w) w n o) at (move-by-free w n q o s ne))

-- R150, R171: where all packets have eight chunks an adaptive queue has A places, as it had when packets were counted: in every network, of a standing head of
-- eight chunks and an adaptive target all of whose packets have eight, 11 is told exactly where the target holds A of them
pub eight-chunks : (w : List ℕ) (n q o : ℕ) → Standing w n q o → o ≢ deliver → o ≤ directions
    → chunks (head (held (shape w) w n q)) ≡ most_chunks
    → T (all_of (λ p. eqb (chunks p) most_chunks) (held (shape w) w (target (shape w) n o) o))
    → (move_refusal w n q o ≡ no_slot) ↔ (length (held (shape w) w (target (shape w) n o) o) ≡ (shape w).adaptive)
unfolding shape target load
eight-chunks w n q o s away adaptive eight all =
    ((λ e. let l = free-few (told.no-slot.0 e) in omega arith), (λ e. told.no-slot.1 (few-free e)))
  where
    S : Shape
    S = shape w

    there : ℕ
    there = target S n o

    N : Network S w
    N = network-passed w s.network

    inside : there < nodes S
    inside = neighbour-lt S (direction_of o) n (in_range-torus S N.in-range refl) (omega arith) s.node

    kind : is_adaptive o ≡ true
    kind = adaptive-chunks o away adaptive

    told : ByFree (free_load S w n o) (load o (head (held S w n q))) (Enters q o) (move_refusal w n q o)
    told = move-by-free w n q o s away

    takes : load o (head (held S w n q)) ≡ most_chunks
    takes = load-chunks o (head (held S w n q)) kind ∙ eight

    full : taken S w there o ≡ most_chunks * length (held S w there o)
    full = taken-equal S w there o most_chunks (rw kind all)

    light : taken S w there o ≤ most_chunks * S.adaptive
    light = rw (adaptive-capacity S o away adaptive) at (N.queue there o inside (route-output q (head (held S w n q)) o s.route)).light

    free : free_load S w n o ≡ most_chunks * S.adaptive - taken S w there o
    free = free-load-is S w n o ∙ ap (λ (c : ℕ). c - taken S w there o) (adaptive-capacity S o away adaptive)

    free-few : free_load S w n o < load o (head (held S w n q)) → length (held S w there o) ≡ S.adaptive
    free-few l = let a = takes in let b = full in let c = light in let d = free in omega arith

    few-free : length (held S w there o) ≡ S.adaptive → free_load S w n o < load o (head (held S w n q))
    few-free e = let a = takes in let b = full in let d = free in omega arith

-- R153: a delivery is told neither
pub delivery-flows : (w : List ℕ) (n q : ℕ) → Standing w n q deliver → move_refusal w n q deliver ≡ 0
unfolding flow_rules
delivery-flows w n q s = standing-told w n q deliver s
