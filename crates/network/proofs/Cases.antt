-- The kept cases K1 to K12 as rows of one theorem about the definitions that the contracts cite, those of the third dimension and the table of routes with
-- them, and the kept rows (Rows.antt, and TogetherRows.antt of moves in either order). A row like `k5` is computed from them; where the case is meant of any
-- network, a row like `k5-every` beside it says so of each one (K2 and K8 say it at once).
-- Order: how the rows' networks are written down (and in ByHand.antt); what the rows about every network speak of; the rows; what proves them; the theorem.
-- Assumes nothing.
use Rattle.std.specs.Prelude.{◌≡◌, ◌⊎◌, ◌≢◌, ◌↔◌, Bool, true, not, cond, ◌&&◌, ◌||◌, ltb, eqb, pos, negsuc, length, get_or, take, drop, set, replicate, Some, Ok}
use Rattle.std.proofs.Math.Path.{refl}
use Rattle.std.proofs.Common.{ap, ap₂, sym, ◌∙◌, inl, inr, le_trans, mod-eq_of_lt, div-lt_iff_lt-mul, mul_comm, mul-one, add_comm, ltb→lt, lt→ltb, le→leb, eqb→eq, length-take}
use Rattle.std.proofs.Math.Bool.{false}
use mathlib.Core.List.{List, [], ◌∷◌, ◌++◌, map}
use Prim.Native.Nat.{ℕ, zero, suc, ◌+◌, ◌*◌, ◌-◌, ◌/◌, ◌%◌, ◌^◌, ◌<◌, ◌≤◌}
use Rattle.std.proofs.Math.Nat.{min-le_left, mod-add-div}
use Rattle.std.proofs.Math.Decide.{ℕ_discrete}
use native.Mathlib.Omega.{arith}
use borrow.Author.Tests.{eq-eqb, ne_eqb, lt-leb, lt-ltb, le-ltb, ltb-false}
use Rattle.std.proofs.Math.Dec.{T}
use Rattle.base.specs.Tests.{all_below, some_below, all_of, elem, EachBelow, all_pass, EachPasses}
use Rattle.base.proofs.Tests.{each_at, T_true, T_false, passed?, and_l, and_r, clauses-by, or_l, or_r, or-e, all-by}
use Rattle.base.specs.Sums.{sum_below}
use Rattle.base.specs.Digits.{product, digit}
use Rattle.network.specs.declared.Stop.{Stop}
use Rattle.network.specs.declared.Drained.{Drained}
use Rattle.network.specs.declared.Sizes.{Sizes}
use Rattle.network.specs.Sizes.{Shape, shape_of, size, within, sizes_in_range, nodes, queues, directions, dimensions, dimension_of, direction_of, is_escape, is_adaptive, injection_queue, adaptive_queue, escape_queue, largest_ring}
use Rattle.network.proofs.SizesLaws.{between-by, escape-slots, escape-capacity}
use Rattle.network.specs.Packet.{signed, tag, destination, chunks, offset, distance, heading, hops_left}
use Rattle.network.specs.Torus.{coordinate, along}
use Rattle.network.specs.Layout.{header_words, shape, accepted_at, delivered_at, moves_at, need, queue_part, count_of, packets_of, held}
use Rattle.network.proofs.LayoutLaws.{header-long, load-escape}
use Rattle.network.specs.Check.{packet_fits, queues_fit, ring_has_room, rings_have_room, packets_held, counters_fit, is_network}
use Rattle.network.specs.Routes.{deliver, in_order, routes, free_load}
use Rattle.network.proofs.SelectionLaws.{selection-routes}
use Rattle.network.specs.Refusals.{refuse, no_route, no_slot, no_bubble, network_refusal, make_refusal, offer_rules, offer_refusal, flow_rules, move_rules, move_refusal}
use Rattle.network.specs.Calls.{Progress, move_of, after_offer, offer_words, move_words, move_answer, stopped, drain_from, drained, drain_ledger, drain_answer, drain_of, Answer}
use Rattle.network.proofs.PacketLaws.{hops-hop-le, arrived-distance, spare-is, upper_spare-is}
use Rattle.network.specs.TorusLaws.{Torus}
use Rattle.network.proofs.TorusLaws.{size-pos, along-lt, in_range-torus, in_range-size, in_range-nodes, sizes-torus}
use Rattle.network.specs.OfferLaws.{ShortRings}
use Rattle.network.proofs.OfferLaws.{offset-nearer, offset-halfway}
use Rattle.network.specs.CheckLaws.{Network, PacketFits, network_clauses}
use Rattle.network.proofs.CheckLaws.{packet-of, reach-least, halfway-fits, own-fits, queue-loaded, network-of, has-room-held}
use Rattle.network.specs.RoutesLaws.{Onward}
use Rattle.network.proofs.RoutesLaws.{route-of, arrived-route, free-load-held, needed-escape}
use Rattle.network.proofs.RefusalLaws.{else_by-zero, network-passed, network-passes, chunks-exactly, own-node-exactly, no-node-first, permitted-by}
use Rattle.network.specs.ByHand.{packet, here, straight, empty, only, chosen, definitions}
use Rattle.network.proofs.Rows.{kept_rows}
use Rattle.network.proofs.TogetherRows.{together_rows}
use Rattle.network.specs.Cases.{Offered, four-by-three, largest-plane, largest, six-by-two, two-cubed, four-by-two, against-parity, long_along, on_ring, one_hop, outside, sources, in_each, in_sources, crossing, Entries, before-and-after, turning, blocked, leaving, alone, in-every-queue, a_word, none, NoRing, head_of, Standing, Numbered, Within, Entering, ahead, in_ring, RingsOfTwo, KeptCases}

-- a test that cannot pass
untrue : (b : Bool) → (T b → ⊥) → b ≡ false
untrue true f = absurd (f tt)
untrue false f = refl

-- in words that pass the check a move is refused as the rules of Move say: so the rows compute the check once for each network
by-rules : (w : List ℕ) (n q o refusal : ℕ) → network_refusal w ≡ 0 → move_rules (shape w) w n q o ≡ refusal → move_refusal w n q o ≡ refusal
unfolding move_refusal
by-rules w n q o refusal e r = else_by-zero (network_refusal w) (move_rules (shape w) w n q o) e ∙ r

all-by-rules : (w : List ℕ) (n : ℕ) (q o : ℕ → ℕ) (xs : List ℕ) → network_refusal w ≡ 0
    → map (λ x. move_refusal w n (q x) (o x)) xs ≡ map (λ x. move_rules (shape w) w n (q x) (o x)) xs
all-by-rules w n q o [] e = refl
all-by-rules w n q o (x ∷ xs) e =
    ap₂ (λ (r : ℕ) (rs : List ℕ). r ∷ rs) (by-rules w n (q x) (o x) (move_rules (shape w) w n (q x) (o x)) e refl) (all-by-rules w n q o xs e)

entries : (steps own others d : ℕ) → network_refusal (crossing d) ≡ 0
    → map (λ q. move_rules (shape (crossing d)) (crossing d) (on_ring d steps) q (escape_queue d)) (sources d) ≡ own ∷ replicate (length (outside d)) others
    → Entries d steps own others
entries steps own others d e r = all-by-rules (crossing d) (on_ring d steps) (λ q. q) (λ q. escape_queue d) (sources d) e ∙ r

-- K3: every output of an injection queue
outputs : (w : List ℕ) (n : ℕ) (refusals : List ℕ) → network_refusal w ≡ 0
    → map (λ o. move_rules (shape w) w n injection_queue o) (in_order 0 queues) ≡ refusals
    → map (λ o. move_refusal w n injection_queue o) (in_order 0 queues) ≡ refusals
outputs w n refusals e r = all-by-rules w n (λ o. injection_queue) (λ o. o) (in_order 0 queues) e ∙ r

-- K3: what sizes in range give
module _ (w : List ℕ) (r : T (sizes_in_range (shape w))) where
  tor : Torus (shape w)
  unfolding shape
  tor = in_range-torus (shape w) r refl

  fits : nodes (shape w) ≤ 2 ^ 12
  unfolding shape
  fits = in_range-nodes (shape w) r refl

  short : ShortRings (shape w)
  short i h = in_range-size (shape w) i r

-- where a packet stands, Move's first four tests of its own do not apply
past-holds : (w : List ℕ) (n q o : ℕ) → Standing w n q → o < queues
    → move_refusal w n q o ≡ refuse (not (elem o (routes q (head_of w n q)))) no_route (flow_rules (shape w) w n q o (head_of w n q))
unfolding move_rules
past-holds w n q o s h =
    by-rules w n q o _ s.passes
    (rw (lt-leb (nodes (shape w)) n s.node, lt-leb queues q s.queue, lt-leb queues o h, ne_eqb (length (held (shape w) w n q)) 0 s.holds))

-- K5 to K7: the free slots are what the packets ahead leave of two
module _ (w : List ℕ) (n q d : ℕ) (s : Entering w n q d) where
  free : (count : ℕ) → ahead w n d ≡ count → free_load (shape w) w n (escape_queue d) ≡ 2 - count
  free count e = free-load-held (shape w) w n (escape_queue d) (escape-slots (escape_queue d) (omega arith)) ∙ ap₂ (λ (a b : ℕ). a - b) (escape-capacity (shape w) d ∙ s.two-slots) e

  entered : (count : ℕ) → ahead w n d ≡ count
      → move_refusal w n q (escape_queue d) ≡ refuse (ltb (2 - count) 1) no_slot (refuse (ltb (2 - count) (cond (eqb q (escape_queue d)) 1 2)) no_bubble 0)
  unfolding flow_rules
  entered count e =
      past-holds w n q (escape_queue d) s.standing (let h = s.direction in omega arith)
      ∙ rw (
        T_true (elem (escape_queue d) (routes q (head_of w n q))) s.route,
        ne_eqb (escape_queue d) deliver (λ z. nonzero d z),
        free count e,
        load-escape (escape_queue d) (head_of w n q) (omega arith),
        needed-escape q d (head_of w n q),
      )
    where
      nonzero : (d : ℕ) → escape_queue d ≡ 0 → ⊥
      nonzero d z = omega arith

  one-ahead : ahead w n d ≡ 1 → move_refusal w n q (escape_queue d) ≡ cond (eqb q (escape_queue d)) 0 12
  one-ahead e = entered 1 e ∙ go (eqb q (escape_queue d))
    where
      go : (own : Bool) → refuse (ltb 1 (cond own 1 2)) no_bubble 0 ≡ cond own 0 12
      go true = refl
      go false = refl

  none_ahead : ahead w n d ≡ 0 → move_refusal w n q (escape_queue d) ≡ 0
  none_ahead e = entered 0 e ∙ go (eqb q (escape_queue d))
    where
      go : (own : Bool) → refuse (ltb 2 (cond own 1 2)) no_bubble 0 ≡ 0
      go true = refl
      go false = refl

-- K8: sizes out of range are found by Make first, by Check once there is a header
one-slot : (s : Sizes) → s.escape ≡ 1 → sizes_in_range (shape_of s) ≡ false
unfolding sizes_in_range shape_of within
one-slot s z = rw z (neither (all_of (within 1 largest_ring) (shape_of s).sizes))
  where
    neither : (b : Bool) → (b && false) ≡ false
    neither true = refl
    neither false = refl

out_of_range : (s : Sizes) → (s.escape ≡ 1) ⊎ NoRing s → sizes_in_range (shape_of s) ≡ false
out_of_range s (inl z) = one-slot s z
out_of_range s (inr (i, h, z)) =
    untrue (sizes_in_range (shape_of s)) (λ t. none z (size-pos (shape_of s) i (sizes-torus s t) h) (in_range-size (shape_of s) i t))
  where
    none : (size (shape_of s) i ≡ 0) ⊎ (size (shape_of s) i ≡ 17) → 0 < size (shape_of s) i → size (shape_of s) i ≤ largest_ring → ⊥
    none (inl z) low high = omega arith
    none (inr z) low high = omega arith

past-header : (w : List ℕ) → header_words ≤ length w → sizes_in_range (shape w) ≡ false → network_refusal w ≡ 2
unfolding network_refusal
past-header w h z = rw (le-ltb (length w) header_words h, z)

wrong_size : (S : Shape) (w : List ℕ) → sizes_in_range S ≡ false → (make_refusal S w ≡ 2) × (header_words ≤ length w → shape w ≡ S → network_refusal w ≡ 2)
unfolding make_refusal
wrong_size S w z = (rw z, λ h e. past-header w h (ap sizes_in_range e ∙ z))

-- R181: no header
no_header : (w : List ℕ) → length w < header_words → network_refusal w ≡ 1
unfolding network_refusal
no_header w h = rw (lt-ltb (length w) header_words h)

-- K2: one word too few
too_short : (S : Shape) (w : List ℕ) → sizes_in_range S ≡ true → header_words ≤ length w → length w < need S → shape w ≡ S → network_refusal w ≡ 1
unfolding network_refusal
too_short S w z h l e = rw (le-ltb (length w) header_words h, e, z, lt-ltb (length w) (need S) l)

-- K9
no-route : (w : List ℕ) (n q o : ℕ) → Standing w n q → o < queues → (T (elem o (routes q (head_of w n q))) → ⊥) → move_refusal w n q o ≡ 10
no-route w n q o s h none = past-holds w n q o s h ∙ rw (untrue (elem o (routes q (head_of w n q))) none)

not-delivered : (q p i : ℕ) → i < dimensions → distance i p ≢ 0 → T (elem 0 (routes q p)) → ⊥
not-delivered q p i h far t = go (route-of q p 0 t)
  where
    go : ((0 ≡ deliver) × (hops_left p ≡ 0)) ⊎ Onward p 0 → ⊥
    go (inl (z, arrived)) = far (arrived-distance i p h arrived)
    go (inr r) = way r.by
      where
        way : (0 ≡ adaptive_queue (heading r.dimension p))
            ⊎ ((0 ≡ escape_queue (heading r.dimension p)) × ((j : ℕ) → j < r.dimension → distance j p ≡ 0)) → ⊥
        way (inl z) = omega arith
        way (inr (z, l)) = omega arith

-- K9, K12
not-onward : (q p o : ℕ) → ((i : ℕ) → i < dimensions → distance i p ≡ 0) → o ≢ deliver → T (elem o (routes q p)) → ⊥
not-onward q p o done ne t = go (route-of q p o t)
  where
    go : ((o ≡ deliver) × (hops_left p ≡ 0)) ⊎ Onward p o → ⊥
    go (inl (z, h)) = ne z
    go (inr r) = r.far (done r.dimension r.below)

-- K10
without-budget : (w : List ℕ) (room : ℕ) → network_refusal w ≡ 0
    → drain_answer w 0 room ≡ Ok (drain_of 0 0 (cond (eqb (packets_held (shape w) w) 0) Stop.Emptied Stop.Spent))
unfolding drain_answer drained drain_from stopped
without-budget w room e = rw (eq-eqb (network_refusal w) 0 e) (go (eqb (packets_held (shape w) w) 0))
  where
    at_once : Bool → Progress
    at_once none = cond none (stopped w Stop.Emptied) (stopped w Stop.Spent)

    go : (none : Bool)
        → ◌≡◌ {A = Answer Drained} (Ok (drain_of (length (at_once none).moves) (length (at_once none).deliveries) (at_once none).stop)) (Ok (drain_of 0 0 (cond none Stop.Emptied Stop.Spent)))
    go true = refl
    go false = refl

-- K11: words that are long enough for sizes in range, and no network
no-network : (w : List ℕ) → T (sizes_in_range (shape w)) → need (shape w) ≤ length w → (Network (shape w) w → ⊥) → network_refusal w ≡ 3
unfolding network_refusal
no-network w r l none =
    rw (
      le-ltb (length w) header_words (header-long (shape w) w l),
      T_true (sizes_in_range (shape w)) r,
      le-ltb (length w) (need (shape w)) l,
      untrue (is_network (shape w) w) (λ t. none (network-of (shape w) w t)),
    )

take-few : (c : ℕ) (l : List ℕ) → length (take c l) ≤ c
take-few c l = rw length-take (min-le_left c (length l))

module _ (w : List ℕ) (d : ℕ) (r : RingsOfTwo w d) where
  -- the packets j steps round the ring through node n
  round : ℕ → ℕ → ℕ
  round n j = length (held (shape w) w (along (shape w) d j n) (escape_queue d))

  sum : (n : ℕ) → in_ring w d n ≡ round n 0 + round n 1
  unfolding sum_below round
  sum n = rw r.two-nodes (omega arith)

  clause : (n : ℕ) → ring_has_room (shape w) w d n ≡ (ltb (round n 0) 2 || ltb (round n 1) 2)
  unfolding ring_has_room some_below round
  clause n =
      rw (
        r.two-nodes,
        has-room-held (shape w) w (along (shape w) d 0 n) (escape_queue d) slots,
        has-room-held (shape w) w (along (shape w) d 1 n) (escape_queue d) slots,
        escape-capacity (shape w) d,
        r.two-slots,
      )
    where
      slots : is_adaptive (escape_queue d) ≡ false
      slots = escape-slots (escape_queue d) (omega arith)

  few : Network (shape w) w → (n j : ℕ) → n < nodes (shape w) → round n j ≤ 2
  unfolding round held packets_of shape
  few f n j node =
      let at : ℕ = along (shape w) d j n in
      let part : List ℕ = queue_part (shape w) w at (escape_queue d) in
      let inside = along-lt (shape w) d j n (in_range-torus (shape w) f.in-range refl) r.direction node in
      let fits = (f.queue at (escape_queue d) inside (let h = r.direction in omega arith)).few in
      let most = escape-capacity (shape w) d ∙ r.two-slots in
      let most-held = take-few (count_of part) (drop 1 part) in
      omega arith

  full-ring : (n : ℕ) → n < nodes (shape w) → in_ring w d n ≡ 4 → network_refusal w ≡ 3
  full-ring n node e =
      no-network w r.in-range r.long
      (λ f. go f (or-e (ltb (round n 0) 2) (ltb (round n 1) 2) (rw (clause n) at (f.ring d n r.direction node))))
    where
      go : Network (shape w) w → T (ltb (round n 0) 2) ⊎ T (ltb (round n 1) 2) → ⊥
      go f (inl t) = let h = ltb→lt (round n 0) 2 t in let s = sum n in let m = few f n 1 node in omega arith
      go f (inr t) = let h = ltb→lt (round n 1) 2 t in let s = sum n in let m = few f n 0 node in omega arith

  ring-with-room : (n : ℕ) → in_ring w d n ≤ 3 → T (ring_has_room (shape w) w d n)
  ring-with-room n l = rw (clause n) (go (passed? (ltb (round n 0) 2)))
    where
      go : T (ltb (round n 0) 2) ⊎ T (not (ltb (round n 0) 2)) → T (ltb (round n 0) 2 || ltb (round n 1) 2)
      go (inl t) = or_l (ltb (round n 0) 2) (ltb (round n 1) 2) t
      go (inr t) =
          let full : 2 ≤ round n 0 = ltb-false (round n 0) 2 (T_false (ltb (round n 0) 2) t) in
          let s = sum n in
          or_r (ltb (round n 0) 2) (ltb (round n 1) 2) (lt→ltb (round n 1) 2 (omega arith))

  all-else-right : T (queues_fit (shape w) w)
      → ((e n : ℕ) → e < directions → n < nodes (shape w) → e ≢ d → T (ring_has_room (shape w) w e n))
      → T (counters_fit (shape w) w)
      → ((n : ℕ) → n < nodes (shape w) → in_ring w d n ≤ 3)
      → network_refusal w ≡ 0
  unfolding is_network rings_have_room network_clauses all_pass EachPasses
  all-else-right q others c l =
      network-passes w
      (network-of (shape w) w
      (clauses-by (network_clauses (shape w) w) (r.in-range, (le→leb (need (shape w)) (length w) r.long, (q, (rings, c))))))
    where
      ring : (e n : ℕ) → e < directions → n < nodes (shape w) → Dec (e ≡ d) → T (ring_has_room (shape w) w e n)
      ring e n he hn (yes z) = rw z (ring-with-room n (l n hn))
      ring e n he hn (no ne) = others e n he hn ne

      rings : T (rings_have_room (shape w) w)
      rings =
          all-by directions (λ e. all_below (nodes (shape w)) (λ n. ring_has_room (shape w) w e n))
          (λ e he. all-by (nodes (shape w)) (λ n. ring_has_room (shape w) w e n) (λ n hn. ring e n he hn (ℕ_discrete e d)))

-- R30: a node's number from its coordinates
from-coordinates : (x y z n : ℕ) → 0 < x → 0 < y → n < x * (y * z) → (n / x / y % z * y + n / x % y) * x + n % x ≡ n
from-coordinates x y z n px py h =
    let top : n / x / y < z = (div-lt_iff_lt-mul py).1 ((div-lt_iff_lt-mul px).1 (rw (mul_comm (z * y) x, mul_comm z y) h)) in
    ap (λ (a : ℕ). (a * y + n / x % y) * x + n % x) (mod-eq_of_lt top)
    ∙ ap (λ (a : ℕ). a * x + n % x) (together (n / x) y)
    ∙ together n x
  where
    together : (m k : ℕ) → m / k * k + m % k ≡ m
    together m k = ap (λ (a : ℕ). a + m % k) (mul_comm (m / k) k) ∙ add_comm (k * (m / k)) (m % k) ∙ mod-add-div m k

numbered : (w : List ℕ) (n : ℕ) → T (sizes_in_range (shape w)) → n < nodes (shape w) → Numbered w n
unfolding shape nodes product size coordinate digit
numbered w n r h = (
  ap (λ (a : ℕ). get_or w 0 0 * (get_or w 1 0 * a)) (mul-one (get_or w 2 0)),
  sym
      (from-coordinates (get_or w 0 0) (get_or w 1 0) (get_or w 2 0) n
      (size-pos (shape w) 0 (tor w r) (omega arith))
      (size-pos (shape w) 1 (tor w r) (omega arith))
      (rw (mul-one (get_or w 2 0)) at h)),
)

-- R76, R79, R87: a packet that stands in some queue passes the clauses for packets
passes_of : (f : ℕ → Bool) (p : ℕ) (ps : List ℕ) → T (all_of f ps) → T (elem p ps) → T (f p)
unfolding all_of elem
passes_of f p [] a t = absurd t
passes_of f p (x ∷ xs) a t = go (or-e (eqb p x) (elem p xs) t) (λ s. passes_of f p xs (and_r (f x) (all_of f xs) a) s)
  where
    go : T (eqb p x) ⊎ T (elem p xs) → (T (elem p xs) → T (f p)) → T (f p)
    go (inl s) later = rw (eqb→eq p x s) (and_l (f x) (all_of f xs) a)
    go (inr s) later = later s

fits-within : (w : List ℕ) (n q p : ℕ) → Within w n q p → PacketFits (shape w) n q p
fits-within w n q p s =
    packet-of (shape w) n q p
    (passes_of (packet_fits (shape w) n q) p (held (shape w) w n q) ((network-passed w s.passes).queue n q s.node s.queue).packets s.held-there)

in-escape : (d i : ℕ) → escape_queue d < queues → i < dimension_of d → T (is_escape (escape_queue d)) × (i < dimension_of (direction_of (escape_queue d)))
in-escape d i h l = (lt→ltb directions (escape_queue d) (omega arith), omega arith)

-- K12: in words that pass the check an offer is refused as the rules of Offer say
offer-by-rules : (w : List ℕ) (n destination chunks : ℕ) → network_refusal w ≡ 0
    → offer_refusal w n destination chunks ≡ offer_rules (shape w) w n destination chunks
unfolding offer_refusal
offer-by-rules w n destination chunks e = else_by-zero (network_refusal w) (offer_rules (shape w) w n destination chunks) e

own-node-only : (w : List ℕ) (n destination chunks : ℕ) → network_refusal w ≡ 0
    → (offer_refusal w n destination chunks ≡ 14) ↔ ((n < nodes (shape w)) × (n ≡ destination) × T (within 1 8 chunks))
own-node-only w n destination chunks e = rw (offer-by-rules w n destination chunks e) (own-node-exactly (shape w) w n destination chunks)

delivered-here : (w : List ℕ) (n q : ℕ) → Standing w n q → hops_left (head_of w n q) ≡ 0 → move_answer w n q deliver ≡ Ok (Some (head_of w n q))
unfolding move_answer
delivered-here w n q s z =
    let permitted : move_refusal w n q deliver ≡ 0 =
    by-rules w n q deliver 0 s.passes
    (permitted-by (shape w) w n q deliver
    (record {
      node = s.node;
      queue = s.queue;
      output = omega arith;
      holds = s.holds;
      route = arrived-route q (head_of w n q) z;
      room = λ ne. absurd (ne refl);
    })) in
    rw (eq-eqb (move_refusal w n q deliver) 0 permitted)

-- what the rows are computed with, to be unfolded by one name
computed : Unit {0}
unfolding definitions on_ring one_hop outside sources in_each in_sources crossing blocked
computed = tt

-- K5 to K7, direction by direction
each-passes : EachBelow (λ d. network_refusal (crossing d) ≡ 0) directions
unfolding computed
each-passes = ((((((tt, refl), refl), refl), refl), refl), refl)

crossing-passes : (d : ℕ) → d < directions → network_refusal (crossing d) ≡ 0
crossing-passes = each_at _ directions each-passes

one-ahead-each : EachBelow (λ d. Entries d 0 0 12) directions
unfolding computed
one-ahead-each =
    let entry : (d : ℕ) → d < directions → _ → Entries d 0 0 12 = λ d h. entries 0 0 12 d (crossing-passes d h) in
    ((((((tt, entry 0 (omega arith) refl), entry 1 (omega arith) refl), entry 2 (omega arith) refl), entry 3 (omega arith) refl), entry 4 (omega arith) refl), entry 5 (omega arith) refl)

two-ahead-each : EachBelow (λ d. Entries d 1 11 11) directions
unfolding computed
two-ahead-each =
    let entry : (d : ℕ) → d < directions → _ → Entries d 1 11 11 = λ d h. entries 1 11 11 d (crossing-passes d h) in
    ((((((tt, entry 0 (omega arith) refl), entry 1 (omega arith) refl), entry 2 (omega arith) refl), entry 3 (omega arith) refl), entry 4 (omega arith) refl), entry 5 (omega arith) refl)

none-ahead-each : EachBelow (λ d. Entries d 2 0 0) directions
unfolding computed
none-ahead-each =
    let entry : (d : ℕ) → d < directions → _ → Entries d 2 0 0 = λ d h. entries 2 0 0 d (crossing-passes d h) in
    ((((((tt, entry 0 (omega arith) refl), entry 1 (omega arith) refl), entry 2 (omega arith) refl), entry 3 (omega arith) refl), entry 4 (omega arith) refl), entry 5 (omega arith) refl)

-- K3, K4: where an empty network passes the check, which is computed once for each, and no rule of Offer applies, the packet stands where the change puts it
stands : (S : Shape) (n destination tag chunks word : ℕ) → network_refusal (empty S) ≡ 0 → offer_rules (shape (empty S)) (empty S) n destination chunks ≡ 0
    → held S (after_offer (shape (empty S)) (empty S) n destination tag chunks) n injection_queue ≡ word ∷ []
    → held S (offer_words (empty S) n destination tag chunks) n injection_queue ≡ word ∷ []
unfolding offer_words offer_refusal
stands S n destination tag chunks word passes rules there = rw (passes, rules) there

four-by-three-passes : network_refusal (empty four-by-three) ≡ 0
unfolding computed
four-by-three-passes = refl

six-by-two-passes : network_refusal (empty six-by-two) ≡ 0
unfolding computed
six-by-two-passes = refl

two-cubed-passes : network_refusal (empty two-cubed) ≡ 0
unfolding computed
two-cubed-passes = refl

-- rows, and parts of rows, that a must-fail edit breaks alone. K3: from an odd row, of a node with an even number
odd-row : Offered six-by-two 6 0 7 1 30064772064
unfolding computed
odd-row = (refl, stands six-by-two 6 0 7 1 _ six-by-two-passes refl refl)

-- K3, held: a hop along y, in an odd column
on-its-way : held four-by-two (move_words against-parity 5 0 3) 1 3 ≡ packet 3 (pos 2) (pos 0) (pos 0) ∷ []
unfolding computed
on-its-way = refl

-- K12, held: whatever budget is left after it; and in every queue
one-move : (budget room : ℕ) → drain_answer alone (suc budget) (suc room) ≡ Ok (drain_of 1 1 Stop.Emptied)
unfolding computed
one-move zero room = refl
one-move (suc budget) room = refl

thirteen-moves : drained in-every-queue 13 13
    ≡ record {
      words = set (set (set (empty two-cubed) accepted_at 13) delivered_at 13) moves_at 13;
      moves = map (λ q. move_of 0 q deliver) (in_order 0 queues);
      deliveries = replicate 13 (record { node = 0; packet = here 0 });
      stop = Stop.Emptied;
    }
unfolding computed
thirteen-moves = refl

-- so it is computed once for the answer and the ledger
in-every-passes : network_refusal in-every-queue ≡ 0
unfolding computed
in-every-passes = refl

thirteen-told : (drain_answer in-every-queue 13 13 ≡ Ok (drain_of 13 13 Stop.Emptied))
    × (drain_ledger in-every-queue 13 (replicate 13 0) ≡ replicate 13 (here 0))
unfolding drain_answer drain_ledger in_order
thirteen-told = (rw (in-every-passes, thirteen-moves) refl, rw (in-every-passes, thirteen-moves) refl)

-- R60, R76
offsets-of-a-word : map (λ i. offset i a_word) (in_order 0 dimensions) ≡ negsuc 1 ∷ pos 3 ∷ negsuc 15 ∷ []
unfolding computed
offsets-of-a-word = refl

widest-each : EachBelow
    (λ i. chosen (λ b. packet_fits (long_along 16 1 i) 0 injection_queue (straight (b % 16) i (signed b))) (in_order 0 32) ≡ in_order 0 9 ++ in_order 24 8) dimensions
unfolding computed
widest-each = (((tt, refl), refl), refl)

pub kept_cases : KeptCases
unfolding computed
kept_cases =
    record {
      k1 = refl;
      k2 = (refl, (λ w e. rw e), (λ w e. rw e), λ w e. too_short largest-plane w refl (omega arith) (let l : need largest-plane ≡ 115977 = refl in omega arith));
      k2-largest = (refl, (λ w e. rw e), (λ w e. rw e), λ w e. too_short largest w refl (omega arith) (let l : need largest ≡ 1855497 = refl in omega arith));
      k3 = ((refl, stands four-by-three 0 6 7 1 _ four-by-three-passes refl refl), (refl, stands four-by-three 0 6 7 8 _ four-by-three-passes refl refl));
      k3-odd-column = (refl, stands four-by-three 1 7 7 1 _ four-by-three-passes refl refl);
      k3-odd-row = odd-row;
      k3-parities-differ = ((refl, stands six-by-two 1 10 7 1 _ six-by-two-passes refl refl), (refl, stands six-by-two 6 3 7 1 _ six-by-two-passes refl refl));
      k3-parity-of-z = ((refl, stands two-cubed 4 3 7 1 _ two-cubed-passes refl refl), (refl, stands two-cubed 3 4 7 1 _ two-cubed-passes refl refl));
      k3-every =
          λ w n destination tag chunks i b. (
            offset-nearer (shape w) n destination tag chunks (tor w b.in-range) b.from b.to (fits w b.in-range) b.few (short w b.in-range) i b.dimension,
            offset-halfway (shape w) n destination tag chunks (tor w b.in-range) b.from b.to (fits w b.in-range) b.few (short w b.in-range) i b.dimension,
            λ odd e. odd (omega arith),
          );
      k3-held = (refl, outputs against-parity 5 _ refl refl, outputs against-parity 0 _ refl refl, on-its-way, refl, refl, refl, refl, refl);
      k3-held-every = hops-hop-le;
      k3-fits-every = λ w n q i h p r hn hi e. halfway-fits (shape w) n q i h p (tor w r) hn hi e (short w r i hi);
      k4 = (refl, stands four-by-three 0 11 0 1 _ four-by-three-passes refl refl);
      k5-sources = (refl, refl, refl, refl, refl, refl);
      k5-passes = crossing-passes;
      k5 = each_at _ directions one-ahead-each;
      k5-every = one-ahead;
      k5-turn-into-z = (refl, by-rules (turning 1) 0 7 11 12 refl refl, by-rules (turning 0) 0 7 11 0 refl refl, by-rules (turning 2) 0 7 11 11 refl refl);
      k6 = each_at _ directions two-ahead-each;
      k6-every = λ w n q d s e. entered w n q d s 2 e;
      k7 = each_at _ directions none-ahead-each;
      k7-every = none_ahead;
      k8 = λ s w z. wrong_size (shape_of s) w (out_of_range s z);
      k9 = (refl, by-rules before-and-after 0 0 0 10 refl refl, by-rules before-and-after 1 7 7 10 refl refl);
      k9-every =
          λ w n q s. (
            λ i h far. no-route w n q 0 s (omega arith) (not-delivered q (head_of w n q) i h far),
            λ done d h. no-route w n q (escape_queue d) s (omega arith) (not-onward q (head_of w n q) (escape_queue d) done (λ z. omega arith)),
          );
      k10 = λ room. (without-budget (empty four-by-three) room refl, without-budget before-and-after room refl);
      k10-every = without-budget;
      k11 = each_at _ directions ((((((tt, (refl, refl, refl)), (refl, refl, refl)), (refl, refl, refl)), (refl, refl, refl)), (refl, refl, refl)), (refl, refl, refl));
      k11-every = λ w d r. (full-ring w d r, all-else-right w d r);
      k12 = (refl, λ tag. refl);
      k12-every =
          λ w n destination chunks e. (
            own-node-only w n destination chunks e,
            λ one hn hd low high. (own-node-only w n destination chunks e).1 (hn, omega (arith, one, hn, hd), between-by 1 8 chunks (record { low = low; high = high })),
            λ h. offer-by-rules w n n chunks e ∙ no-node-first (shape w) w n chunks h,
          );
      chunk-number-every = λ w n destination chunks e. rw (offer-by-rules w n destination chunks e) (chunks-exactly (shape w) w n destination chunks);
      load-every = λ w n q e hn hq. queue-loaded (shape w) w n q ((network-passed w e).queue n q hn hq);
      k12-held = (refl, refl, refl, one-move, one-word);
      k12-in-every-queue = (in-every-passes, thirteen-told.0, thirteen-told.1);
      k12-held-every =
          λ w n q s z. (
            delivered-here w n q s z,
            λ o h ne. no-route w n q o s h (not-onward q (head_of w n q) o (λ i l. arrived-distance i (head_of w n q) l z) ne),
          );
      k12-fits-every = λ w n q p r h c u z e. own-fits (shape w) n q p (tor w r) h c u z e;
      routes-table = refl;
      routes-every = selection-routes;
      adaptive-order = (refl, refl, refl, (refl, refl, refl, refl));
      escape-order = (
        leaves (packet 7 (pos 1) (pos 1) (pos 1)) refl refl,
        leaves (packet 6 (pos 0) (pos 1) (pos 1)) refl refl,
        leaves (packet 4 (pos 0) (pos 0) (pos 1)) refl refl,
      );
      node-number = (refl, refl, refl);
      node-number-every = numbered;
      fields-of-a-word = (refl, offsets-of-a-word, refl);
      spare-bit = refl;
      spare-bit-every = λ w n q p s. (sym (spare-is p) ∙ (fits-within w n q p s).clear, sym (upper_spare-is p) ∙ (fits-within w n q p s).upper-clear);
      widest-offsets = (each_at _ dimensions widest-each, refl);
      widest-offsets-every = λ w n q p i s h. le_trans (reach-least i q p) ((fits-within w n q p s).near i h);
      lower-offsets = (refl, refl, refl, refl);
      lower-offsets-queues = (refl, refl, refl);
      lower-offsets-every =
          λ w n d p i s l. let (e, h) = in-escape d i s.queue l in (fits-within w n (escape_queue d) p s).lower e i h;
      most-work = (refl, refl);
      nine_words = (refl, (λ w h. no_header w (omega arith)), past-header, refl);
      twelve-is-the-last = (refl, refl, refl, refl, refl, refl, refl, refl, refl);
      rows = kept_rows;
      together = together_rows;
    }
  where
    leaves : (p : ℕ) {refusals : List ℕ} → network_refusal (only two-cubed injection_queue p) ≡ 0
        → map (λ o. move_rules (shape (only two-cubed injection_queue p)) (only two-cubed injection_queue p) 0 injection_queue o) (in_order 0 queues) ≡ refusals
        → leaving p ≡ refusals
    leaves p e r = outputs (only two-cubed injection_queue p) 0 _ e r

    one-word : (budget l : ℕ) (ledger : List ℕ) → drain_ledger alone (suc budget) (l ∷ ledger) ≡ here 0 ∷ ledger
    one-word zero l ledger = refl
    one-word (suc budget) l ledger = refl
