-- The check of a network as facts, and back: each Boolean definition of Check.antt is the record of its clauses that stands here.
-- Order: how far a packet may have to go; the way back; a packet, half-way round and at its own node; a queue; its room; the whole. Assumes nothing.
use Rattle.std.specs.Prelude.{◌≡◌, ◌⊎◌, ◌≢◌, true, false, not, ◌&&◌, ◌||◌, List, [], ◌∷◌, T, leb, ltb, ℤ, pos, negsuc, length, get_or}
use Rattle.std.proofs.Math.Path.{refl, ap, sym}
use Rattle.std.proofs.Common.{◌∙◌, inl, inr, le_trans, eq-eqb, ne_eqb, leb→le, le→leb, ltb→lt, lt→ltb, eqb→eq, T_not}
use Rattle.std.proofs.Math.Bool.{Bool, cond}
use Prim.Native.Nat.{ℕ, ◌+◌, ◌*◌, ◌-◌, ◌%◌, ◌<◌, ◌≤◌}
use Rattle.std.proofs.Math.Decide.{ℕ_discrete}
use native.Mathlib.Omega.{arith}
use Rattle.std.proofs.Math.Dec.{eqb, eqb_refl}
use Rattle.std.proofs.Math.IntN.{nat_abs}
use Rattle.base.specs.Tests.{all_pass, EachPasses, all_below, all_of}
use Rattle.base.proofs.Tests.{clauses-of, clauses-by, or_l, or_r, or-e, all-at, all-by, passed?}
use Rattle.base.proofs.Bools.{same_test}
use Rattle.base.specs.Digits.{digit, rotate}
use Rattle.base.proofs.Digits.{rotate-rotate, rotate-rounds, radix-pos}
use Rattle.network.specs.Sizes.{Shape, size, nodes, queues, directions, dimensions, dimension_of, direction_of, is_plus, plus, minus, is_escape, injection_queue, is_adaptive, capacity, largest_ring}
use Rattle.network.specs.Packet.{fields, spare_field, destination_field, upper_spare_field, destination, spare, upper_spare, offset, with_offset, distance, forward, backward, hops, hops_left}
use Rattle.network.specs.PacketLaws.{OffsetRange, landing}
use Rattle.network.proofs.PacketLaws.{field-with, offset-with-same, offset-with-other, one_way, distance_is, arrived-distance, arrived-hops, landing-plus, landing-minus}
use Rattle.network.specs.Torus.{coordinate, stride, along, neighbour, moved_by}
use Rattle.network.specs.TorusLaws.{Torus}
use Rattle.network.proofs.TorusLaws.{size-pos, coordinates-eq, moved_by-lt, moved_by-here, coordinate-landing}
use Rattle.network.specs.Layout.{held, taken, queue_part, count_of, unused_of, need, accepted, delivered, moves_made}
use Rattle.network.proofs.LayoutLaws.{taken-length, length_taken, taken-most}
use Rattle.network.specs.Check.{longest, spare_clear, upper_spare_clear, right_place, is_queue_of, reach, near_enough, opposite, right_sign, lower_done, packet_fits, queue_fits, queues_fit, has_room, ring_has_room, rings_have_room, packets_held, work_left, most_accepted, most_work, counters_fit, is_network}
use Rattle.network.specs.CheckLaws.{PacketFits, QueueFits, Loaded, Network, network_clauses}

-- the test of an equation, as a fact and back
pub eq-T : (a b : ℕ) → a ≡ b → T (eqb a b)
eq-T a b e = rw e (eqb_refl b)

-- what is bounded by half of the size: the distance, and one more in a queue of that dimension
pub reach-least : (i q p : ℕ) → distance i p ≤ reach i q p
unfolding reach
reach-least i q p = go (is_queue_of i q)
  where
    go : (b : Bool) → distance i p ≤ cond b (distance i p + 1) (distance i p)
    go true = omega arith
    go false = omega arith

pub reach-most : (i q p : ℕ) → reach i q p ≤ distance i p + 1
unfolding reach
reach-most i q p = go (is_queue_of i q)
  where
    go : (b : Bool) → cond b (distance i p + 1) (distance i p) ≤ distance i p + 1
    go true = omega arith
    go false = omega arith

pub reach-other : (i q p : ℕ) → dimension_of (direction_of q) ≢ i → reach i q p ≡ distance i p
unfolding reach is_queue_of
reach-other i q p ne = go (eqb q injection_queue) (eqb (dimension_of (direction_of q)) i) (ne_eqb (dimension_of (direction_of q)) i ne)
  where
    go : (a b : Bool) → b ≡ false → cond (not a && b) (distance i p + 1) (distance i p) ≡ distance i p
    go true b e = refl
    go false b e = rw e

pub reach-injection : (i p : ℕ) → reach i injection_queue p ≡ distance i p
unfolding reach is_queue_of
reach-injection i p = refl

pub reach-own : (q p : ℕ) → q ≢ injection_queue → reach (dimension_of (direction_of q)) q p ≡ distance (dimension_of (direction_of q)) p + 1
unfolding reach is_queue_of
reach-own q p ne = rw (ne_eqb q injection_queue ne, eq-eqb (dimension_of (direction_of q)) (dimension_of (direction_of q)) refl)

-- the opposite of a direction is in the same dimension, and no packet has hops left both ways
pub opposite-dimension : (d : ℕ) → dimension_of (opposite d) ≡ dimension_of d
unfolding opposite
opposite-dimension d = go (is_plus d)
  where
    go : (b : Bool) → dimension_of (cond b (minus (dimension_of d)) (plus (dimension_of d))) ≡ dimension_of d
    go true = omega arith
    go false = omega arith

pub opposite-lt : (d : ℕ) → d < directions → opposite d < directions
unfolding opposite
opposite-lt d h = go (is_plus d)
  where
    go : (b : Bool) → cond b (minus (dimension_of d)) (plus (dimension_of d)) < directions
    go true = omega arith
    go false = omega arith

pub only-way : (d p : ℕ) → hops d p ≢ 0 → hops (opposite d) p ≡ 0
unfolding opposite
only-way d p ne = go (ℕ_discrete (d % 2) 0) (one_way (dimension_of d) p)
  where
    go : Dec (d % 2 ≡ 0) → (hops (plus (dimension_of d)) p ≡ 0) ⊎ (hops (minus (dimension_of d)) p ≡ 0)
        → hops (cond (is_plus d) (minus (dimension_of d)) (plus (dimension_of d))) p ≡ 0
    go (yes e) (inl z) = absurd (ne (let way : d ≡ plus (dimension_of d) = omega arith in ap (λ (x : ℕ). hops x p) way ∙ z))
    go (yes e) (inr z) = rw (eq-eqb (d % 2) 0 e) z
    go (no e) (inl z) = rw (ne_eqb (d % 2) 0 e) z
    go (no e) (inr z) = absurd (ne (let way : d ≡ minus (dimension_of d) = omega arith in ap (λ (x : ℕ). hops x p) way ∙ z))

-- a step and one step back
pub neighbour-back : (S : Shape) (d n : ℕ) → Torus S → d < directions → neighbour S (opposite d) (neighbour S d n) ≡ n
unfolding neighbour along stride opposite size
neighbour-back S d n tor hd = go (ℕ_discrete (d % 2) 0)
  where
    i : ℕ
    i = dimension_of d

    k : ℕ
    k = get_or S.sizes i 0

    inside : i < length S.sizes
    inside = let l = tor.dims in omega arith

    pos : 0 < k
    pos = radix-pos S.sizes i tor.positive inside

    round : (a b : ℕ) → a + b ≡ 1 * k → rotate S.sizes i b (rotate S.sizes i a n) ≡ n
    round a b e = rotate-rotate S.sizes i a b n tor.positive inside ∙ ap (λ (c : ℕ). rotate S.sizes i c n) e ∙ rotate-rounds S.sizes i 1 n tor.positive inside

    -- plus, then minus; minus, then plus
    go : Dec (d % 2 ≡ 0)
        → rotate S.sizes (dimension_of (cond (is_plus d) (minus i) (plus i)))
        (1 * cond (is_plus (cond (is_plus d) (minus i) (plus i))) 1 (get_or S.sizes (dimension_of (cond (is_plus d) (minus i) (plus i))) 0 - 1))
        (rotate S.sizes i (1 * cond (is_plus d) 1 (k - 1)) n)
        ≡ n
    go (yes e) =
        rw (eq-eqb (d % 2) 0 e, ne_eqb (minus i % 2) 0 odd, same)
        (round (1 * 1) (1 * (k - 1)) (omega (arith, pos)))
      where
        odd : minus i % 2 ≡ 0 → ⊥
        odd z = omega arith

        same : dimension_of (minus i) ≡ i
        same = omega arith
    go (no e) =
        rw (ne_eqb (d % 2) 0 e, eq-eqb (plus i % 2) 0 even, same)
        (round (1 * (k - 1)) (1 * 1) (omega (arith, pos)))
      where
        even : plus i % 2 ≡ 0
        even = omega arith

        same : dimension_of (plus i) ≡ i
        same = omega arith

-- no hop left either way
pub both_zero : (d p : ℕ) → hops d p ≡ 0 → hops (opposite d) p ≡ 0 → distance (dimension_of d) p ≡ 0
unfolding opposite
both_zero d p a b = go (ℕ_discrete (d % 2) 0) b
  where
    go : Dec (d % 2 ≡ 0) → hops (cond (is_plus d) (minus (dimension_of d)) (plus (dimension_of d))) p ≡ 0 → distance (dimension_of d) p ≡ 0
    go (yes e) c =
        let way : d ≡ plus (dimension_of d) = omega arith in
        let x : hops (plus (dimension_of d)) p ≡ 0 = ap (λ (y : ℕ). hops y p) (sym way) ∙ a in
        let z : hops (minus (dimension_of d)) p ≡ 0 = rw (eq-eqb (d % 2) 0 e) at c in
        let t = distance_is (dimension_of d) p in
        omega arith
    go (no e) c =
        let way : d ≡ minus (dimension_of d) = omega arith in
        let x : hops (minus (dimension_of d)) p ≡ 0 = ap (λ (y : ℕ). hops y p) (sym way) ∙ a in
        let z : hops (plus (dimension_of d)) p ≡ 0 = rw (ne_eqb (d % 2) 0 e) at c in
        let t = distance_is (dimension_of d) p in
        omega arith

packet_clauses : Shape → ℕ → ℕ → ℕ → List Bool
packet_clauses S n q p = spare_clear p ∷ upper_spare_clear p ∷ right_place S n p ∷ near_enough S q p ∷ right_sign q p ∷ lower_done q p ∷ []

place_clauses : Shape → ℕ → ℕ → List Bool
place_clauses S n p = ltb (destination p) (nodes S) ∷ eqb (moved_by S p n) (destination p) ∷ []

pub packet-of : (S : Shape) (n q p : ℕ) → T (packet_fits S n q p) → PacketFits S n q p
unfolding packet_fits spare_clear upper_spare_clear right_place near_enough right_sign lower_done packet_clauses place_clauses all_pass EachPasses
packet-of S n q p t =
    let (clear, (upper, (place, (near, (sign, lower))))) = clauses-of (packet_clauses S n q p) t in
    let (addressed, arrives) = clauses-of (place_clauses S n p) place in
    record {
      clear = eqb→eq (spare p) 0 clear;
      upper-clear = eqb→eq (upper_spare p) 0 upper;
      addressed = ltb→lt (destination p) (nodes S) addressed;
      arrives = eqb→eq (moved_by S p n) (destination p) arrives;
      near = λ i h. leb→le (reach i q p) (longest S i) (all-at dimensions (λ j. leb (reach j q p) (longest S j)) near i h);
      sign = λ ne. signed ne (or-e (eqb q injection_queue) (eqb (hops (opposite (direction_of q)) p) 0) sign);
      lower = λ e i h. low e i h (or-e (not (is_escape q)) (all_below (dimension_of (direction_of q)) (λ j. eqb (distance j p) 0)) lower);
    }
  where
    signed : q ≢ injection_queue → T (eqb q injection_queue) ⊎ T (eqb (hops (opposite (direction_of q)) p) 0) → hops (opposite (direction_of q)) p ≡ 0
    signed ne (inl e) = absurd (ne (eqb→eq q injection_queue e))
    signed ne (inr e) = eqb→eq (hops (opposite (direction_of q)) p) 0 e

    low : T (is_escape q) → (i : ℕ) → i < dimension_of (direction_of q) → T (not (is_escape q)) ⊎ T (all_below (dimension_of (direction_of q)) (λ j. eqb (distance j p) 0))
        → distance i p ≡ 0
    low e i h (inl no') = absurd (T_not (is_escape q) no' e)
    low e i h (inr all) = eqb→eq (distance i p) 0 (all-at (dimension_of (direction_of q)) (λ j. eqb (distance j p) 0) all i h)

pub packet-by : (S : Shape) (n q p : ℕ) → PacketFits S n q p → T (packet_fits S n q p)
unfolding packet_fits spare_clear upper_spare_clear right_place near_enough right_sign lower_done packet_clauses place_clauses all_pass EachPasses
packet-by S n q p f =
    clauses-by (packet_clauses S n q p) (
      eq-T (spare p) 0 f.clear,
      (eq-T (upper_spare p) 0 f.upper-clear, (place, (near, (signed (passed? (eqb q injection_queue)), low (passed? (is_escape q)))))),
    )
  where
    place : T (right_place S n p)
    place = clauses-by (place_clauses S n p) (lt→ltb (destination p) (nodes S) f.addressed, eq-T (moved_by S p n) (destination p) f.arrives)

    near : T (near_enough S q p)
    near = all-by dimensions (λ j. leb (reach j q p) (longest S j)) (λ i h. le→leb (reach i q p) (longest S i) (f.near i h))

    signed : T (eqb q injection_queue) ⊎ T (not (eqb q injection_queue)) → T (right_sign q p)
    signed (inl e) = or_l (eqb q injection_queue) (eqb (hops (opposite (direction_of q)) p) 0) e
    signed (inr ne) =
        or_r (eqb q injection_queue) (eqb (hops (opposite (direction_of q)) p) 0)
        (eq-T (hops (opposite (direction_of q)) p) 0 (f.sign (λ e. T_not (eqb q injection_queue) ne (eq-T q injection_queue e))))

    low : T (is_escape q) ⊎ T (not (is_escape q)) → T (lower_done q p)
    low (inl e) =
        or_r (not (is_escape q)) (all_below (dimension_of (direction_of q)) (λ j. eqb (distance j p) 0))
        (all-by (dimension_of (direction_of q)) (λ j. eqb (distance j p) 0) (λ i h. eq-T (distance i p) 0 (f.lower e i h)))
    low (inr no') = or_l (not (is_escape q)) (all_below (dimension_of (direction_of q)) (λ j. eqb (distance j p) 0)) no'

-- R76 to R79: the check judges both signs of an offset half-way round alike. They lead to the same node; and in a queue of that dimension neither
-- passes, since a hop along it has been made
module _ (S : Shape) (n q i h p : ℕ) (tor : Torus S) (node : n < nodes S) (k : i < dimensions) (half : 2 * h ≡ size S i) where
  -- one of the two in the place of the other
  module _ (y z : ℤ) (ry : OffsetRange y) (rz : OffsetRange z) (ny : nat_abs y ≡ h) (nz : nat_abs z ≡ h)
      (lands : landing (size S i) (coordinate S i n) z ≡ landing (size S i) (coordinate S i n) y) where
    field-same : (f : ℕ) → dimensions ≤ f → digit fields f (with_offset i z p) ≡ digit fields f (with_offset i y p)
    field-same f a = field-with f i z p a k rz ∙ sym (field-with f i y p a k ry)

    destination-same : destination (with_offset i z p) ≡ destination (with_offset i y p)
    unfolding destination
    destination-same = field-same destination_field (omega arith)

    offset-same : (j : ℕ) → j < dimensions → j ≢ i → offset j (with_offset i z p) ≡ offset j (with_offset i y p)
    offset-same j l ne = offset-with-other i j z p k l ne rz ∙ sym (offset-with-other i j y p k l ne ry)

    distance-same : (j : ℕ) → j < dimensions → distance j (with_offset i z p) ≡ distance j (with_offset i y p)
    unfolding distance
    distance-same j l = go (ℕ_discrete j i)
      where
        go : Dec (j ≡ i) → nat_abs (offset j (with_offset i z p)) ≡ nat_abs (offset j (with_offset i y p))
        go (yes e) = rw e (ap nat_abs (offset-with-same i z p k rz) ∙ nz ∙ sym ny ∙ sym (ap nat_abs (offset-with-same i y p k ry)))
        go (no ne) = ap nat_abs (offset-same j l ne)

    moved_by-same : moved_by S (with_offset i z p) n ≡ moved_by S (with_offset i y p) n
    moved_by-same =
        coordinates-eq S (moved_by S (with_offset i z p) n) (moved_by S (with_offset i y p) n) tor
        (moved_by-lt S n (with_offset i z p) tor node) (moved_by-lt S n (with_offset i y p) tor node)
        (λ j l. coordinate-landing S j n (with_offset i z p) tor l ∙ there j l (ℕ_discrete j i) ∙ sym (coordinate-landing S j n (with_offset i y p) tor l))
      where
        there : (j : ℕ) → j < dimensions → Dec (j ≡ i)
            → landing (size S j) (coordinate S j n) (offset j (with_offset i z p)) ≡ landing (size S j) (coordinate S j n) (offset j (with_offset i y p))
        there j l (yes e) =
            rw e
            (ap (landing (size S i) (coordinate S i n)) (offset-with-same i z p k rz)
            ∙ lands
            ∙ sym (ap (landing (size S i) (coordinate S i n)) (offset-with-same i y p k ry)))
        there j l (no ne) = ap (landing (size S j) (coordinate S j n)) (offset-same j l ne)

    reach-same : (j : ℕ) → j < dimensions → reach j q (with_offset i z p) ≡ reach j q (with_offset i y p)
    unfolding reach
    reach-same j l = ap (λ (a : ℕ). cond (is_queue_of j q) (a + 1) a) (distance-same j l)

    -- in a queue of that dimension
    too_far : PacketFits S n q (with_offset i y p) → q ≢ injection_queue → dimension_of (direction_of q) ≡ i → ⊥
    unfolding distance
    too_far f ne e =
        let near = f.near (dimension_of (direction_of q)) (omega arith) in
        let own = reach-own q (with_offset i y p) ne in
        let far : nat_abs (offset (dimension_of (direction_of q)) (with_offset i y p)) ≡ h = rw e (ap nat_abs (offset-with-same i y p k ry) ∙ ny) in
        let long : 2 * h ≡ size S (dimension_of (direction_of q)) = rw e half in
        omega arith

    either-sign : PacketFits S n q (with_offset i y p) → PacketFits S n q (with_offset i z p)
    unfolding hops spare upper_spare
    either-sign f =
        record {
          clear = field-same spare_field (omega arith) ∙ f.clear;
          upper-clear = field-same upper_spare_field (omega arith) ∙ f.upper-clear;
          addressed = let e = destination-same in let l = f.addressed in omega arith;
          arrives = moved_by-same ∙ f.arrives ∙ sym destination-same;
          near = λ j l. let e = reach-same j l in let m = f.near j l in omega arith;
          sign = λ ne. sign ne (ℕ_discrete (dimension_of (opposite (direction_of q))) i);
          lower = λ e j l. distance-same j (omega arith) ∙ f.lower e j l;
        }
      where
        sign : q ≢ injection_queue → Dec (dimension_of (opposite (direction_of q)) ≡ i) → hops (opposite (direction_of q)) (with_offset i z p) ≡ 0
        sign ne (yes e) = absurd (too_far f ne (sym (opposite-dimension (direction_of q)) ∙ e))
        sign ne (no apart) =
            let d : ℕ = opposite (direction_of q) in
            ap (λ (o : ℤ). cond (is_plus d) (forward o) (backward o))
            (offset-same (dimension_of d) (let same = opposite-dimension (direction_of q) in omega arith) apart)
            ∙ f.sign ne

  pub halfway-fits : size S i ≤ largest_ring → packet_fits S n q (with_offset i (pos h) p) ≡ packet_fits S n q (with_offset i (negsuc (h - 1)) p)
  unfolding forward backward
  halfway-fits short =
      same_test (packet_fits S n q (with_offset i (pos h) p)) (packet_fits S n q (with_offset i (negsuc (h - 1)) p))
      (λ t. packet-by S n q _ (either-sign (pos h) (negsuc (h - 1)) plus minus refl away (sym lands) (packet-of S n q _ t)))
      (λ t. packet-by S n q _ (either-sign (negsuc (h - 1)) (pos h) minus plus away refl lands (packet-of S n q _ t)))
    where
      some : 0 < size S i
      some = size-pos S i tor k

      plus : OffsetRange (pos h)
      plus = record { most = omega arith; least = omega arith }

      minus : OffsetRange (negsuc (h - 1))
      minus = let s = some in record { most = omega arith; least = omega arith }

      away : nat_abs (negsuc (h - 1)) ≡ h
      away = let s = some in omega arith

      lands : landing (size S i) (coordinate S i n) (pos h) ≡ landing (size S i) (coordinate S i n) (negsuc (h - 1))
      lands =
          let s = some in
          landing-plus (size S i) (coordinate S i n) h
          ∙ sym (landing-minus (size S i) (coordinate S i n) h (omega arith))
          ∙ ap (λ (m : ℕ). landing (size S i) (coordinate S i n) (negsuc m)) (let rest : size S i - h - 1 ≡ h - 1 = omega arith in rest)

-- R86: a packet for the very node where it stands passes in the injection queue and in the queues of a dimension along which a hop can have been
-- made, and in no other
module _ (S : Shape) (n q p : ℕ) (tor : Torus S) (node : n < nodes S) (spared : spare p ≡ 0) (upper : upper_spare p ≡ 0) (arrived : hops_left p ≡ 0) (own : destination p ≡ n) where
  MayStand : Type 0
  MayStand = (q ≡ injection_queue) ⊎ (2 ≤ size S (dimension_of (direction_of q)))

  own-clauses : MayStand → PacketFits S n q p
  unfolding MayStand
  own-clauses may =
      record {
        clear = spared;
        upper-clear = upper;
        addressed = let e = own in let h = node in omega arith;
        arrives = moved_by-here S n p tor node arrived ∙ sym own;
        near = λ i h. near i h may (ℕ_discrete (dimension_of (direction_of q)) i);
        sign = λ ne. arrived-hops (opposite (direction_of q)) p (opposite-lt (direction_of q) (omega arith)) arrived;
        lower = λ e i h. arrived-distance i p (omega arith) arrived;
      }
    where
      near : (i : ℕ) → i < dimensions → MayStand → Dec (dimension_of (direction_of q) ≡ i) → reach i q p ≤ longest S i
      near i h (inl e) d = let r = ap (λ (k : ℕ). reach i k p) e ∙ reach-injection i p in let z = arrived-distance i p h arrived in omega arith
      near i h (inr two) (yes e) =
          let r = reach-most i q p in
          let z = arrived-distance i p h arrived in
          let s : 2 ≤ size S i = rw e at two in
          omega arith
      near i h (inr two) (no ne) = let r = reach-other i q p ne in let z = arrived-distance i p h arrived in omega arith

  pub own-fits : packet_fits S n q p ≡ (eqb q injection_queue || leb 2 (size S (dimension_of (direction_of q))))
  unfolding MayStand
  own-fits = same_test (packet_fits S n q p) (a || b) (λ f. room (packet-of S n q p f) (ℕ_discrete q injection_queue)) (λ r. packet-by S n q p (own-clauses (either (or-e a b r))))
    where
      a : Bool
      a = eqb q injection_queue

      b : Bool
      b = leb 2 (size S (dimension_of (direction_of q)))

      room : PacketFits S n q p → Dec (q ≡ injection_queue) → T (a || b)
      room f (yes e) = or_l a b (eq-T q injection_queue e)
      room f (no ne) =
          let l = f.near (dimension_of (direction_of q)) (omega arith) in
          let r = reach-own q p ne in
          or_r a b (le→leb 2 (size S (dimension_of (direction_of q))) (omega arith))

      either : T a ⊎ T b → MayStand
      either (inl t) = inl (eqb→eq q injection_queue t)
      either (inr t) = inr (leb→le 2 (size S (dimension_of (direction_of q))) t)

queue_clauses : Shape → List ℕ → ℕ → ℕ → List Bool
queue_clauses S w n q =
    leb (count_of (queue_part S w n q)) (capacity S q)
    ∷ all_of (eqb 0) (unused_of (queue_part S w n q))
    ∷ leb (taken S w n q) (capacity S q)
    ∷ all_of (packet_fits S n q) (held S w n q)
    ∷ []

pub queue-of : (S : Shape) (w : List ℕ) (n q : ℕ) → T (queue_fits S w n q) → QueueFits S w n q
unfolding queue_fits queue_clauses all_pass EachPasses
queue-of S w n q t =
    let (few, (unused, (light, packets))) = clauses-of (queue_clauses S w n q) t in
    record {
      few = leb→le (count_of (queue_part S w n q)) (capacity S q) few;
      unused = unused;
      light = leb→le (taken S w n q) (capacity S q) light;
      packets = packets;
    }

pub queue-by : (S : Shape) (w : List ℕ) (n q : ℕ) → QueueFits S w n q → T (queue_fits S w n q)
unfolding queue_fits queue_clauses all_pass EachPasses
queue-by S w n q f =
    clauses-by (queue_clauses S w n q) (
      le→leb (count_of (queue_part S w n q)) (capacity S q) f.few,
      (f.unused, (le→leb (taken S w n q) (capacity S q) f.light, f.packets)),
    )

pub queue-loaded : (S : Shape) (w : List ℕ) (n q : ℕ) → QueueFits S w n q → Loaded S w n q
queue-loaded S w n q f =
    record { least = length_taken S w n q; most = taken-most S w n q; few = le_trans (length_taken S w n q) f.light }

-- room in a queue, as a fact and back, and where it counts slots by the number held
pub has-room-of : (S : Shape) (w : List ℕ) (n q : ℕ) → T (has_room S w n q) → taken S w n q < capacity S q
unfolding has_room
has-room-of S w n q t = ltb→lt (taken S w n q) (capacity S q) t

pub has-room-by : (S : Shape) (w : List ℕ) (n q : ℕ) → taken S w n q < capacity S q → T (has_room S w n q)
unfolding has_room
has-room-by S w n q h = lt→ltb (taken S w n q) (capacity S q) h

pub has-room-held : (S : Shape) (w : List ℕ) (n q : ℕ) → is_adaptive q ≡ false → has_room S w n q ≡ ltb (length (held S w n q)) (capacity S q)
unfolding has_room
has-room-held S w n q e = ap (λ (k : ℕ). ltb k (capacity S q)) (taken-length S w n q e)

counter_clauses : Shape → List ℕ → List Bool
counter_clauses S w =
    leb (accepted w) most_accepted
    ∷ eqb (delivered w + packets_held S w) (accepted w)
    ∷ leb (moves_made w + work_left S w) (most_work * accepted w)
    ∷ []

pub network-of : (S : Shape) (w : List ℕ) → T (is_network S w) → Network S w
unfolding is_network queues_fit rings_have_room counters_fit network_clauses counter_clauses all_pass EachPasses
network-of S w t =
    let (range, (long, (queue, (ring, counters)))) = clauses-of (network_clauses S w) t in
    let (few, (counted, bounded)) = clauses-of (counter_clauses S w) counters in
    record {
      in-range = range;
      long = leb→le (need S) (length w) long;
      queue =
          λ n q hn hq. queue-of S w n q (all-at queues (λ r. queue_fits S w n r) (all-at (nodes S) (λ m. all_below queues (λ r. queue_fits S w m r)) queue n hn) q hq);
      ring =
          λ d n hd hn.
          all-at (nodes S) (λ m. ring_has_room S w d m) (all-at directions (λ e. all_below (nodes S) (λ m. ring_has_room S w e m)) ring d hd) n hn;
      few-accepted = leb→le (accepted w) most_accepted few;
      counted = eqb→eq (delivered w + packets_held S w) (accepted w) counted;
      bounded = leb→le (moves_made w + work_left S w) (most_work * accepted w) bounded;
    }

pub network-by : (S : Shape) (w : List ℕ) → Network S w → T (is_network S w)
unfolding is_network queues_fit rings_have_room counters_fit network_clauses counter_clauses all_pass EachPasses
network-by S w f = clauses-by (network_clauses S w) (f.in-range, (le→leb (need S) (length w) f.long, (queue, (ring, counters))))
  where
    queue : T (queues_fit S w)
    queue =
        all-by (nodes S) (λ n. all_below queues (λ q. queue_fits S w n q))
        (λ n hn. all-by queues (λ q. queue_fits S w n q) (λ q hq. queue-by S w n q (f.queue n q hn hq)))

    ring : T (rings_have_room S w)
    ring =
        all-by directions (λ d. all_below (nodes S) (λ n. ring_has_room S w d n))
        (λ d hd. all-by (nodes S) (λ n. ring_has_room S w d n) (λ n hn. f.ring d n hd hn))

    counters : T (counters_fit S w)
    counters =
        clauses-by (counter_clauses S w) (
          le→leb (accepted w) most_accepted f.few-accepted,
          (eq-T (delivered w + packets_held S w) (accepted w) f.counted, le→leb (moves_made w + work_left S w) (most_work * accepted w) f.bounded),
        )
