-- A packet that goes on by one of its routes fits the queue that it comes to. Order: what a route says of the packet; the packet after the hop.
-- Argued once over the direction. Assumes nothing.
use Rattle.std.specs.Prelude.{◌≡◌, ◌⊎◌, ◌≢◌, ℕ, ◌+◌, ◌-◌, ◌<◌, ◌≤◌, T}
use Rattle.std.proofs.Common.{ap, sym, ◌∙◌, inl, inr, arith, ltb→lt}
use Rattle.std.proofs.Math.Decide.{ℕ_discrete}
use Rattle.network.specs.Sizes.{Shape, nodes, directions, dimensions, dimension_of, direction_of, is_escape, injection_queue, adaptive_queue, escape_queue}
use Rattle.network.specs.Packet.{spare_field, destination_field, upper_spare_field, destination, spare, upper_spare, distance, hops, heading, hop}
use Rattle.network.proofs.PacketLaws.{dimension-lt, field-hop, distance-hop-same, distance-hop-other, hops-hop-same, hops-le, heading-dimension, heading-lt, hops-heading}
use Rattle.network.specs.Torus.{neighbour}
use Rattle.network.specs.TorusLaws.{Torus}
use Rattle.network.proofs.TorusLaws.{moved_by-hop}
use Rattle.network.specs.Check.{longest, reach, opposite}
use Rattle.network.specs.CheckLaws.{PacketFits}
use Rattle.network.proofs.CheckLaws.{reach-least, reach-most, reach-other, opposite-dimension, opposite-lt, only-way}
use Rattle.network.specs.RoutesLaws.{Onward}
use Rattle.run.specs.Rings.{escape-direction}

-- what an output other than delivery says of the packet p that has it as a route: d is its direction
pub record Going (p o d : ℕ) : Type 0 where
  pub direction : d < directions
  pub out : direction_of o ≡ d
  pub transit : o ≢ injection_queue
  pub left : hops d p ≢ 0
  pub lower : T (is_escape o) → (j : ℕ) → j < dimension_of d → distance j p ≡ 0

adaptive-direction : (d : ℕ) → d < directions → direction_of (adaptive_queue d) ≡ d
adaptive-direction d h = omega arith

adaptive-not-escape : (d : ℕ) → d < directions → T (is_escape (adaptive_queue d)) → ⊥
adaptive-not-escape d h t = let l : directions < adaptive_queue d = ltb→lt directions (adaptive_queue d) t in omega arith

pub going : (p o : ℕ) (r : Onward p o) → Going p o (heading r.dimension p)
going p o r = go r.by
  where
    i : ℕ
    i = r.dimension

    d : ℕ
    d = heading i p

    hd : d < directions
    hd = heading-lt i p r.below

    some_left : hops d p ≢ 0
    some_left z = r.far (sym (hops-heading i p) ∙ z)

    go : (o ≡ adaptive_queue d) ⊎ ((o ≡ escape_queue d) × ((j : ℕ) → j < i → distance j p ≡ 0)) → Going p o d
    go (inl e) =
        record {
          direction = hd;
          out = ap direction_of e ∙ adaptive-direction d hd;
          transit = λ z. positive d (sym e ∙ z);
          left = some_left;
          lower = λ t. absurd (adaptive-not-escape d hd (rw e at t));
        }
      where
        positive : (d : ℕ) → adaptive_queue d ≡ 0 → ⊥
        positive d z = omega arith
    go (inr e) =
        record {
          direction = hd;
          out = ap direction_of e.0 ∙ escape-direction d hd;
          transit = λ z. positive d (sym e.0 ∙ z);
          left = some_left;
          lower = λ t j h. e.1 j (rw (heading-dimension i p) at h);
        }
      where
        positive : (d : ℕ) → escape_queue d ≡ 0 → ⊥
        positive d z = omega arith

-- the packet after its hop fits the queue o of the neighbour
pub hopped-fits : (S : Shape) (n q p o d : ℕ) → Torus S → n < nodes S → PacketFits S n q p → Going p o d
    → PacketFits S (neighbour S d n) o (hop (dimension_of d) p)
unfolding destination spare upper_spare
hopped-fits S n q p o d tor hn f g =
    record {
      clear = field-hop spare_field i p (omega arith) hi ∙ f.clear;
      upper-clear = field-hop upper_spare_field i p (omega arith) hi ∙ f.upper-clear;
      addressed = rw same f.addressed;
      arrives = moved_by-hop S d n p tor g.direction hn g.left ∙ f.arrives ∙ sym same;
      near = λ j hj. close j hj (ℕ_discrete j i);
      sign = λ ne. rw g.out other_way;
      lower = λ t j h. below t j (rw g.out at h);
    }
  where
    i : ℕ
    i = dimension_of d

    hi : i < dimensions
    hi = dimension-lt d g.direction

    same : destination (hop i p) ≡ destination p
    same = field-hop destination_field i p (omega arith) hi

    close : (j : ℕ) → j < dimensions → Dec (j ≡ i) → reach j o (hop i p) ≤ longest S j
    close j hj (yes e) =
        let a : reach j o (hop i p) ≤ distance j (hop i p) + 1 = reach-most j o (hop i p) in
        let b : distance j (hop i p) ≡ distance j p - 1 = rw e (distance-hop-same i p hi) in
        let c : hops d p ≤ distance j p = rw e (hops-le d p) in
        let x : hops d p ≢ 0 = g.left in
        let y : distance j p ≤ reach j q p = reach-least j q p in
        let z : reach j q p ≤ longest S j = f.near j hj in
        omega arith
    close j hj (no ne) =
        let a : reach j o (hop i p) ≡ distance j (hop i p) = reach-other j o (hop i p) (λ e. ne (sym (sym (ap dimension_of g.out) ∙ e))) in
        let b : distance j (hop i p) ≡ distance j p = distance-hop-other i j p hi hj ne in
        let y : distance j p ≤ reach j q p = reach-least j q p in
        let z : reach j q p ≤ longest S j = f.near j hj in
        omega arith

    other_way : hops (opposite d) (hop i p) ≡ 0
    other_way =
        let none : hops (opposite d) p ≡ 0 = only-way d p g.left in
        let after : hops (opposite d) (hop (dimension_of (opposite d)) p) ≡ hops (opposite d) p - 1 =
        hops-hop-same (opposite d) p (opposite-lt d g.direction) in
        let same : hops (opposite d) (hop i p) ≡ hops (opposite d) p - 1 = rw (opposite-dimension d) at after in
        omega arith

    below : T (is_escape o) → (j : ℕ) → j < i → distance j (hop i p) ≡ 0
    below t j h =
        let hj : j < dimensions = native.Mathlib.Nat.lt_trans h hi in
        distance-hop-other i j p hi hj (native.Mathlib.Nat.ne_of_lt h) ∙ g.lower t j h
