-- A packet judged dimension after dimension. Order: the offset of one dimension by the tables; the dimensions before i are judged; what the answer is. Assumes nothing.
use mathlib.Core.Path.{◌≡◌, refl, ap, sym, ◌∙◌}
use mathlib.Core.Logic.{◌≢◌}
use mathlib.Core.Bool.{Bool, true, false, ◌&&◌}
use mathlib.Core.List.{List}
use Prim.Native.Nat.{ℕ, ◌+◌, ◌*◌, ◌-◌, ◌%◌, ◌<◌, ◌≤◌}
use native.Mathlib.Omega.{arith}
use borrow.Author.Tests.{eq-eqb, ne_eqb}
use Rattle.std.specs.Prelude.{Option, Some, None}
use Rattle.std.specs.Bool.{then_some}
use lib.Dec.{T, eqb, ltb, ltb→lt}
use lib.ListN.{get_or}
use Rattle.base.specs.Tests.{all_below}
use Rattle.base.proofs.Tests.{and_l, and_r, true-T}
use Rattle.base.proofs.Bools.{and-stop, and-on, fails-at, all_more}
use Rattle.base.specs.Bits.{bit}
use Rattle.base.specs.Digits.{weight}
use Rattle.base.specs.Sums.{sum_below}
use Rattle.base.proofs.Sums.{sum-next, sum-most}
use Rattle.network.specs.Sizes.{shape_of, sizes_in_range, size, dimensions, dimension_of, queues, most_nodes, plus, minus}
use Rattle.network.specs.Packet.{offset_values, destination, distance, hops, hops_left, work}
use Rattle.network.specs.PacketLaws.{half_offsets}
use Rattle.network.proofs.PacketLaws.{one_way, distance_is, distance_most}
use Rattle.network.specs.Torus.{moved_by}
use Rattle.network.proofs.TorusLaws.{sizes-torus}
use Rattle.network.specs.Check.{packet_fits}
use Rattle.network.specs.declared.Sizes.{Sizes}
use Rattle.torus.specs.declared.Place.{Place}
use Rattle.torus.specs.Geometry.{node_at, OnTorus}
use Rattle.torus.specs.GeometryLaws.{place-node}
use Rattle.packet_check.specs.PacketLimits.{spares_clear, limit, below_both, below_along, below_limits}
use Rattle.packet_check.specs.LimitLaws.{limit-size, fits-is}
use Rattle.packet_check.specs.Tables.{ring_words, dimension_words, first_distance, Tables}
use Rattle.packet_check.proofs.Offsets.{passing-is, distance-of}
use Rattle.packet_check.proofs.Nodes.{led_below, led-none, led-more, led-small, led-all}

-- The offset of one dimension -------------------------------------------------------------------------------------------------------------

-- a is how far it stands above the least
module _ (s : Sizes) (q p i a : ℕ) (h : i < dimensions) (e : a + hops (minus i) p ≡ half_offsets + hops (plus i) p) where
  pub passes-is : (tables : List ℕ) → Tables s tables → T (sizes_in_range (shape_of s)) → q < queues → bit (get_or tables (i * dimension_words + ring_words + q) 0) a ≡ below_along (shape_of s) q p i
  unfolding below_along
  passes-is tables ts t l =
      ap (λ (w : ℕ). bit w a) ((ts.dimension i h).passes q l) ∙ passing-is s q i t a (hops (plus i) p) (hops (minus i) p) (one_way i p) e

  pub distance_read : (tables : List ℕ) → Tables s tables → a < offset_values → get_or tables (first_distance + a) 0 ≡ distance i p
  distance_read tables ts l = ts.distances a l ∙ distance-of a (hops (plus i) p) (hops (minus i) p) (one_way i p) e ∙ sym (distance_is i p)

  -- below its limits it is less than once round
  pub record Short : Type 0 where
    pub least : half_offsets < a + size (shape_of s) i
    pub most : a < half_offsets + size (shape_of s) i
    pub back : hops (minus i) p ≤ size (shape_of s) i

  pub short : T (sizes_in_range (shape_of s)) → below_along (shape_of s) q p i ≡ true → Short
  unfolding below_along below_both
  short t below =
      let f = ltb→lt (hops (plus i) p) (limit (shape_of s) q (plus i)) (and_l forward backward (true-T _ below)) in
      let b = ltb→lt (hops (minus i) p) (limit (shape_of s) q (minus i)) (and_r forward backward (true-T _ below)) in
      let l = limit-size s q (plus i) t (omega arith) in
      let m = limit-size s q (minus i) t (omega arith) in
      let x = same (plus i) (omega arith) in
      let y = same (minus i) (omega arith) in
      record { least = omega arith; most = omega arith; back = omega arith }
    where
      forward : Bool
      forward = ltb (hops (plus i) p) (limit (shape_of s) q (plus i))

      backward : Bool
      backward = ltb (hops (minus i) p) (limit (shape_of s) q (minus i))

      same : (d : ℕ) → dimension_of d ≡ i → size (shape_of s) (dimension_of d) ≡ size (shape_of s) i
      same d k = ap (size (shape_of s)) k

-- The dimensions before i -----------------------------------------------------------------------------------------------------------------

module _ (s : Sizes) (place : Place) (q p : ℕ) where
  -- the hops along them are below their limits; node is where these lead, and sum their number and one more
  pub record Judged (i node sum : ℕ) : Type 0 where
    pub below : all_below i (below_along (shape_of s) q p) ≡ true
    pub led : node ≡ led_below s place p i
    pub total : sum ≡ sum_below i (λ j. distance j p) + 1
    pub few : i ≤ dimensions

  pub judged-none : Judged 0 0 1
  unfolding all_below sum_below
  judged-none = record { below = refl; led = sym (led-none s place p); total = refl; few = omega arith }

  -- one dimension more; the node is one of the network's, and the hops are few
  pub record More (i node sum : ℕ) : Type 0 where
    pub judged : Judged (i + 1) node sum
    pub small : node < most_nodes
    pub few : sum ≤ dimensions * half_offsets + 1

  pub judged-more : OnTorus s place → (i node sum m d : ℕ) → Judged i node sum → i < dimensions → below_along (shape_of s) q p i ≡ true
      → m ≡ weight (shape_of s).sizes i * ((get_or place.at i 0 + (hops (plus i) p * 1 + hops (minus i) p * (size (shape_of s) i - 1))) % size (shape_of s) i)
      → d ≡ distance i p → More i (node + m) (sum + d)
  judged-more on i node sum m d judged h below em ed =
      let l = led-small s place p on (i + 1) in
      let f = sum-most (i + 1) half_offsets (λ j. distance j p) (λ j k. distance_most j p) in
      let a = led in
      let b = total in
      record {
        judged = record { below = all_more (below_along (shape_of s) q p) i judged.below below; led = led; total = total; few = omega arith };
        small = omega arith;
        few = omega arith;
      }
    where
      led : node + m ≡ led_below s place p (i + 1)
      led = ap (λ (n : ℕ). n + m) judged.led ∙ led-more s place p on i m h em

      total : sum + d ≡ sum_below (i + 1) (λ j. distance j p) + 1
      total = let n = sum-next i (λ j. distance j p) in let t = judged.total in omega arith

  -- The answer ------------------------------------------------------------------------------------------------------------------------------

  abbrev answer : Option ℕ
  answer = then_some (packet_fits (shape_of s) (node_at s place) q p) (work p)

  module _ (on : OnTorus s place) where
    fits : packet_fits (shape_of s) (node_at s place) q p ≡ spares_clear p && (below_limits (shape_of s) q p && eqb (destination p) (moved_by (shape_of s) p (node_at s place)))
    fits = fits-is (shape_of s) (node_at s place) q p (sizes-torus s on.sizes) (place-node on)

    no_answer : packet_fits (shape_of s) (node_at s place) q p ≡ false → None ≡ answer
    no_answer e = ap (λ (t : Bool). then_some t (work p)) (sym e)

    pub spare-set : spares_clear p ≡ false → None ≡ answer
    spare-set e = no_answer (fits ∙ and-stop _ _ e)

    module _ (cleared : spares_clear p ≡ true) where
      pub limit-reached : (i : ℕ) → i < dimensions → below_along (shape_of s) q p i ≡ false → None ≡ answer
      unfolding below_limits
      limit-reached i h e = no_answer (fits ∙ and-on _ _ cleared ∙ and-stop _ _ (fails-at dimensions (below_along (shape_of s) q p) i h e))

      module _ (i node sum : ℕ) (judged : Judged i node sum) (end : dimensions ≤ i) where
        all : i ≡ dimensions
        all = let l = judged.few in omega arith

        passed : packet_fits (shape_of s) (node_at s place) q p ≡ eqb (destination p) (moved_by (shape_of s) p (node_at s place))
        unfolding below_limits
        passed = fits ∙ and-on _ _ cleared ∙ and-on _ _ (ap (λ (n : ℕ). all_below n (below_along (shape_of s) q p)) (sym all) ∙ judged.below)

        arrived : node ≡ moved_by (shape_of s) p (node_at s place)
        arrived = judged.led ∙ led-all s place p on i judged.few end

        pub led-elsewhere : destination p ≢ node → None ≡ answer
        led-elsewhere n = no_answer (passed ∙ ne_eqb (destination p) (moved_by (shape_of s) p (node_at s place)) (λ e. n (e ∙ sym arrived)))

        pub work-is : destination p ≡ node → Some sum ≡ answer
        unfolding work hops_left
        work-is e =
            ap (λ (n : ℕ). Some n) (judged.total ∙ ap (λ (n : ℕ). sum_below n (λ j. distance j p) + 1) all)
            ∙ ap (λ (t : Bool). then_some t (work p)) (sym (passed ∙ eq-eqb (destination p) (moved_by (shape_of s) p (node_at s place)) (e ∙ arrived)))
