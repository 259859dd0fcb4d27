-- The queues of a node one by one, and the nodes of a network one by one. Order: what every queue comes to; a node's queues, with the place of the
-- next one; a network's nodes, with the next one's place. `S` are sizes, `w` the words. Assumes nothing.
use mathlib.Core.Path.{◌≡◌, ap, ap₂, sym, ◌∙◌}
use mathlib.Core.Bool.{Bool}
use mathlib.Core.List.{List}
use Rattle.std.specs.Prelude.{Option, Some, None}
use Prim.Native.Nat.{ℕ, suc, ◌+◌, ◌*◌, ◌%◌, ◌<◌, ◌≤◌}
use native.Mathlib.Numerals.{add-one}
use native.Mathlib.Nat.{min-le_right, suc-mul, mul-le-mul_right}
use native.Mathlib.Omega.{arith}
use lib.Dec.{T}
use lib.ListN.{length, take, drop, replicate, length-take, length-drop}
use Rattle.base.specs.Tests.{all_below}
use Rattle.base.specs.Sums.{sum_below, sum_of}
use Rattle.base.proofs.Sums.{sum-most}
use Rattle.base.specs.Parts.{span}
use Rattle.network.specs.Sizes.{Shape, shape_of, sizes_in_range, dimensions, nodes, most_nodes, queues, capacity, largest_capacity}
use Rattle.network.proofs.SizesLaws.{range-of, capacity-most}
use Rattle.network.specs.Packet.{work}
use Rattle.network.specs.Layout.{header_words, need, node_words, queue_start, queue_end, queue_length, queue_part, count_of, packets_of, held, total, taken}
use Rattle.network.specs.LayoutLaws.{Fits}
use Rattle.network.proofs.LayoutLaws.{end-next, end-length, length-queue_part}
use Rattle.network.specs.Check.{queue_fits, queues_fit, packets_held, work_left}
use Rattle.network.proofs.TorusLaws.{sizes-nodes}
use Rattle.torus.specs.declared.Place.{Place}
use Rattle.torus.specs.Geometry.{node_at, OnTorus, WalkTo}
use Rattle.torus.specs.GeometryLaws.{walk_start, walk-next}
use Rattle.network.specs.declared.Sizes.{Sizes}
use Rattle.queue.specs.Queue.{EnoughWords}
use Rattle.queue_check.specs.declared.Tally.{Tally}
use Rattle.queue_check.specs.QueueTally.{tally, part_fits, node_tally}
use Rattle.queue_check.specs.TallyLaws.{tally-fails}
use Rattle.queue_check.proofs.Tallies.{Upto, upto-start, upto-more, upto-stop, upto-end, queue_work, works-most}

-- What every queue comes to ---------------------------------------------------------------------------------------------------------------

abbrev pub fits : Shape → List ℕ → ℕ → ℕ → Bool
fits S w n q = queue_fits S w n q

abbrev pub holds : Shape → List ℕ → ℕ → ℕ → ℕ
holds S w n q = length (held S w n q)

abbrev pub works : Shape → List ℕ → ℕ → ℕ → ℕ
works S w n q = sum_of work (held S w n q)

take-most : (k : ℕ) (l : List ℕ) → length (take k l) ≤ length l
take-most k l = let e = length-take k l in let m = min-le_right k (length l) in omega arith

-- what a node, and a network, can hold at most, and what work these packets have left
abbrev pub node_packets : ℕ
node_packets = queues * largest_capacity

abbrev pub node_work : ℕ
node_work = queues * queue_work

abbrev pub most_packets : ℕ
most_packets = most_nodes * node_packets

abbrev pub most_work_left : ℕ
most_work_left = most_nodes * node_work

module _ (S : Shape) (w : List ℕ) (enough : EnoughWords S w) (n : ℕ) (node : n < nodes S) where
  in_words : (q : ℕ) → q < queues → Fits S w n q
  in_words q h = record { node = node; queue = h; long = enough.long }

  pub part_length : (q : ℕ) → q < queues → length (queue_part S w n q) ≡ queue_length S q
  part_length q h = length-queue_part S w n q (in_words q h)

  pub part_small : (q : ℕ) → q < queues → length (queue_part S w n q) ≤ largest_capacity + 1
  unfolding queue_length
  part_small q h = let l : length (queue_part S w n q) ≡ 1 + capacity S q = part_length q h in let m = capacity-most S q (range-of S enough.sizes) in omega arith

  pub part_end : (q : ℕ) → q < queues → queue_end S n q ≤ length w
  part_end q h = end-length S w n q (in_words q h)

  holds-most : (q : ℕ) → q < queues → holds S w n q ≤ largest_capacity
  unfolding held packets_of
  holds-most q h =
      let a : holds S w n q ≤ length (drop 1 (queue_part S w n q)) = take-most (count_of (queue_part S w n q)) (drop 1 (queue_part S w n q)) in
      let b = length-drop 1 (queue_part S w n q) in
      let m = part_small q h in
      omega arith

  -- the sums over a node's queues
  pub node-holds : (k : ℕ) → k ≤ queues → sum_below k (holds S w n) ≤ node_packets
  node-holds k h =
      let a = sum-most k largest_capacity (holds S w n) (λ q l. holds-most q (let b : q < queues = omega arith in b)) in
      omega arith

  pub node-works : (k : ℕ) → k ≤ queues → sum_below k (works S w n) ≤ node_work
  node-works k h =
      let a = sum-most k queue_work (works S w n) (λ q l. works-most (held S w n q) (holds-most q (let b : q < queues = omega arith in b))) in
      omega arith

-- A node's queues -------------------------------------------------------------------------------------------------------------------------

-- those before q have been tested and summed, and q's words begin at `at`
pub record NodeWalk (S : Shape) (w : List ℕ) (n q at held work : ℕ) : Type 0 where
  pub place : at ≡ queue_start S n q
  pub upto : Upto (fits S w n) (holds S w n) (works S w n) q held work
  pub within : q ≤ queues

module _ (S : Shape) (w : List ℕ) (n : ℕ) where
  pub node-start : (at : ℕ) → at ≡ queue_start S n 0 → NodeWalk S w n 0 at 0 0
  node-start at e = record { place = e; upto = upto-start (fits S w n) (holds S w n) (works S w n); within = omega arith }

  -- where the words of q end
  pub node_end : (q at held work c : ℕ) → NodeWalk S w n q at held work → c ≡ capacity S q → at + c + 1 ≡ queue_end S n q
  unfolding queue_end queue_length
  node_end q at held work c walk e = let p = walk.place in omega arith

  -- its words
  pub node-part : (q at held work c : ℕ) → NodeWalk S w n q at held work → c ≡ capacity S q → span w at (at + c + 1) ≡ queue_part S w n q
  unfolding queue_part
  node-part q at held work c walk e = ap₂ (λ (a b : ℕ). span w a b) walk.place (node_end q at held work c walk e)

  -- what its words come to is what it comes to
  pub node-tally : (q : ℕ) (part : List ℕ) (t : Option Tally) → part ≡ queue_part S w n q
      → t ≡ tally (part_fits S n q part) (length (packets_of part)) (sum_of work (packets_of part)) → t ≡ tally (fits S w n q) (holds S w n q) (works S w n q)
  unfolding queue_fits part_fits held taken
  node-tally q part t e f = f ∙ ap (λ (l : List ℕ). tally (part_fits S n q l) (length (packets_of l)) (sum_of work (packets_of l))) e

  pub node-more : (q at held work c : ℕ) (t : Tally) → NodeWalk S w n q at held work → c ≡ capacity S q → Some t ≡ tally (fits S w n q) (holds S w n q) (works S w n q)
      → q < queues → NodeWalk S w n (q + 1) (at + c + 1) (held + t.held) (work + t.work)
  node-more q at held work c t walk ec e h =
      record {
        place = node_end q at held work c walk ec ∙ end-next S n q ∙ ap (queue_start S n) (sym (add-one q));
        upto = upto-more (fits S w n) (holds S w n) (works S w n) q held work t walk.upto e;
        within = omega arith;
      }

  -- the sums are small
  pub node-small : EnoughWords S w → n < nodes S → (q at held work : ℕ) → NodeWalk S w n q at held work → (held ≤ node_packets) × (work ≤ node_work)
  node-small enough node q at held work walk =
      let a = node-holds S w enough n node q walk.within in
      let b = node-works S w enough n node q walk.within in
      let d = walk.upto.packets in
      let e = walk.upto.hops-left in
      (omega arith, omega arith)

  pub node-stop : (q : ℕ) → None ≡ tally (fits S w n q) (holds S w n q) (works S w n q) → q < queues → None ≡ node_tally S w n
  unfolding node_tally
  node-stop q e h =
      tally-fails (all_below queues (fits S w n)) (sum_below queues (holds S w n)) (sum_below queues (works S w n))
      (upto-stop (fits S w n) (holds S w n) (works S w n) queues q h e)

  pub node_done : (q at held work : ℕ) → NodeWalk S w n q at held work → queues ≤ q → Some (record { held = held; work = work }) ≡ node_tally S w n
  unfolding node_tally
  node_done q at held work walk h =
      let m = walk.within in
      let e : q ≡ queues = omega arith in
      let u : Upto (fits S w n) (holds S w n) (works S w n) q held work = walk.upto in
      upto-end (fits S w n) (holds S w n) (works S w n) queues held work (rw e at u)

-- A network's nodes -----------------------------------------------------------------------------------------------------------------------

abbrev pub node_fits : Shape → List ℕ → ℕ → Bool
node_fits S w n = all_below queues (fits S w n)

abbrev pub node_holds : Shape → List ℕ → ℕ → ℕ
node_holds S w n = sum_below queues (holds S w n)

abbrev pub node_works : Shape → List ℕ → ℕ → ℕ
node_works S w n = sum_below queues (works S w n)

-- those before n have been tested and summed, the walk has come to n, and its words begin at `start`
pub record NetWalk (s : Sizes) (w : List ℕ) (n : ℕ) (place : Place) (start held work : ℕ) : Type 0 where
  pub first : start ≡ queue_start (shape_of s) n 0
  pub walk : WalkTo s n place
  pub upto : Upto (node_fits (shape_of s) w) (node_holds (shape_of s) w) (node_works (shape_of s) w) n held work
  pub within : n ≤ nodes (shape_of s)

module _ (s : Sizes) (w : List ℕ) where
  pub net-start : T (sizes_in_range (shape_of s)) → NetWalk s w 0 (record { at = replicate dimensions 0 }) header_words 0 0
  unfolding queue_start sum_below
  net-start t =
      record {
        first = omega arith;
        walk = walk_start s t;
        upto = upto-start (node_fits (shape_of s) w) (node_holds (shape_of s) w) (node_works (shape_of s) w);
        within = omega arith;
      }

  pub net-tally : (n : ℕ) (place : Place) (start held work : ℕ) (t : Option Tally) → NetWalk s w n place start held work → n < nodes (shape_of s) → t ≡ node_tally (shape_of s) w (node_at s place)
      → t ≡ tally (node_fits (shape_of s) w n) (node_holds (shape_of s) w n) (node_works (shape_of s) w n)
  unfolding node_tally
  net-tally n place start held work t net h e = e ∙ ap (node_tally (shape_of s) w) (net.walk.node h)

  -- the next node's words begin behind this one's
  net-next : (n words : ℕ) → words ≡ node_words (shape_of s) → queue_start (shape_of s) n 0 + words ≡ queue_start (shape_of s) (n + 1) 0
  unfolding queue_start sum_below
  net-next n words e =
      let m : suc n * node_words (shape_of s) ≡ n * node_words (shape_of s) + node_words (shape_of s) = suc-mul n (node_words (shape_of s)) in
      let a : (n + 1) * node_words (shape_of s) ≡ suc n * node_words (shape_of s) = ap (λ (k : ℕ). k * node_words (shape_of s)) (add-one n) in
      omega arith

  -- and within the words, or at their end
  pub net-within : EnoughWords (shape_of s) w → (n : ℕ) (place : Place) (start held work words : ℕ) → NetWalk s w n place start held work → n < nodes (shape_of s)
      → words ≡ node_words (shape_of s) → start + words ≤ length w
  unfolding queue_start sum_below need
  net-within enough n place start held work words net h e =
      let p : start ≡ header_words + n * node_words (shape_of s) + 0 = net.first in
      let l : header_words + nodes (shape_of s) * node_words (shape_of s) ≤ length w = enough.long in
      let m : suc n * node_words (shape_of s) ≤ nodes (shape_of s) * node_words (shape_of s) = mul-le-mul_right (node_words (shape_of s)) h in
      let a : suc n * node_words (shape_of s) ≡ n * node_words (shape_of s) + node_words (shape_of s) = suc-mul n (node_words (shape_of s)) in
      omega arith

  pub net-more : (n : ℕ) (place : Place) (start held work words : ℕ) (next : Place) (t : Tally) → NetWalk s w n place start held work → n < nodes (shape_of s)
      → words ≡ node_words (shape_of s) → Some t ≡ node_tally (shape_of s) w (node_at s place)
      → OnTorus s next → node_at s next ≡ (node_at s place + 1) % nodes (shape_of s) → NetWalk s w (n + 1) next (start + words) (held + t.held) (work + t.work)
  net-more n place start held work words next t net h ew e on en =
      record {
        first = ap (λ (k : ℕ). k + words) net.first ∙ net-next n words ew;
        walk = walk-next s n place next net.walk h on en;
        upto =
            upto-more (node_fits (shape_of s) w) (node_holds (shape_of s) w) (node_works (shape_of s) w) n held work t net.upto
            (net-tally n place start held work (Some t) net h e);
        within = omega arith;
      }

  -- the sums are small
  pub net-small : EnoughWords (shape_of s) w → (n held work : ℕ) (t : Tally)
      → Upto (node_fits (shape_of s) w) (node_holds (shape_of s) w) (node_works (shape_of s) w) n held work → n < nodes (shape_of s)
      → Some t ≡ tally (node_fits (shape_of s) w n) (node_holds (shape_of s) w n) (node_works (shape_of s) w n)
      → (held + t.held ≤ most_packets) × (work + t.work ≤ most_work_left)
  net-small enough n held work t upto h e = sums (upto-more (node_fits S w) (node_holds S w) (node_works S w) n held work t upto e)
    where
      S : Shape
      S = shape_of s

      sums : Upto (node_fits S w) (node_holds S w) (node_works S w) (n + 1) (held + t.held) (work + t.work) → (held + t.held ≤ most_packets) × (work + t.work ≤ most_work_left)
      sums u =
          let m = sizes-nodes s enough.sizes in
          let a = sum-most (n + 1) node_packets (node_holds S w) (λ k l. node-holds S w enough k (let b : k < nodes S = omega arith in b) queues (omega arith)) in
          let b = sum-most (n + 1) node_work (node_works S w) (λ k l. node-works S w enough k (let b : k < nodes S = omega arith in b) queues (omega arith)) in
          let c = u.packets in
          let d = u.hops-left in
          (omega arith, omega arith)

  pub net-stop : (n : ℕ) (place : Place) (start held work : ℕ) → NetWalk s w n place start held work → n < nodes (shape_of s)
      → None ≡ node_tally (shape_of s) w (node_at s place)
      → None ≡ tally (queues_fit (shape_of s) w) (packets_held (shape_of s) w) (work_left (shape_of s) w)
  unfolding queues_fit packets_held work_left total
  net-stop n place start held work net h e =
      tally-fails (queues_fit (shape_of s) w) (packets_held (shape_of s) w) (work_left (shape_of s) w)
      (upto-stop (node_fits (shape_of s) w) (node_holds (shape_of s) w) (node_works (shape_of s) w) (nodes (shape_of s)) n h
      (net-tally n place start held work None net h e))

  pub net-done : (n : ℕ) (place : Place) (start held work : ℕ) → NetWalk s w n place start held work → nodes (shape_of s) ≤ n
      → Some (record { held = held; work = work }) ≡ tally (queues_fit (shape_of s) w) (packets_held (shape_of s) w) (work_left (shape_of s) w)
  unfolding queues_fit packets_held work_left total
  net-done n place start held work net h =
      let m = net.within in
      let e : n ≡ nodes (shape_of s) = omega arith in
      let u : Upto (node_fits (shape_of s) w) (node_holds (shape_of s) w) (node_works (shape_of s) w) n held work = net.upto in
      upto-end (node_fits (shape_of s) w) (node_holds (shape_of s) w) (node_works (shape_of s) w) (nodes (shape_of s)) held work (rw e at u)
