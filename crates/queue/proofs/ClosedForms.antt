-- Where the queues of a network stand, as the closed forms that the code computes, and their bounds. Order: capacities; the words before a queue;
-- bounds. Assumes nothing.
use mathlib.Core.Path.{◌≡◌, ap, ap₂, sym, ◌∙◌}
use mathlib.Core.Bool.{Bool, cond}
use Prim.Native.Nat.{ℕ, zero, suc, ◌+◌, ◌*◌, ◌-◌, ◌<◌, ◌≤◌}
use native.Mathlib.Nat.{zero-mul, suc-mul, mul-le-mul, add-suc}
use native.Mathlib.Omega.{arith}
use borrow.Author.Tests.{ne_eqb, lt-ltb, le-ltb}
use Rattle.base.specs.Sums.{sum_below}
use Rattle.base.proofs.Sums.{sum-fewer, sum-most}
use lib.Dec.{T}
use Rattle.network.specs.declared.Sizes.{Sizes}
use Rattle.network.specs.Sizes.{Shape, shape_of, sizes_in_range, nodes, most_nodes, most_chunks, largest_capacity, queues, directions, injection_queue, adaptive_queue, escape_queue, capacity}
use Rattle.network.proofs.SizesLaws.{range-of, capacity-most}
use Rattle.network.proofs.TorusLaws.{sizes-nodes}
use Rattle.network.specs.Layout.{header_words, queue_length, node_words, queue_end}
use Rattle.network.proofs.LayoutLaws.{node-words, end-node}

-- the capacity by the kind of the queue
pub capacity-injection : (S : Shape) (q : ℕ) → q ≡ 0 → capacity S q ≡ S.injection
unfolding capacity
capacity-injection S q e = ap (λ (k : ℕ). capacity S k) e

pub capacity-escape : (S : Shape) (q : ℕ) → directions < q → capacity S q ≡ S.escape
unfolding capacity
capacity-escape S q h =
    ap₂ (λ (b c : Bool). cond b S.injection (cond c S.escape (most_chunks * S.adaptive))) (ne_eqb q 0 (omega arith)) (lt-ltb directions q h)

pub capacity-adaptive : (S : Shape) (q : ℕ) → 0 < q → q ≤ directions → capacity S q ≡ most_chunks * S.adaptive
unfolding capacity
capacity-adaptive S q p h =
    ap₂ (λ (b c : Bool). cond b S.injection (cond c S.escape (most_chunks * S.adaptive))) (ne_eqb q 0 (omega arith)) (le-ltb directions q h)

-- queues of one kind have one capacity
adaptive-alike : (S : Shape) (q : ℕ) → 0 < q → q ≤ directions → capacity S q ≡ capacity S (adaptive_queue 0)
adaptive-alike S q p h = capacity-adaptive S q p h ∙ sym (capacity-adaptive S (adaptive_queue 0) (omega arith) (omega arith))

escape-alike : (S : Shape) (q : ℕ) → directions < q → capacity S q ≡ capacity S (escape_queue 0)
escape-alike S q h = capacity-escape S q h ∙ sym (capacity-escape S (escape_queue 0) (omega arith))

-- the words before a queue: before the adaptive queues and the first escape queue stand the injection queue and adaptive queues, before a later
-- escape queue those and escape queues
before-adaptive : (S : Shape) (k : ℕ) → k ≤ directions
    → sum_below (suc k) (λ i. queue_length S i) ≡ suc k + capacity S injection_queue + k * capacity S (adaptive_queue 0)
unfolding sum_below queue_length
before-adaptive S zero h = let z = zero-mul (capacity S (adaptive_queue 0)) in omega arith
before-adaptive S (suc k) h =
    let r = before-adaptive S k (omega arith) in
    let c = adaptive-alike S (suc k) (omega arith) h in
    let m = suc-mul k (capacity S (adaptive_queue 0)) in
    omega arith

before-escape : (S : Shape) (k : ℕ)
    → sum_below (suc directions + k) (λ i. queue_length S i)
    ≡ suc directions + k + capacity S injection_queue + directions * capacity S (adaptive_queue 0) + k * capacity S (escape_queue 0)
unfolding sum_below queue_length
before-escape S zero =
    let e = before-adaptive S directions (omega arith) in
    let z = zero-mul (capacity S (escape_queue 0)) in
    omega arith
before-escape S (suc k) =
    let r = before-escape S k in
    let c = escape-alike S (suc directions + k) (omega arith) in
    let m = suc-mul k (capacity S (escape_queue 0)) in
    ap (λ (q : ℕ). sum_below q (λ i. queue_length S i)) (add-suc (suc directions) k) ∙ omega arith

-- as the code adds them up, by the three capacities
module _ (S : Shape) (injection adaptive : ℕ) (j : injection ≡ capacity S injection_queue) (a : adaptive ≡ capacity S (adaptive_queue 0)) where
  pub before-few : (q : ℕ) → 0 < q → q ≤ suc directions → q + injection + (q - 1) * adaptive ≡ sum_below q (λ i. queue_length S i)
  before-few q p h =
      let e : suc (q - 1) ≡ q = omega arith in
      let r = before-adaptive S (q - 1) (omega arith) in
      let f = ap (λ (k : ℕ). sum_below k (λ i. queue_length S i)) e in
      let m = ap (λ (k : ℕ). (q - 1) * k) a in
      omega arith

  pub before-many : (q escape : ℕ) → escape ≡ capacity S (escape_queue 0) → suc directions < q
      → q + injection + directions * adaptive + (q - suc directions) * escape ≡ sum_below q (λ i. queue_length S i)
  before-many q escape x h =
      let e : suc directions + (q - suc directions) ≡ q = omega arith in
      let r = before-escape S (q - suc directions) in
      let f = ap (λ (k : ℕ). sum_below k (λ i. queue_length S i)) e in
      let m = ap (λ (k : ℕ). (q - suc directions) * k) x in
      omega arith

  pub node-is : (escape : ℕ) → escape ≡ capacity S (escape_queue 0) → queues + injection + directions * adaptive + directions * escape ≡ node_words S
  node-is escape x = before-many queues escape x (omega arith) ∙ node-words S

pub before-none : (S : Shape) (q : ℕ) → q ≡ 0 → 0 ≡ sum_below q (λ i. queue_length S i)
unfolding sum_below
before-none S q e = ap (λ (k : ℕ). sum_below k (λ i. queue_length S i)) (sym e)

-- the capacities, a node's words, the words before a queue and the places of all queues are small
abbrev pub most_node_words : ℕ
most_node_words = queues * (1 + largest_capacity)

abbrev pub most_words : ℕ
most_words = header_words + most_nodes * most_node_words

pub product_small : (n m b d : ℕ) → n ≤ b → m ≤ d → n * m ≤ b * d
product_small n m b d h k = mul-le-mul h k

pub capacity-small : (s : Sizes) (q slots : ℕ) → T (sizes_in_range (shape_of s)) → slots ≡ capacity (shape_of s) q → slots ≤ largest_capacity
capacity-small s q slots t e = let m = capacity-most (shape_of s) q (range-of (shape_of s) t) in omega arith

pub node-small : (s : Sizes) → T (sizes_in_range (shape_of s)) → node_words (shape_of s) ≤ most_node_words
unfolding queue_length
node-small s t =
    let l = sum-most queues (1 + largest_capacity) (λ i. queue_length (shape_of s) i)
    (λ i h. let m = capacity-most (shape_of s) i (range-of (shape_of s) t) in omega arith) in
    let w = node-words (shape_of s) in
    omega arith

pub before_small : (s : Sizes) (q : ℕ) → T (sizes_in_range (shape_of s)) → q < queues → sum_below q (λ i. queue_length (shape_of s) i) ≤ most_node_words
before_small s q t hq =
    let f = sum-fewer q queues (λ i. queue_length (shape_of s) i) (omega arith) in
    let w = node-words (shape_of s) in
    let l = node-small s t in
    omega arith

pub end-small : (s : Sizes) (n q : ℕ) → T (sizes_in_range (shape_of s)) → n < nodes (shape_of s) → q < queues → queue_end (shape_of s) n q ≤ most_words
end-small s n q t hn hq =
    let l = end-node (shape_of s) n q hq in
    let b = sizes-nodes s t in
    let m = product_small (suc n) (node_words (shape_of s)) most_nodes most_node_words (omega arith) (node-small s t) in
    omega arith
