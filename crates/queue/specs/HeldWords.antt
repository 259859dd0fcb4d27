-- The words of a checked network that the code reads of a queue: the number held and the head, which stand where the queue starts, and all packets. Order:
-- the two words; the packets; the words at the place that the code computes. Assumes nothing.
use Rattle.std.specs.Prelude.{◌≡◌, refl, List, [], ◌∷◌, ℕ, zero, suc, ◌+◌, ◌-◌, ◌<◌, ◌≤◌, T, length, get_or, take, drop}
use Rattle.std.proofs.Common.{ap, ap₂, sym, ◌∙◌, arith, get_or-take, get_or-drop, take-take, drop-drop}
use Rattle.base.proofs.Parts.{get_or-span}
use Rattle.network.specs.Sizes.{Shape, shape_of, sizes_in_range, nodes, queues, capacity}
use Rattle.network.proofs.SizesLaws.{range-of, capacity-pos}
use Rattle.network.specs.Layout.{queue_start, queue_end, queue_length, queue_part, count_of, packets_of, held}
use Rattle.network.specs.LayoutLaws.{Fits}
use Rattle.network.proofs.LayoutLaws.{end-start, end-length, length-queue_part, length-packets_of, count_word}
use Rattle.network.specs.CheckLaws.{QueueFits}
use Rattle.network.specs.Refusals.{head}
use Rattle.network.specs.declared.Sizes.{Sizes}
use Rattle.queue.specs.Queue.{CheckedQueue}
use Rattle.queue.specs.QueueLaws.{checked, checked-fits, checked-count, places}
use Rattle.queue.specs.QueueOf.{QueueOf}

-- The two words -----------------------------------------------------------------------------------------------------------------------

inside : (S : Shape) (w : List ℕ) (n q : ℕ) → CheckedQueue S w n q → queue_start S n q + 1 < length w
unfolding queue_end queue_length
inside S w n q k =
    let e : queue_start S n q + (1 + capacity S q) ≤ length w = end-length S w n q (checked-fits S w n q k) in
    let p = capacity-pos S q (range-of S k.sizes) in
    omega arith

wide : (S : Shape) (n q : ℕ) (c : ℕ) → c ≤ capacity S q → c < queue_end S n q - queue_start S n q
wide S n q c h = let e = end-start S n q in omega arith

head-word : (S : Shape) (w : List ℕ) (n q : ℕ) → CheckedQueue S w n q → 0 < length (held S w n q)
    → get_or w (queue_start S n q + 1) 0 ≡ head (held S w n q)
unfolding head held packets_of queue_part
head-word S w n q k h =
    let part : List ℕ = queue_part S w n q in
    let some : 0 < count_of part = let e = checked-count S w n q k in omega arith in
    let few : count_of part ≤ capacity S q = k.count in
    sym (get_or-span w (queue_start S n q) (queue_end S n q) 1 (wide S n q 1 (omega arith)))
    ∙ sym (get_or-drop 1 part 0 0)
    ∙ sym (get_or-take (count_of part) (drop 1 part) 0 0 some)

-- The packets as a part of the words ---------------------------------------------------------------------------------------------------

-- a part of a part
part_of : (start count a b c : ℕ) (w : List ℕ) → start ≡ a → count ≡ b → b ≤ c - 1
    → take (start + 1 + count - (start + 1)) (drop (start + 1) w) ≡ take b (drop 1 (take (a + c - a) (drop a w)))
part_of start count a b c w es ec h =
    let n : start + 1 + count - (start + 1) ≡ b = omega arith in
    let m : a + c - a ≡ c = omega arith in
    ap₂ (λ (x y : ℕ). take x (drop y w)) n (ap (λ (x : ℕ). x + 1) es)
    ∙ ap (take b) (sym (drop-drop 1 a w))
    ∙ sym (take-inside b c (drop a w) h)
    ∙ ap (λ (x : ℕ). take b (drop 1 (take x (drop a w)))) (sym m)
  where
    take-inside : (b c : ℕ) (l : List ℕ) → b ≤ c - 1 → take b (drop 1 (take c l)) ≡ take b (drop 1 l)
    take-inside b zero l h = nothing b (omega arith)
      where
        nothing : (b : ℕ) → b ≡ 0 → take b (drop 1 (take 0 l)) ≡ take b (drop 1 l)
        nothing b z = rw z
    take-inside b (suc c) [] h = refl
    take-inside b (suc c) (x ∷ l) h = take-take b c l (omega arith)

-- the held words of a queue as a part of the words
pub held-part : (S : Shape) (w : List ℕ) (n q start count : ℕ) → QueueOf S w n q → start ≡ queue_start S n q → count ≡ length (held S w n q)
    → take (start + 1 + count - (start + 1)) (drop (start + 1) w) ≡ held S w n q
unfolding held packets_of queue_part queue_length queue_end
held-part S w n q start count k es ec =
    let fits : Fits S w n q = record { node = k.node; queue = k.queue; long = k.network.long } in
    let f : QueueFits S w n q = k.network.queue n q k.node k.queue in
    let l : length (queue_part S w n q) ≡ 1 + capacity S q = length-queue_part S w n q fits in
    let c : length (packets_of (queue_part S w n q)) ≡ count_of (queue_part S w n q) = length-packets_of (capacity S q) (queue_part S w n q) l f.few in
    part_of start count (queue_start S n q) (count_of (queue_part S w n q)) (1 + capacity S q) w es (ec ∙ c) (within (count_of (queue_part S w n q)) (capacity S q) f.few)
  where
    within : (x k : ℕ) → x ≤ k → x ≤ 1 + k - 1
    within x k h = omega arith

pub held-end : (S : Shape) (w : List ℕ) (n q start count : ℕ) → QueueOf S w n q → start ≡ queue_start S n q → count ≡ length (held S w n q) → start + 1 + count ≤ length w
unfolding held queue_length queue_end
held-end S w n q start count k es ec =
    let fits : Fits S w n q = record { node = k.node; queue = k.queue; long = k.network.long } in
    let f : QueueFits S w n q = k.network.queue n q k.node k.queue in
    let l : length (queue_part S w n q) ≡ 1 + capacity S q = length-queue_part S w n q fits in
    let c : length (packets_of (queue_part S w n q)) ≡ count_of (queue_part S w n q) = length-packets_of (capacity S q) (queue_part S w n q) l f.few in
    let few : count_of (queue_part S w n q) ≤ capacity S q = f.few in
    let e : queue_start S n q + (1 + capacity S q) ≤ length w = end-length S w n q fits in
    omega arith

-- At the place that the code computes -------------------------------------------------------------------------------------------------

module _ (s : Sizes) (w : List ℕ) (n q : ℕ) (k : QueueOf (shape_of s) w n q) where
  pub queue-checked : CheckedQueue (shape_of s) w n q
  queue-checked = checked (shape_of s) w n q k.network k.node k.queue

  -- what the functions that compute places ask
  pub asked : T (sizes_in_range (shape_of s)) × (n < nodes (shape_of s)) × (q < queues)
  asked = places queue-checked

  pub inside-at : (start : ℕ) → start ≡ queue_start (shape_of s) n q → start + 1 < length w
  inside-at start e = let i = inside (shape_of s) w n q queue-checked in omega arith

  pub count-read : (start : ℕ) → start ≡ queue_start (shape_of s) n q → get_or w start 0 ≡ length (held (shape_of s) w n q)
  count-read start e = ap (λ (i : ℕ). get_or w i 0) e ∙ count_word (shape_of s) w n q (checked-fits (shape_of s) w n q queue-checked) queue-checked.count

  pub head_read : (start : ℕ) → start ≡ queue_start (shape_of s) n q → 0 < length (held (shape_of s) w n q)
      → get_or w (start + 1) 0 ≡ head (held (shape_of s) w n q)
  head_read start e h = ap (λ (i : ℕ). get_or w (i + 1) 0) e ∙ head-word (shape_of s) w n q queue-checked h

  pub held-few : length (held (shape_of s) w n q) ≤ capacity (shape_of s) q
  held-few = let e = checked-count (shape_of s) w n q queue-checked in let f = queue-checked.count in omega arith
