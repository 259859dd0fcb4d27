-- Laws of Queue.antt. Order: what the check of a network says of a queue, and what that says of its words; a queue replaced at its place; what
-- stays when a queue is replaced. Assumes nothing.
use Rattle.std.specs.Prelude.{◌≡◌, ℕ, ◌+◌, ◌<◌, ◌≤◌, T, eqb, length}
use Rattle.std.proofs.Math.Path.{ap, ap₂}
use Rattle.std.proofs.Common.{sym, ◌∙◌, subst, arith}
use mathlib.Core.List.{List}
use Rattle.std.proofs.Math.Decide.{ℕ_discrete}
use Rattle.base.specs.Tests.{all_of}
use Rattle.base.specs.Parts.{span, splice}
use Rattle.network.specs.Sizes.{Shape, sizes_in_range, nodes, queues, capacity}
use Rattle.network.specs.Layout.{queue_length, queue_start, queue_end, need, queue_words, queue_part, count_of, packets_of, unused_of, held, put_queue}
use Rattle.network.specs.LayoutLaws.{Fits}
use Rattle.network.proofs.LayoutLaws.{start-end, end-length, length-queue_part, length-packets_of, count_of-queue_words, unused-zero, part-put-same, part-put-other, length-put}
use Rattle.network.specs.CheckLaws.{Network}
use Rattle.network.specs.Refusals.{head}
use Rattle.queue.specs.Queue.{IsQueue, QueueAt, CheckedQueue, slots}

-- What the check of a network says of a queue -------------------------------------------------------------------------------------------

pub checked : (S : Shape) (w : List ℕ) (n q : ℕ) → Network S w → n < nodes S → q < queues → CheckedQueue S w n q
checked S w n q k hn hq =
    let f = k.queue n q hn hq in
    record { sizes = k.in-range; node = hn; queue = hq; long = k.long; count = f.few; zeros = f.unused }

pub checked-fits : (S : Shape) (w : List ℕ) (n q : ℕ) → CheckedQueue S w n q → Fits S w n q
checked-fits S w n q k = record { node = k.node; queue = k.queue; long = k.long }

-- what the functions that compute places ask
pub places : {S : Shape} {w : List ℕ} {n q : ℕ} → CheckedQueue S w n q → T (sizes_in_range S) × (n < nodes S) × (q < queues)
places k = (k.sizes, k.node, k.queue)

-- the number held is the number of packets
pub checked-count : (S : Shape) (w : List ℕ) (n q : ℕ) → CheckedQueue S w n q → length (held S w n q) ≡ count_of (queue_part S w n q)
unfolding held queue_length
checked-count S w n q k = length-packets_of (capacity S q) (queue_part S w n q) (length-queue_part S w n q (checked-fits S w n q k)) k.count

checked-slots : (S : Shape) (w : List ℕ) (n q : ℕ) → CheckedQueue S w n q → slots (queue_part S w n q) ≡ capacity S q
unfolding queue_length
checked-slots S w n q k =
    let l : length (queue_part S w n q) ≡ 1 + capacity S q = length-queue_part S w n q (checked-fits S w n q k) in
    omega arith

is-queue : (S : Shape) (w : List ℕ) (n q : ℕ) → CheckedQueue S w n q → IsQueue (queue_part S w n q)
unfolding queue_length
is-queue S w n q k =
    let l : length (queue_part S w n q) ≡ 1 + capacity S q = length-queue_part S w n q (checked-fits S w n q k) in
    let c = k.count in
    record { count = omega arith; zeros = k.zeros }

-- A queue at its place ------------------------------------------------------------------------------------------------------------------

-- a checked queue, with its start and its end as computed
pub record Placed (S : Shape) (w : List ℕ) (n q start end : ℕ) : Type 0 where
  pub queue : CheckedQueue S w n q
  pub from : start ≡ queue_start S n q
  pub to : end ≡ queue_end S n q

pub placed : {S : Shape} {w : List ℕ} {n q start end : ℕ} → CheckedQueue S w n q → start ≡ queue_start S n q → end ≡ queue_end S n q
    → Placed S w n q start end
placed k from to = record { queue = k; from = from; to = to }

module _ {S : Shape} {w : List ℕ} {n q start end : ℕ} (at : Placed S w n q start end) where
  part_at : span w start end ≡ queue_part S w n q
  unfolding queue_part
  part_at = ap₂ (λ (a e : ℕ). span w a e) at.from at.to

  pub queue-at : QueueAt w start end
  queue-at =
      let s = start-end S n q in
      let l = end-length S w n q (checked-fits S w n q at.queue) in
      let a = at.from in
      let e = at.to in
      record { start = omega arith; end = omega arith; queue = subst (λ (part : List ℕ). IsQueue part) (sym part_at) (is-queue S w n q at.queue) }

  pub room_at : length (held S w n q) < capacity S q → count_of (span w start end) < slots (span w start end)
  room_at h =
      let c = checked-count S w n q at.queue in
      let e = checked-slots S w n q at.queue in
      subst (λ (part : List ℕ). count_of part < slots part) (sym part_at) (omega arith)

  pub some_at : 0 < length (held S w n q) → 0 < count_of (span w start end)
  some_at h =
      let c = checked-count S w n q at.queue in
      subst (λ (part : List ℕ). 0 < count_of part) (sym part_at) (omega arith)

  -- what is its head, and its packets changed by any function of them
  pub head_at : {r : ℕ} → r ≡ head (packets_of (span w start end)) → r ≡ head (held S w n q)
  unfolding held
  head_at h = h ∙ ap (λ (part : List ℕ). head (packets_of part)) part_at

  pub put-at : (f : List ℕ → List ℕ) {v : List ℕ} → v ≡ splice w start end (queue_words (slots (span w start end)) (f (packets_of (span w start end))))
      → v ≡ put_queue S w n q (f (held S w n q))
  unfolding queue_part put_queue held
  put-at f h =
      h
      ∙ ap₂ (λ (a e : ℕ). splice w a e (queue_words (slots (span w a e)) (f (packets_of (span w a e))))) at.from at.to
      ∙ ap (λ (c : ℕ). splice w (queue_start S n q) (queue_end S n q) (queue_words c (f (held S w n q)))) (checked-slots S w n q at.queue)

-- What stays ----------------------------------------------------------------------------------------------------------------------------

pub checked-put : (S : Shape) (w : List ℕ) (n q : ℕ) (ps : List ℕ) (m r : ℕ) → Fits S w n q → length ps ≤ capacity S q → CheckedQueue S w m r
    → CheckedQueue S (put_queue S w n q ps) m r
checked-put S w n q ps m r fits h k = go (ℕ_discrete n m) (ℕ_discrete q r)
  where
    long : need S ≤ length (put_queue S w n q ps)
    long =
        let l = length-put S w n q ps fits h in
        let b = fits.long in
        omega arith

    good : (part : List ℕ) → queue_part S (put_queue S w n q ps) m r ≡ part → count_of part ≤ capacity S r → T (all_of (eqb 0) (unused_of part))
        → CheckedQueue S (put_queue S w n q ps) m r
    good part e c z = record {
      sizes = k.sizes;
      node = k.node;
      queue = k.queue;
      long = long;
      count = subst (λ (l : List ℕ). count_of l ≤ capacity S r) (sym e) c;
      zeros = subst (λ (l : List ℕ). T (all_of (eqb 0) (unused_of l))) (sym e) z;
    }

    other : ((n ≡ m) × (q ≡ r) → ⊥) → CheckedQueue S (put_queue S w n q ps) m r
    other ne = good (queue_part S w m r) (part-put-other S w n q ps m r fits h k.node k.queue ne) k.count k.zeros

    go : Dec (n ≡ m) → Dec (q ≡ r) → CheckedQueue S (put_queue S w n q ps) m r
    go (yes a) (yes b) =
        good (queue_words (capacity S q) ps)
        (ap₂ (λ (i j : ℕ). queue_part S (put_queue S w n q ps) i j) (sym a) (sym b) ∙ part-put-same S w n q ps fits h)
        (let c = count_of-queue_words (capacity S q) ps in let e = ap (capacity S) b in omega arith)
        (unused-zero (capacity S q) ps)
    go (yes a) (no b) = other (λ e. b e.1)
    go (no a) b = other (λ e. a e.0)
