-- Words are what stands in them: two stores with the same header, the same packets in every queue and the same words behind the last node are the same
-- words, if their queues are stored as R44 to R46 say. Order: a queue so stored; all of them, also where one is replaced or a counter raised; the law; two
-- networks, and their headers by sizes and counters. Assumes nothing.
use Rattle.std.specs.Prelude.{◌≡◌, List, ◌++◌, ℕ, zero, suc, ◌+◌, ◌*◌, ◌-◌, ◌<◌, ◌≤◌, length, get_or, take, drop}
use Rattle.std.proofs.Common.{ap, ap₂, sym, ◌∙◌, le_refl, arith, take-append-drop, length-take-le, get_or-take, take-add, ext_get_or}
use Rattle.std.proofs.Math.Nat.{le_of_suc-le}
use Rattle.std.proofs.Math.Decide.{ℕ_discrete}
use Rattle.base.specs.Tests.{EachBelow}
use Rattle.base.proofs.Tests.{each_at}
use Rattle.base.specs.Sums.{sum_below}
use Rattle.network.specs.Sizes.{Shape, nodes, queues, capacity}
use Rattle.network.specs.Layout.{header_words, shape, accepted, delivered, moves_made, raised, queue_length, node_words, queue_start, queue_end, need, queue_words, queue_part, held, put_queue}
use Rattle.network.specs.LayoutLaws.{Fits}
use Rattle.network.proofs.LayoutLaws.{header-long, node-words, start-end, end-next, count_of-queue_words, unused-zero, length-packets_of, queue_words-packets_of, length-queue_part, part-put-same, part-put-other, length-put, length-raised, part-raised}
use Rattle.network.specs.CheckLaws.{Network}
use Rattle.network.specs.SameWords.{QueueStored, QueuesStored, SameHeader, SameQueues}

pub same? : (n q m r : ℕ) → Dec ((n ≡ m) × (q ≡ r))
same? n q m r = go (ℕ_discrete n m) (ℕ_discrete q r)
  where
    go : Dec (n ≡ m) → Dec (q ≡ r) → Dec ((n ≡ m) × (q ≡ r))
    go (yes a) (yes b) = yes (a, b)
    go (yes a) (no b) = no (λ e. b e.1)
    go (no a) d = no (λ e. a e.0)

-- the same part in other words, and a part that is the words of packets for which there is room
same-part-stored : (S : Shape) (w v : List ℕ) (n q : ℕ) → queue_part S v n q ≡ queue_part S w n q → QueueStored S w n q → QueueStored S v n q
same-part-stored S w v n q e l = record { few = rw e l.few; unused = rw e l.unused }

pub queue-stored : (S : Shape) (v : List ℕ) (n q : ℕ) (ps : List ℕ) → queue_part S v n q ≡ queue_words (capacity S q) ps → length ps ≤ capacity S q
    → QueueStored S v n q
queue-stored S v n q ps e h = record { few = rw (e, count_of-queue_words (capacity S q) ps) h; unused = rw e (unused-zero (capacity S q) ps) }

pub stored-few : (S : Shape) (w : List ℕ) (n q : ℕ) → Fits S w n q → QueueStored S w n q → length (held S w n q) ≤ capacity S q
unfolding held queue_length
stored-few S w n q at l = rw (length-packets_of (capacity S q) (queue_part S w n q) (length-queue_part S w n q at) l.few) l.few

pub stored-put : (S : Shape) (w : List ℕ) (n q : ℕ) (ps : List ℕ) → Fits S w n q → length ps ≤ capacity S q → QueuesStored S w
    → QueuesStored S (put_queue S w n q ps)
stored-put S w n q ps at h s =
    record { long = rw (length-put S w n q ps at h) s.long; queue = λ m r hm hr. go m r hm hr (same? n q m r) }
  where
    go : (m r : ℕ) → m < nodes S → r < queues → Dec ((n ≡ m) × (q ≡ r)) → QueueStored S (put_queue S w n q ps) m r
    go m r hm hr (yes e) =
        let here : QueueStored S (put_queue S w n q ps) n q = queue-stored S (put_queue S w n q ps) n q ps (part-put-same S w n q ps at h) h in
        rw (← e.0, ← e.1) here
    go m r hm hr (no ne) = same-part-stored S w (put_queue S w n q ps) m r (part-put-other S w n q ps m r at h hm hr ne) (s.queue m r hm hr)

pub stored-raised : (S : Shape) (at : ℕ) (w : List ℕ) → at < header_words → QueuesStored S w → QueuesStored S (raised at w)
stored-raised S at w h s =
    record {
      long = rw (length-raised at w) s.long;
      queue = λ n q hn hq. same-part-stored S w (raised at w) n q (part-raised S at w n q h) (s.queue n q hn hq);
    }

-- The law --------------------------------------------------------------------------------------------------------------------------------

-- where the words of a node begin: the first's behind the header, the next one's behind its queues, and what would be another's at the end of the need
starts : (S : Shape) (n : ℕ) → queue_start S n 0 ≡ header_words + n * node_words S
unfolding queue_start sum_below
starts S n = omega arith

next-starts : (S : Shape) (n : ℕ) → queue_start S (suc n) 0 ≡ queue_start S n queues
unfolding queue_start
next-starts S n = let a : queue_start S (suc n) 0 ≡ header_words + suc n * node_words S = starts S (suc n) in let e = node-words S in omega arith

-- the words up to the end of a queue
up_to : (S : Shape) (w : List ℕ) (n q : ℕ) → take (queue_start S n (suc q)) w ≡ take (queue_start S n q) w ++ queue_part S w n q
unfolding queue_part
up_to S w n q =
    let h = start-end S n q in
    let e = end-next S n q in
    let at : queue_start S n (suc q) ≡ queue_start S n q + (queue_end S n q - queue_start S n q) = omega arith in
    ap (λ (k : ℕ). take k w) at ∙ take-add (queue_start S n q) (queue_end S n q - queue_start S n q) w

-- the words of a queue, by its packets
words-stored : (S : Shape) (w : List ℕ) (n q : ℕ) → QueuesStored S w → n < nodes S → q < queues
    → queue_part S w n q ≡ queue_words (capacity S q) (held S w n q)
unfolding held queue_length
words-stored S w n q s hn hq =
    sym
    (queue_words-packets_of (capacity S q) (queue_part S w n q) (length-queue_part S w n q (record { node = hn; queue = hq; long = s.long }))
    (s.queue n q hn hq).few (s.queue n q hn hq).unused)

-- R40 to R49: nothing else stands in the words up to the last node
pub same_nodes : (S : Shape) (w v : List ℕ) → QueuesStored S w → QueuesStored S v → SameHeader w v → SameQueues S w v → take (need S) w ≡ take (need S) v
unfolding need
same_nodes S w v a b header queue = rw (starts S (nodes S)) at (to-node (nodes S) (le_refl (nodes S)))
  where
    part : (n q : ℕ) → n < nodes S → q < queues → queue_part S w n q ≡ queue_part S v n q
    part n q hn hq =
        words-stored S w n q a hn hq ∙ ap (queue_words (capacity S q)) (queue n q hn hq) ∙ sym (words-stored S v n q b hn hq)

    first : take header_words w ≡ take header_words v
    first =
        let lw : length (take header_words w) ≡ header_words = length-take-le header_words w (header-long S w a.long) in
        let lv : length (take header_words v) ≡ header_words = length-take-le header_words v (header-long S v b.long) in
        ext_get_or 0 (take header_words w) (take header_words v) (lw ∙ sym lv)
        (λ i l. let h : i < header_words = omega arith in get_or-take header_words w i 0 h ∙ header i h ∙ sym (get_or-take header_words v i 0 h))

    to-queue : (n q : ℕ) → n < nodes S → q ≤ queues → take (queue_start S n 0) w ≡ take (queue_start S n 0) v
        → take (queue_start S n q) w ≡ take (queue_start S n q) v
    to-queue n zero hn hq e = e
    to-queue n (suc q) hn hq e =
        up_to S w n q ∙ ap₂ (λ (x y : List ℕ). x ++ y) (to-queue n q hn (le_of_suc-le hq) e) (part n q hn hq) ∙ sym (up_to S v n q)

    to-node : (n : ℕ) → n ≤ nodes S → take (queue_start S n 0) w ≡ take (queue_start S n 0) v
    to-node zero h = let e : queue_start S 0 0 ≡ header_words = (let s = starts S 0 in omega arith) in rw e first
    to-node (suc n) h = rw (next-starts S n) (to-queue n queues h (le_refl queues) (to-node n (le_of_suc-le h)))

-- nor behind it, where both have the same words there. Their lengths are the same by these
pub same-words : (S : Shape) (w v : List ℕ) → QueuesStored S w → QueuesStored S v → SameHeader w v → SameQueues S w v → drop (need S) w ≡ drop (need S) v
    → w ≡ v
same-words S w v a b header queue rest =
    sym (take-append-drop (need S) w)
    ∙ ap₂ (λ (x y : List ℕ). x ++ y) (same_nodes S w v a b header queue) rest
    ∙ take-append-drop (need S) v

-- Networks -------------------------------------------------------------------------------------------------------------------------------

pub network-stored : (S : Shape) (w : List ℕ) → Network S w → QueuesStored S w
network-stored S w N = record { long = N.long; queue = λ n q hn hq. record { few = (N.queue n q hn hq).few; unused = (N.queue n q hn hq).unused } }

pub same-networks : (S : Shape) (w v : List ℕ) → Network S w → Network S v → SameHeader w v → SameQueues S w v → drop (need S) w ≡ drop (need S) v
    → w ≡ v
same-networks S w v N M = same-words S w v (network-stored S w N) (network-stored S v M)

-- the header is the sizes and the counters
pub same-header : (w v : List ℕ) → shape w ≡ shape v → accepted w ≡ accepted v → delivered w ≡ delivered v → moves_made w ≡ moves_made v
    → SameHeader w v
unfolding shape accepted delivered moves_made EachBelow
same-header w v s a d m =
    each_at (λ (i : ℕ). get_or w i 0 ≡ get_or v i 0) header_words
    (((((((((tt, size 0), size 1), size 2), ap (λ (S : Shape). S.escape) s), ap (λ (S : Shape). S.adaptive) s), ap (λ (S : Shape). S.injection) s), a), d), m)
  where
    size : (i : ℕ) → get_or (shape w).sizes i 0 ≡ get_or (shape v).sizes i 0
    size i = ap (λ (S : Shape). get_or S.sizes i 0) s
