-- Laws of Layout.antt: where the queues stand, a queue's words, how full a queue is, one queue replaced, one counter raised, the sums over all
-- queues, in this order. The laws of parts of a list are in Parts.antt of the crate base, those of sums in Sums.antt. Assumes nothing.
use Rattle.std.specs.Prelude.{◌≡◌, refl, Bool, true, false, cond, List, [], ◌∷◌, ◌++◌, ◌⊎◌, ◌≢◌, ℕ, zero, suc, ◌+◌, ◌*◌, ◌-◌, ◌<◌, ◌≤◌, T, eqb, length, get_or, take, drop, replicate}
use Rattle.std.proofs.Common.{ap, ap₂, sym, ◌∙◌, inl, inr, mul-le-mul_right, suc-mul, arith, eqb→eq, length-append, length-drop, length-set, take-append-drop, length-take-le, get_or-set_same, get_or-set_other, drop-set-lt}
use Rattle.std.proofs.Math.Path.{fun_ext}
use Rattle.std.proofs.Math.Decide.{dec_lt}
use Rattle.std.proofs.lemmas.List.{length-replicate}
use Rattle.std.proofs.Math.Seq.{take-append_seam, drop-append_seam}
use Rattle.base.specs.Tests.{all_of}
use Rattle.base.proofs.Tests.{all_of-head, all_of-tail}
use Rattle.base.specs.Sums.{sum_below, sum_of}
use Rattle.base.proofs.Sums.{sum_of-append, sum_of-one, sum_of-ones, sum_of-least, sum_of-most, sum_of-equal, sum_same, sum-change, sum-fewer, term-le, some-term}
use Rattle.base.proofs.Parts.{length-span, length-splice, get_or-before, get_or-span, span-splice, span-apart, drop-splice, splice-splice, span-set-before}
use Rattle.network.specs.Sizes.{Shape, nodes, queues, directions, dimensions, most_chunks, is_adaptive, capacity}
use Rattle.network.proofs.SizesLaws.{escape-slots}
use Rattle.network.specs.Packet.{chunk_field, chunks, hop}
use Rattle.network.proofs.PacketLaws.{field-hop, chunks-pos, chunks-most}
use Rattle.network.specs.Layout.{header_words, shape, accepted_at, raised, queue_length, node_words, queue_start, queue_end, need, queue_words, queue_part, count_of, packets_of, unused_of, held, load, taken, put_queue, total}
use Rattle.network.specs.LayoutLaws.{Fits}

-- Where the queues stand ----------------------------------------------------------------------------------------------------------------

-- the words of a node are those of its queues
pub node-words : (S : Shape) → sum_below queues (λ i. queue_length S i) ≡ node_words S
unfolding sum_below queue_length capacity node_words
node-words S = omega arith

pub start-header : (S : Shape) (n q : ℕ) → header_words ≤ queue_start S n q
unfolding queue_start
start-header S n q = omega arith

pub start-end : (S : Shape) (n q : ℕ) → queue_start S n q ≤ queue_end S n q
unfolding queue_end
start-end S n q = omega arith

pub end-next : (S : Shape) (n q : ℕ) → queue_end S n q ≡ queue_start S n (suc q)
unfolding queue_end queue_start sum_below
end-next S n q = omega arith

pub end-start : (S : Shape) (n q : ℕ) → queue_end S n q - queue_start S n q ≡ 1 + capacity S q
unfolding queue_end queue_length
end-start S n q = omega arith

-- the queues of a node end where the next node's begin
pub end-node : (S : Shape) (n q : ℕ) → q < queues → queue_end S n q ≤ header_words + suc n * node_words S
unfolding queue_start
end-node S n q h =
    let next = end-next S n q in
    let within = sum-fewer (suc q) queues (λ i. queue_length S i) h in
    let all = node-words S in
    let more : suc n * node_words S ≡ n * node_words S + node_words S = suc-mul n (node_words S) in
    omega arith

pub node-start : (S : Shape) (n q : ℕ) → header_words + n * node_words S ≤ queue_start S n q
unfolding queue_start
node-start S n q = omega arith

pub end-need : (S : Shape) (n q : ℕ) → n < nodes S → q < queues → queue_end S n q ≤ need S
unfolding need
end-need S n q hn hq =
    let e = end-node S n q hq in
    let m : suc n * node_words S ≤ nodes S * node_words S = mul-le-mul_right (node_words S) hn in
    omega arith

pub start-mono : (S : Shape) (n q r : ℕ) → q ≤ r → queue_start S n q ≤ queue_start S n r
unfolding queue_start
start-mono S n q r h = let m = sum-fewer q r (λ i. queue_length S i) h in omega arith

-- two queues share no word
pub apart : (S : Shape) (n q m r : ℕ) → q < queues → r < queues → ((n ≡ m) × (q ≡ r) → ⊥)
    → (queue_end S n q ≤ queue_start S m r) ⊎ (queue_end S m r ≤ queue_start S n q)
apart S n q m r hq hr ne = go (dec_lt n m) (dec_lt m n) (dec_lt q r) (dec_lt r q)
  where
    node_below : (n q m r : ℕ) → q < queues → n < m → queue_end S n q ≤ queue_start S m r
    node_below n q m r hq h =
        let e = end-node S n q hq in
        let s = node-start S m r in
        let k : suc n * node_words S ≤ m * node_words S = mul-le-mul_right (node_words S) h in
        omega arith

    queue_below : (n q m r : ℕ) → n ≡ m → q < r → queue_end S n q ≤ queue_start S m r
    queue_below n q m r e h =
        let next = end-next S n q in
        let s = start-mono S n (suc q) r h in
        let t : queue_start S n r ≡ queue_start S m r = ap (λ (k : ℕ). queue_start S k r) e in
        omega arith

    go : Dec (n < m) → Dec (m < n) → Dec (q < r) → Dec (r < q) → (queue_end S n q ≤ queue_start S m r) ⊎ (queue_end S m r ≤ queue_start S n q)
    go (yes a) b c d = inl (node_below n q m r hq a)
    go (no a) (yes b) c d = inr (node_below m r n q hr b)
    go (no a) (no b) (yes c) d = inl (queue_below n q m r (omega arith) c)
    go (no a) (no b) (no c) (yes d) = inr (queue_below m r n q (omega arith) d)
    go (no a) (no b) (no c) (no d) = absurd (ne (omega arith, omega arith))

-- words that are as many as the sizes need begin with a header
pub need-header : (S : Shape) → header_words ≤ need S
unfolding need
need-header S = omega arith

pub header-long : (S : Shape) (w : List ℕ) → need S ≤ length w → header_words ≤ length w
header-long S w l = let h = need-header S in omega arith

pub end-length : (S : Shape) (w : List ℕ) (n q : ℕ) → Fits S w n q → queue_end S n q ≤ length w
end-length S w n q fits =
    let e = end-need S n q fits.node fits.queue in
    let l = fits.long in
    omega arith

-- A queue's words -----------------------------------------------------------------------------------------------------------------------

pub length-queue_words : (c : ℕ) (ps : List ℕ) → length ps ≤ c → length (queue_words c ps) ≡ 1 + c
unfolding queue_words
length-queue_words c ps h =
    let a = length-append ps (replicate (c - length ps) 0) in
    let r = length-replicate {A = ℕ} (c - length ps) 0 in
    omega arith

pub count_of-queue_words : (c : ℕ) (ps : List ℕ) → count_of (queue_words c ps) ≡ length ps
unfolding queue_words count_of
count_of-queue_words c ps = refl

pub packets_of-queue_words : (c : ℕ) (ps : List ℕ) → packets_of (queue_words c ps) ≡ ps
unfolding queue_words packets_of count_of
packets_of-queue_words c ps = take-append_seam ps (replicate (c - length ps) 0)

pub unused_of-queue_words : (c : ℕ) (ps : List ℕ) → unused_of (queue_words c ps) ≡ replicate (c - length ps) 0
unfolding queue_words unused_of count_of
unused_of-queue_words c ps = drop-append_seam ps (replicate (c - length ps) 0)

-- words that are all 0, and so many zeros
pub zeros-zero : (k : ℕ) → T (all_of (eqb 0) (replicate k 0))
unfolding all_of
zeros-zero zero = tt
zeros-zero (suc k) = zeros-zero k

pub zero-zeros : (l : List ℕ) → T (all_of (eqb 0) l) → l ≡ replicate (length l) 0
zero-zeros [] t = refl
zero-zeros (x ∷ xs) t =
    ap₂ (λ (y : ℕ) (ys : List ℕ). y ∷ ys) (sym (eqb→eq 0 x (all_of-head (eqb 0) x xs t))) (zero-zeros xs (all_of-tail (eqb 0) x xs t))

pub unused-zero : (c : ℕ) (ps : List ℕ) → T (all_of (eqb 0) (unused_of (queue_words c ps)))
unused-zero c ps = rw (unused_of-queue_words c ps) (zeros-zero (c - length ps))

pub length-packets_of : (c : ℕ) (part : List ℕ) → length part ≡ 1 + c → count_of part ≤ c → length (packets_of part) ≡ count_of part
unfolding packets_of
length-packets_of c part l h =
    let d = length-drop 1 part in
    length-take-le (count_of part) (drop 1 part) (omega arith)

-- the words of a queue from its packets, where it holds no more than its capacity and its unused words are 0
pub queue_words-packets_of : (c : ℕ) (part : List ℕ) → length part ≡ 1 + c → count_of part ≤ c → T (all_of (eqb 0) (unused_of part))
    → queue_words c (packets_of part) ≡ part
unfolding queue_words count_of packets_of unused_of
queue_words-packets_of c [] l h t = absurd (let z : 0 ≡ 1 + c = l in omega arith)
queue_words-packets_of c (x ∷ xs) l h t =
    ap₂ (λ (k : ℕ) (r : List ℕ). k ∷ (take x xs ++ r)) packets (zeros packets)
    ∙ ap (λ (r : List ℕ). x ∷ r) (take-append-drop x xs)
  where
    packets : length (take x xs) ≡ x
    packets = length-packets_of c (x ∷ xs) l h

    zeros : length (take x xs) ≡ x → replicate (c - length (take x xs)) 0 ≡ drop x xs
    zeros e =
        let d : length (drop x xs) ≡ length xs - x = length-drop x xs in
        let r : c - length (take x xs) ≡ length (drop x xs) = omega arith in
        rw r (sym (zero-zeros (drop x xs) t))

-- How full a queue is -------------------------------------------------------------------------------------------------------------------

-- R27: the load by the kind of the queue; in any queue it is 1 to 8, and a hop does not change it. No other law rests on its definition
pub load-chunks : (q p : ℕ) → is_adaptive q ≡ true → load q p ≡ chunks p
unfolding load
load-chunks q p e = rw e

pub load_one : (q p : ℕ) → is_adaptive q ≡ false → load q p ≡ 1
unfolding load
load_one q p e = rw e

pub load-pos : (q p : ℕ) → 0 < load q p
unfolding load
load-pos q p = go (is_adaptive q)
  where
    go : (b : Bool) → 0 < cond b (chunks p) 1
    go true = chunks-pos p
    go false = omega arith

pub load-most : (q p : ℕ) → load q p ≤ most_chunks
unfolding load
load-most q p = go (is_adaptive q)
  where
    go : (b : Bool) → cond b (chunks p) 1 ≤ most_chunks
    go true = chunks-most p
    go false = omega arith

pub load-hop : (q i p : ℕ) → i < dimensions → load q (hop i p) ≡ load q p
unfolding load chunks
load-hop q i p h = ap (λ (c : ℕ). cond (is_adaptive q) (c + 1) 1) (field-hop chunk_field i p (omega arith) h)

-- so a packet that enters a ring by two free slots leaves one of them free
pub load-escape : (q p : ℕ) → directions < q → load q p ≡ 1
load-escape q p h = load_one q p (escape-slots q h)

-- what is taken of a queue that counts slots is the number held
pub taken-length : (S : Shape) (w : List ℕ) (n q : ℕ) → is_adaptive q ≡ false → taken S w n q ≡ length (held S w n q)
unfolding taken
taken-length S w n q e = sum_of-ones (load q) (held S w n q) (λ p. load_one q p e)

-- of any queue it is no less, at most eight times as much, and 0 exactly if no packet is held
pub taken-most : (S : Shape) (w : List ℕ) (n q : ℕ) → taken S w n q ≤ most_chunks * length (held S w n q)
unfolding taken
taken-most S w n q = sum_of-most (load q) most_chunks (held S w n q) (load-most q)

-- and in an adaptive one the sum of their chunks
pub taken-chunks : (S : Shape) (w : List ℕ) (n q : ℕ) → is_adaptive q ≡ true → taken S w n q ≡ sum_of chunks (held S w n q)
unfolding taken
taken-chunks S w n q e = ap (λ (f : ℕ → ℕ). sum_of f (held S w n q)) (fun_ext (λ p. load-chunks q p e))

-- where all packets have as large a load, it is their number times that
pub taken-equal : (S : Shape) (w : List ℕ) (n q m : ℕ) → T (all_of (λ p. eqb (load q p) m) (held S w n q)) → taken S w n q ≡ m * length (held S w n q)
unfolding taken
taken-equal S w n q m t = sum_of-equal (load q) m (held S w n q) t

pub length_taken : (S : Shape) (w : List ℕ) (n q : ℕ) → length (held S w n q) ≤ taken S w n q
unfolding taken
length_taken S w n q = sum_of-least (load q) (held S w n q) (load-pos q)

pub taken_none : (S : Shape) (w : List ℕ) (n q : ℕ) → length (held S w n q) ≡ 0 → taken S w n q ≡ 0
unfolding taken sum_of
taken_none S w n q z = go (held S w n q) z
  where
    go : (ps : List ℕ) → length ps ≡ 0 → sum_of (load q) ps ≡ 0
    go [] e = refl
    go (p ∷ ps) e = absurd (let l : suc (length ps) ≡ 0 = e in omega arith)

pub taken-some : (S : Shape) (w : List ℕ) (n q : ℕ) → length (held S w n q) ≢ 0 → taken S w n q ≢ 0
taken-some S w n q ne z = ne (let l = length_taken S w n q in omega arith)

-- in words v against words w: where the queue is the same; where it holds one packet more, the newest; where it holds one less, the oldest
pub taken-same : (S : Shape) (w v : List ℕ) (n q : ℕ) → held S v n q ≡ held S w n q → taken S v n q ≡ taken S w n q
unfolding taken
taken-same S w v n q e = ap (sum_of (load q)) e

pub taken-joined : (S : Shape) (w v : List ℕ) (n q p : ℕ) → held S v n q ≡ held S w n q ++ (p ∷ []) → taken S v n q ≡ taken S w n q + load q p
unfolding taken
taken-joined S w v n q p e =
    let a : sum_of (load q) (held S v n q) ≡ sum_of (load q) (held S w n q) + sum_of (load q) (p ∷ []) =
    ap (sum_of (load q)) e ∙ sum_of-append (load q) (held S w n q) (p ∷ []) in
    let b : sum_of (load q) (p ∷ []) ≡ load q p = sum_of-one (load q) p in
    omega arith

pub taken-left : (S : Shape) (w v : List ℕ) (n q p : ℕ) → held S w n q ≡ p ∷ held S v n q → taken S w n q ≡ load q p + taken S v n q
unfolding taken sum_of
taken-left S w v n q p e = ap (sum_of (load q)) e

-- One queue replaced --------------------------------------------------------------------------------------------------------------------

pub length-queue_part : (S : Shape) (w : List ℕ) (n q : ℕ) → Fits S w n q → length (queue_part S w n q) ≡ queue_length S q
unfolding queue_part queue_length
length-queue_part S w n q fits =
    length-span w (queue_start S n q) (queue_end S n q) (start-end S n q) (end-length S w n q fits) ∙ end-start S n q

-- the word where a queue starts is the number that it holds
pub count_word : (S : Shape) (w : List ℕ) (n q : ℕ) → Fits S w n q → count_of (queue_part S w n q) ≤ capacity S q → get_or w (queue_start S n q) 0 ≡ length (held S w n q)
unfolding held count_of queue_part queue_length
count_word S w n q f few =
    let z : queue_start S n q ≡ queue_start S n q + 0 = omega arith in
    let e = end-start S n q in
    ap (λ (i : ℕ). get_or w i 0) z
    ∙ sym (get_or-span w (queue_start S n q) (queue_end S n q) 0 (omega arith))
    ∙ sym (length-packets_of (capacity S q) (queue_part S w n q) (length-queue_part S w n q f) few)

-- what is put in is as long as what it replaces
put-length : (S : Shape) (n q : ℕ) (ps : List ℕ) → length ps ≤ capacity S q
    → length (queue_words (capacity S q) ps) ≡ queue_end S n q - queue_start S n q
put-length S n q ps h = length-queue_words (capacity S q) ps h ∙ sym (end-start S n q)

pub part-put-same : (S : Shape) (w : List ℕ) (n q : ℕ) (ps : List ℕ) → Fits S w n q → length ps ≤ capacity S q
    → queue_part S (put_queue S w n q ps) n q ≡ queue_words (capacity S q) ps
unfolding queue_part put_queue
part-put-same S w n q ps fits h =
    span-splice w (queue_start S n q) (queue_end S n q) (queue_words (capacity S q) ps)
    (put-length S n q ps h) (start-end S n q) (end-length S w n q fits)

pub part-put-other : (S : Shape) (w : List ℕ) (n q : ℕ) (ps : List ℕ) (m r : ℕ) → Fits S w n q → length ps ≤ capacity S q
    → m < nodes S → r < queues → ((n ≡ m) × (q ≡ r) → ⊥) → queue_part S (put_queue S w n q ps) m r ≡ queue_part S w m r
unfolding queue_part put_queue
part-put-other S w n q ps m r fits h hm hr ne =
    span-apart w (queue_start S n q) (queue_end S n q) (queue_words (capacity S q) ps) (queue_start S m r) (queue_end S m r)
    (put-length S n q ps h) (start-end S n q) (end-length S w n q fits)
    (start-end S m r) (end-length S w m r (record { node = hm; queue = hr; long = fits.long }))
    (swap (apart S n q m r fits.queue hr ne))
  where
    swap : (queue_end S n q ≤ queue_start S m r) ⊎ (queue_end S m r ≤ queue_start S n q)
        → (queue_end S m r ≤ queue_start S n q) ⊎ (queue_end S n q ≤ queue_start S m r)
    swap (inl a) = inr a
    swap (inr a) = inl a

pub held-put-same : (S : Shape) (w : List ℕ) (n q : ℕ) (ps : List ℕ) → Fits S w n q → length ps ≤ capacity S q → held S (put_queue S w n q ps) n q ≡ ps
unfolding held
held-put-same S w n q ps fits h = ap packets_of (part-put-same S w n q ps fits h) ∙ packets_of-queue_words (capacity S q) ps

pub held-put-other : (S : Shape) (w : List ℕ) (n q : ℕ) (ps : List ℕ) (m r : ℕ) → Fits S w n q → length ps ≤ capacity S q
    → m < nodes S → r < queues → ((n ≡ m) × (q ≡ r) → ⊥) → held S (put_queue S w n q ps) m r ≡ held S w m r
unfolding held
held-put-other S w n q ps m r fits h hm hr ne = ap packets_of (part-put-other S w n q ps m r fits h hm hr ne)

pub length-put : (S : Shape) (w : List ℕ) (n q : ℕ) (ps : List ℕ) → Fits S w n q → length ps ≤ capacity S q
    → length (put_queue S w n q ps) ≡ length w
unfolding put_queue
length-put S w n q ps fits h =
    length-splice w (queue_start S n q) (queue_end S n q) (queue_words (capacity S q) ps)
    (put-length S n q ps h) (start-end S n q) (end-length S w n q fits)

-- the header stays as it is
pub word-put : (S : Shape) (w : List ℕ) (n q : ℕ) (ps : List ℕ) (i : ℕ) → Fits S w n q → length ps ≤ capacity S q → i < header_words
    → get_or (put_queue S w n q ps) i 0 ≡ get_or w i 0
unfolding put_queue
word-put S w n q ps i fits h b =
    let a = start-header S n q in
    let s = start-end S n q in
    let e = end-length S w n q fits in
    get_or-before w (queue_start S n q) (queue_end S n q) (queue_words (capacity S q) ps) i (omega arith) (omega arith)

-- the sizes stand in the first six words
pub shape_same : (v w : List ℕ) → ((i : ℕ) → i < accepted_at → get_or v i 0 ≡ get_or w i 0) → shape v ≡ shape w
unfolding shape
shape_same v w h =
    λ i. record {
      sizes = h 0 (omega arith) i ∷ h 1 (omega arith) i ∷ h 2 (omega arith) i ∷ [];
      escape = h 3 (omega arith) i;
      adaptive = h 4 (omega arith) i;
      injection = h 5 (omega arith) i;
    }

pub shape-put : (S : Shape) (w : List ℕ) (n q : ℕ) (ps : List ℕ) → Fits S w n q → length ps ≤ capacity S q → shape (put_queue S w n q ps) ≡ shape w
shape-put S w n q ps fits h = shape_same (put_queue S w n q ps) w (λ i b. word-put S w n q ps i fits h (omega arith))

-- R48: the words behind the last node stay as they are
pub rest_put : (S : Shape) (w : List ℕ) (n q : ℕ) (ps : List ℕ) → Fits S w n q → length ps ≤ capacity S q
    → drop (need S) (put_queue S w n q ps) ≡ drop (need S) w
unfolding put_queue
rest_put S w n q ps fits h =
    drop-splice w (queue_start S n q) (queue_end S n q) (queue_words (capacity S q) ps) (need S)
    (put-length S n q ps h) (start-end S n q) (end-length S w n q fits) (end-need S n q fits.node fits.queue)

-- of two contents put into one queue the later stays
pub put-put : (S : Shape) (w : List ℕ) (n q : ℕ) (ps qs : List ℕ) → Fits S w n q → length ps ≤ capacity S q
    → put_queue S (put_queue S w n q ps) n q qs ≡ put_queue S w n q qs
unfolding put_queue
put-put S w n q ps qs fits h =
    let s = start-end S n q in
    let e = end-length S w n q fits in
    splice-splice w (queue_start S n q) (queue_end S n q) (queue_words (capacity S q) ps) (queue_words (capacity S q) qs)
    (put-length S n q ps h) (omega arith)

-- One counter raised --------------------------------------------------------------------------------------------------------------------

pub length-raised : (at : ℕ) (w : List ℕ) → length (raised at w) ≡ length w
unfolding raised
length-raised at w = length-set w at (get_or w at 0 + 1)

pub part-raised : (S : Shape) (at : ℕ) (w : List ℕ) (n q : ℕ) → at < header_words → queue_part S (raised at w) n q ≡ queue_part S w n q
unfolding raised queue_part
part-raised S at w n q h =
    let a = start-header S n q in
    span-set-before w at (get_or w at 0 + 1) (queue_start S n q) (queue_end S n q) (omega arith)

pub held-raised : (S : Shape) (at : ℕ) (w : List ℕ) (n q : ℕ) → at < header_words → held S (raised at w) n q ≡ held S w n q
unfolding held
held-raised S at w n q h = ap packets_of (part-raised S at w n q h)

pub raised-same : (at : ℕ) (w : List ℕ) → at < header_words → header_words ≤ length w → get_or (raised at w) at 0 ≡ get_or w at 0 + 1
unfolding raised
raised-same at w h l = get_or-set_same w at (get_or w at 0 + 1) 0 (omega arith)

pub raised-other : (at : ℕ) (w : List ℕ) (i : ℕ) → i ≢ at → get_or (raised at w) i 0 ≡ get_or w i 0
unfolding raised
raised-other at w i ne = get_or-set_other w at i (get_or w at 0 + 1) 0 ne

pub shape-raised : (at : ℕ) (w : List ℕ) → accepted_at ≤ at → shape (raised at w) ≡ shape w
shape-raised at w h = shape_same (raised at w) w (λ i b. raised-other at w i (omega arith))

pub rest-raised : (S : Shape) (at : ℕ) (w : List ℕ) → at < header_words → drop (need S) (raised at w) ≡ drop (need S) w
unfolding raised need
rest-raised S at w h = drop-set-lt (header_words + nodes S * node_words S) w at (get_or w at 0 + 1) (omega arith)

-- Sums over all queues ------------------------------------------------------------------------------------------------------------------

-- of two networks of as many nodes, whose sizes may differ: where every queue's number is the same, the sums are
pub total-both : (S R : Shape) (w v : List ℕ) (f g : List ℕ → ℕ) → nodes S ≡ nodes R
    → ((n q : ℕ) → n < nodes S → q < queues → f (held S w n q) ≡ g (held R v n q)) → total S w f ≡ total R v g
unfolding total
total-both S R w v f g same h =
    sum_same (nodes S) (λ n. sum_below queues (λ q. f (held S w n q))) (λ n. sum_below queues (λ q. g (held R v n q)))
    (λ n hn. sum_same queues (λ q. f (held S w n q)) (λ q. g (held R v n q)) (λ q hq. h n q hn hq))
    ∙ ap (λ (k : ℕ). sum_below k (λ n. sum_below queues (λ q. g (held R v n q)))) same

pub total-same : (S : Shape) (w v : List ℕ) (f : List ℕ → ℕ) → ((n q : ℕ) → n < nodes S → q < queues → held S w n q ≡ held S v n q)
    → total S w f ≡ total S v f
total-same S w v f h = total-both S S w v f f refl (λ n q hn hq. ap f (h n q hn hq))

-- a change of one queue changes the sum by what that queue's number changes
pub total-change : (S : Shape) (w v : List ℕ) (n q : ℕ) (f : List ℕ → ℕ) → n < nodes S → q < queues
    → ((m r : ℕ) → m < nodes S → r < queues → ((n ≡ m) × (q ≡ r) → ⊥) → held S v m r ≡ held S w m r)
    → total S v f + f (held S w n q) ≡ total S w f + f (held S v n q)
unfolding total
total-change S w v n q f hn hq same =
    let one : sum_below queues (after n) + before n q ≡ sum_below queues (before n) + after n q =
    sum-change queues (after n) (before n) q hq (λ r hr ne. ap f (same n r hn hr (λ (e : (n ≡ n) × (q ≡ r)). ne (sym e.1)))) in
    let all : sum_below (nodes S) (λ m. sum_below queues (after m)) + sum_below queues (before n)
    ≡ sum_below (nodes S) (λ m. sum_below queues (before m)) + sum_below queues (after n) =
    sum-change (nodes S) (λ m. sum_below queues (after m)) (λ m. sum_below queues (before m)) n hn
    (λ m hm ne. sum_same queues (after m) (before m) (λ r hr. ap f (same m r hm hr (λ (e : (n ≡ m) × (q ≡ r)). ne (sym e.0))))) in
    omega arith
  where
    after : ℕ → ℕ → ℕ
    after m r = f (held S v m r)

    before : ℕ → ℕ → ℕ
    before m r = f (held S w m r)

pub total-part : (S : Shape) (w : List ℕ) (n q : ℕ) (f : List ℕ → ℕ) → n < nodes S → q < queues → f (held S w n q) ≤ total S w f
unfolding total
total-part S w n q f hn hq =
    let one = term-le queues (λ r. f (held S w n r)) q hq in
    let all = term-le (nodes S) (λ m. sum_below queues (λ r. f (held S w m r))) n hn in
    omega arith

pub total-zero : (S : Shape) (w : List ℕ) (n q : ℕ) → total S w length ≡ 0 → n < nodes S → q < queues → held S w n q ≡ []
total-zero S w n q z hn hq = let l = total-part S w n q length hn hq in nothing (held S w n q) (omega arith)
  where
    nothing : (l : List ℕ) → length l ≡ 0 → l ≡ []
    nothing [] e = refl
    nothing (x ∷ xs) e = absurd (let z : suc (length xs) ≡ 0 = e in omega arith)

pub some-held : (S : Shape) (w : List ℕ) → total S w length ≢ 0
    → (n : ℕ) × (q : ℕ) × (n < nodes S) × (q < queues) × (length (held S w n q) ≢ 0)
unfolding total
some-held S w ne =
    let (n, hn, kn) = some-term (nodes S) (λ m. sum_below queues (λ r. length (held S w m r))) ne in
    let (q, hq, kq) = some-term queues (λ r. length (held S w n r)) kn in
    (n, q, hn, hq, kq)
