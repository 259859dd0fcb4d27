-- What a permitted move and a taken offer do to the words of a network: to each queue, to each counter, and to nothing else. Laws of `after_move` and
-- `after_offer` of Calls.antt. Order: a queue replaced and a counter raised, each in full; where a move leads; a move, and what it does to the loads and to
-- the sums over all packets; an offer. Assumes nothing.
use Rattle.std.specs.Prelude.{◌≡◌, refl, ◌⊎◌, ◌≢◌, cond, List, [], ◌∷◌, ◌++◌, ℕ, ◌+◌, ◌<◌, ◌≤◌, T, eqb, length, get_or, drop}
use Rattle.std.proofs.Common.{ap, sym, ◌∙◌, subst, inl, inr, add-zero, arith, eq-eqb, ne_eqb, length-append, length-drop}
use Rattle.std.proofs.Math.Decide.{ℕ_discrete}
use Rattle.base.specs.Tests.{all_of}
use Rattle.base.proofs.Tests.{all_of-head}
use Rattle.base.specs.Sums.{sum_of}
use Rattle.base.proofs.Sums.{sum_of-append, sum_of-one}
use Rattle.network.specs.Sizes.{Shape, size, nodes, queues, directions, injection_queue, adaptive_queue, escape_queue, direction_of, dimension_of, capacity}
use Rattle.network.specs.Packet.{distance, heading, hops_left}
use Rattle.network.proofs.PacketLaws.{heading-lt, heading-dimension}
use Rattle.network.specs.TorusLaws.{Torus}
use Rattle.network.proofs.TorusLaws.{neighbour-lt, neighbour-apart}
use Rattle.network.specs.Layout.{header_words, held, load, taken, put_queue, raised, total, accepted, delivered, moves_made, accepted_at, delivered_at, moves_at}
use Rattle.network.specs.LayoutLaws.{Fits}
use Rattle.network.proofs.LayoutLaws.{header-long, load-pos, length_taken, taken-joined, taken-left, held-put-same, held-put-other, length-put, word-put, shape-put, rest_put}
use Rattle.network.proofs.LayoutLaws.{length-raised, held-raised, raised-same, raised-other, shape-raised, rest-raised, total-same, total-change}
use Rattle.network.specs.Check.{longest, reach, packet_fits}
use Rattle.network.specs.CheckLaws.{PacketFits, Network}
use Rattle.network.proofs.CheckLaws.{packet-of, reach-least}
use Rattle.network.specs.SameWords.{QueuesStored}
use Rattle.network.proofs.SameWords.{same?, stored-few, stored-put, stored-raised, network-stored}
use Rattle.network.specs.Routes.{deliver, target}
use Rattle.network.specs.RoutesLaws.{Onward}
use Rattle.network.proofs.RoutesLaws.{route-of}
use Rattle.network.specs.Refusals.{head}
use Rattle.network.specs.RefusalLaws.{Permitted}
use Rattle.network.proofs.RefusalLaws.{target-takes}
use Rattle.network.specs.Calls.{offered, after_offer, head_leaves, packet_arrives, after_move}
use Rattle.network.specs.AfterLaws.{LayoutKept, QueuePut, CounterRaised, Ahead, hopped, NotTarget, MoveMade, Role, is-source, is-target, is-neither, OfferTaken}

pub kept_then : {S : Shape} {u w v : List ℕ} → LayoutKept S u w → LayoutKept S w v → LayoutKept S u v
kept_then a b =
    record {
      same_shape = b.same_shape ∙ a.same_shape;
      same_length = b.same_length ∙ a.same_length;
      rest = b.rest ∙ a.rest;
      stored = b.stored;
    }

queue-put : (S : Shape) (w : List ℕ) (n q : ℕ) (ps : List ℕ) → QueuesStored S w → n < nodes S → q < queues → length ps ≤ capacity S q
    → QueuePut S w (put_queue S w n q ps) n q ps
queue-put S w n q ps s hn hq few =
    record {
      here = held-put-same S w n q ps at few;
      others = λ m r hm hr ne. held-put-other S w n q ps m r at few hm hr ne;
      header = λ i h. word-put S w n q ps i at few h;
      kept =
          record {
            same_shape = shape-put S w n q ps at few;
            same_length = length-put S w n q ps at few;
            rest = rest_put S w n q ps at few;
            stored = stored-put S w n q ps at few s;
          };
    }
  where
    at : Fits S w n q
    at = record { node = hn; queue = hq; long = s.long }

counter-raised : (S : Shape) (at : ℕ) (w : List ℕ) → QueuesStored S w → accepted_at ≤ at → at < header_words → CounterRaised S at w (raised at w)
counter-raised S at w s l h =
    record {
      queue = λ m r. held-raised S at w m r h;
      risen = raised-same at w h (header-long S w s.long);
      header = λ i ne. raised-other at w i ne;
      kept = record { same_shape = shape-raised at w l; same_length = length-raised at w; rest = rest-raised S at w h; stored = stored-raised S at w h s };
    }

-- room for one packet more
one_more : (ps : List ℕ) (p c : ℕ) → length ps < c → length (ps ++ (p ∷ [])) ≤ c
one_more ps p c room = let a = length-append ps (p ∷ []) in omega arith

-- Where a move leads ----------------------------------------------------------------------------------------------------------------------

-- the head of a queue, and what stands behind it
pub first_rest : (ps : List ℕ) → length ps ≢ 0 → ps ≡ head ps ∷ drop 1 ps
unfolding head
first_rest [] ne = absurd (ne refl)
first_rest (p ∷ ps) ne = refl

sum_head : (g : ℕ → ℕ) (ps : List ℕ) → length ps ≢ 0 → sum_of g ps ≡ g (head ps) + sum_of g (drop 1 ps)
unfolding sum_of
sum_head g ps ne = ap (sum_of g) (first_rest ps ne)

-- it fits its queue
pub head-fits : (S : Shape) (w : List ℕ) (n q : ℕ) → Network S w → n < nodes S → q < queues → length (held S w n q) ≢ 0
    → PacketFits S n q (head (held S w n q))
head-fits S w n q N hn hq holds =
    packet-of S n q (head (held S w n q))
    (all_of-head (packet_fits S n q) (head (held S w n q)) (drop 1 (held S w n q))
    (subst (λ (ps : List ℕ). T (all_of (packet_fits S n q) ps)) (first_rest (held S w n q) holds) (N.queue n q hn hq).packets))

-- it leaves its queue
head-left : (S : Shape) (w : List ℕ) (n q : ℕ) → Network S w → n < nodes S → q < queues → QueuePut S w (head_leaves S w n q) n q (drop 1 (held S w n q))
unfolding head_leaves
head-left S w n q N hn hq =
    let s : QueuesStored S w = network-stored S w N in
    let a = length-drop 1 (held S w n q) in
    let b = stored-few S w n q (record { node = hn; queue = hq; long = N.long }) (s.queue n q hn hq) in
    queue-put S w n q (drop 1 (held S w n q)) s hn hq (omega arith)

-- an output that is no delivery goes along the dimension in which the packet has a hop left
pub onward-along : (p o : ℕ) (r : Onward p o) → dimension_of (direction_of o) ≡ r.dimension
onward-along p o r = ap dimension_of (way (heading r.dimension p) (heading-lt r.dimension p r.below) r.by) ∙ heading-dimension r.dimension p
  where
    way : (d : ℕ) → d < directions → (o ≡ adaptive_queue d) ⊎ ((o ≡ escape_queue d) × ((j : ℕ) → j < r.dimension → distance j p ≡ 0))
        → direction_of o ≡ d
    way d h (inl e) = omega arith
    way d h (inr (e, lower)) = omega arith

pub ahead : (S : Shape) (w : List ℕ) (n q o : ℕ) → Torus S → Network S w → Permitted S w n q o → o ≢ deliver → Ahead S w n q o
unfolding target
ahead S w n q o tor N P away = go (route-of q p o P.route)
  where
    p : ℕ
    p = head (held S w n q)

    below : direction_of o < directions
    below = omega arith

    there : target S n o < nodes S
    there = neighbour-lt S (direction_of o) n tor below P.node

    free : length (held S w (target S n o) o) < capacity S o
    free =
        let a = length_taken S w (target S n o) o in
        let b = load-pos o p in
        let c = target-takes S w n q o p (P.room away) in
        omega arith

    go : ((o ≡ deliver) × (hops_left p ≡ 0)) ⊎ Onward p o → Ahead S w n q o
    go (inl e) = absurd (away e.0)
    go (inr r) =
        record {
          node = there;
          apart = apart;
          room = rw ((head-left S w n q N P.node P.queue).others (target S n o) o there P.output (λ e. apart (sym e.0))) free;
        }
      where
        wide : 1 < size S (dimension_of (direction_of o))
        wide =
            let far : distance r.dimension p ≢ 0 = r.far in
            let a : distance r.dimension p ≤ reach r.dimension q p = reach-least r.dimension q p in
            let b : reach r.dimension q p ≤ longest S r.dimension =
            (head-fits S w n q N P.node P.queue P.holds).near r.dimension r.below in
            rw (onward-along p o r) (omega arith)

        apart : target S n o ≢ n
        apart e = neighbour-apart S (direction_of o) n tor below P.node wide e

pub move-made : (S : Shape) (w : List ℕ) (n q o : ℕ) → Torus S → Network S w → Permitted S w n q o → MoveMade S w (after_move S w n q o) n q o
unfolding after_move packet_arrives accepted delivered moves_made
move-made S w n q o tor N P = go (ℕ_discrete o deliver)
  where
    u : List ℕ
    u = head_leaves S w n q

    A : QueuePut S w u n q (drop 1 (held S w n q))
    A = head-left S w n q N P.node P.queue

    there : ℕ
    there = target S n o

    joined : List ℕ
    joined = held S u there o ++ (hopped S w n q o ∷ [])

    -- by a delivery
    delivers : o ≡ deliver → MoveMade S w (raised moves_at (raised delivered_at u)) n q o
    delivers e =
        record {
          source = C.queue n q ∙ B.queue n q ∙ A.here;
          arrival = λ away. absurd (away e);
          others = λ m r hm hr ne ne'. C.queue m r ∙ B.queue m r ∙ A.others m r hm hr ne;
          apart = λ away. absurd (away e);
          same-accepted = C.header accepted_at (λ z. omega arith) ∙ B.header accepted_at (λ z. omega arith) ∙ A.header accepted_at (omega arith);
          handed_out =
              C.header delivered_at (λ z. omega arith)
              ∙ B.risen
              ∙ rw (eq-eqb o deliver e) (ap (λ (x : ℕ). x + 1) (A.header delivered_at (omega arith)));
          one-move = C.risen ∙ ap (λ (x : ℕ). x + 1) (B.header moves_at (λ z. omega arith) ∙ A.header moves_at (omega arith));
          kept = kept_then A.kept (kept_then B.kept C.kept);
        }
      where
        B : CounterRaised S delivered_at u (raised delivered_at u)
        B = counter-raised S delivered_at u A.kept.stored (omega arith) (omega arith)

        C : CounterRaised S moves_at (raised delivered_at u) (raised moves_at (raised delivered_at u))
        C = counter-raised S moves_at (raised delivered_at u) B.kept.stored (omega arith) (omega arith)

    -- by a hop
    goes_on : o ≢ deliver → MoveMade S w (raised moves_at (put_queue S u there o joined)) n q o
    goes_on away =
        record {
          source = C.queue n q ∙ B.others n q P.node P.queue (λ e. F.apart e.0) ∙ A.here;
          arrival =
              λ _.
              C.queue there o
              ∙ B.here
              ∙ ap (λ (ps : List ℕ). ps ++ (hopped S w n q o ∷ [])) (A.others there o F.node P.output (λ e. F.apart (sym e.0)));
          others = λ m r hm hr ne ne'. C.queue m r ∙ B.others m r hm hr (ne' away) ∙ A.others m r hm hr ne;
          apart = λ _. F.apart;
          same-accepted = C.header accepted_at (λ z. omega arith) ∙ word accepted_at (omega arith);
          handed_out =
              C.header delivered_at (λ z. omega arith)
              ∙ word delivered_at (omega arith)
              ∙ rw (ne_eqb o deliver away) (sym (add-zero (get_or w delivered_at 0)));
          one-move = C.risen ∙ ap (λ (x : ℕ). x + 1) (word moves_at (omega arith));
          kept = kept_then A.kept (kept_then B.kept C.kept);
        }
      where
        F : Ahead S w n q o
        F = ahead S w n q o tor N P away

        B : QueuePut S u (put_queue S u there o joined) there o joined
        B = queue-put S u there o joined A.kept.stored F.node P.output (one_more (held S u there o) (hopped S w n q o) (capacity S o) F.room)

        C : CounterRaised S moves_at (put_queue S u there o joined) (raised moves_at (put_queue S u there o joined))
        C = counter-raised S moves_at (put_queue S u there o joined) B.kept.stored (omega arith) (omega arith)

        word : (i : ℕ) → i < header_words → get_or (put_queue S u there o joined) i 0 ≡ get_or w i 0
        word i h = B.header i h ∙ A.header i h

    go : Dec (o ≡ deliver) → MoveMade S w (raised moves_at (cond (eqb o deliver) (raised delivered_at u) (put_queue S u there o joined))) n q o
    go (yes e) = subst (λ (v : List ℕ). MoveMade S w v n q o) (rw (eq-eqb o deliver e)) (delivers e)
    go (no away) = subst (λ (v : List ℕ). MoveMade S w v n q o) (rw (ne_eqb o deliver away)) (goes_on away)

pub role : (S : Shape) (n q o m r : ℕ) → Role S n q o m r
role S n q o m r = go (same? n q m r) (ℕ_discrete o deliver) (same? (target S n o) o m r)
  where
    go : Dec ((n ≡ m) × (q ≡ r)) → Dec (o ≡ deliver) → Dec ((target S n o ≡ m) × (o ≡ r)) → Role S n q o m r
    go (yes e) z t = is-source e
    go (no ne) (yes z) t = is-neither ne (λ away. absurd (away z))
    go (no ne) (no away) (yes e) = is-target away e
    go (no ne) (no away) (no ne') = is-neither ne (λ _. ne')

-- how much of the source is taken then, and of the target; of any other queue as much as before
module _ (S : Shape) (w v : List ℕ) (n q o : ℕ) (P : Permitted S w n q o) (M : MoveMade S w v n q o) where
  pub source-taken : taken S w n q ≡ load q (head (held S w n q)) + taken S v n q
  source-taken =
      taken-left S w v n q (head (held S w n q))
      (first_rest (held S w n q) P.holds ∙ ap (λ (ps : List ℕ). head (held S w n q) ∷ ps) (sym M.source))

  pub target-taken : o ≢ deliver → taken S v (target S n o) o ≡ taken S w (target S n o) o + load o (hopped S w n q o)
  target-taken away = taken-joined S w v (target S n o) o (hopped S w n q o) (M.arrival away)

-- so a sum over all packets loses the head's part, and gains its part after the hop, if it is not handed out
pub move-sum : (S : Shape) (w v : List ℕ) (n q o : ℕ) → Torus S → Network S w → Permitted S w n q o → MoveMade S w v n q o → (g : ℕ → ℕ)
    → total S v (sum_of g) + g (head (held S w n q)) ≡ total S w (sum_of g) + cond (eqb o deliver) 0 (g (hopped S w n q o))
move-sum S w v n q o tor N P M g = go (ℕ_discrete o deliver)
  where
    u : List ℕ
    u = head_leaves S w n q

    A : QueuePut S w u n q (drop 1 (held S w n q))
    A = head-left S w n q N P.node P.queue

    p : ℕ
    p = head (held S w n q)

    -- the head leaves
    leaves : total S u (sum_of g) + g p ≡ total S w (sum_of g)
    leaves =
        let a : total S u (sum_of g) + sum_of g (held S w n q) ≡ total S w (sum_of g) + sum_of g (held S u n q) =
        total-change S w u n q (sum_of g) P.node P.queue A.others in
        let b : sum_of g (held S u n q) ≡ sum_of g (drop 1 (held S w n q)) = ap (sum_of g) A.here in
        let c : sum_of g (held S w n q) ≡ g p + sum_of g (drop 1 (held S w n q)) = sum_head g (held S w n q) P.holds in
        omega arith

    -- where it does not arrive, nothing changes after that
    unchanged : (m r : ℕ) → m < nodes S → r < queues → NotTarget S n o m r → held S v m r ≡ held S u m r
    unchanged m r hm hr ne = at (same? n q m r)
      where
        at : Dec ((n ≡ m) × (q ≡ r)) → held S v m r ≡ held S u m r
        at (yes e) = rw (← e.0, ← e.1) (M.source ∙ sym A.here)
        at (no ne') = M.others m r hm hr ne' ne ∙ sym (A.others m r hm hr ne')

    go : Dec (o ≡ deliver) → total S v (sum_of g) + g p ≡ total S w (sum_of g) + cond (eqb o deliver) 0 (g (hopped S w n q o))
    go (yes e) =
        let a : total S v (sum_of g) ≡ total S u (sum_of g) = total-same S v u (sum_of g) (λ m r hm hr. unchanged m r hm hr (λ away. absurd (away e))) in
        let b = leaves in
        rw (eq-eqb o deliver e) (omega arith)
    go (no away) =
        let t : ℕ = target S n o in
        let h : ℕ = hopped S w n q o in
        let F : Ahead S w n q o = ahead S w n q o tor N P away in
        let a : total S v (sum_of g) + sum_of g (held S u t o) ≡ total S u (sum_of g) + sum_of g (held S v t o) =
        total-change S u v t o (sum_of g) F.node P.output (λ m r hm hr ne. unchanged m r hm hr (λ _. ne)) in
        let b : sum_of g (held S v t o) ≡ sum_of g (held S w t o) + sum_of g (h ∷ []) = ap (sum_of g) (M.arrival away) ∙ sum_of-append g (held S w t o) (h ∷ []) in
        let c : sum_of g (held S u t o) ≡ sum_of g (held S w t o) = ap (sum_of g) (A.others t o F.node P.output (λ e. F.apart (sym e.0))) in
        let d : sum_of g (h ∷ []) ≡ g h = sum_of-one g h in
        let e = leaves in
        rw (ne_eqb o deliver away) (omega arith)

-- where the injection queue has a free slot
pub offer-taken : (S : Shape) (w : List ℕ) (n dest tag chunks : ℕ) → QueuesStored S w → n < nodes S
    → length (held S w n injection_queue) < capacity S injection_queue
    → OfferTaken S w (after_offer S w n dest tag chunks) n (offered S n dest tag chunks)
unfolding after_offer accepted delivered moves_made
offer-taken S w n dest tag chunks s hn room =
    record {
      newest = B.queue n injection_queue ∙ A.here;
      others = λ m r hm hr ne. B.queue m r ∙ A.others m r hm hr ne;
      one-accepted = B.risen ∙ ap (λ (x : ℕ). x + 1) (A.header accepted_at (omega arith));
      same-delivered = B.header delivered_at (λ z. omega arith) ∙ A.header delivered_at (omega arith);
      same-moves = B.header moves_at (λ z. omega arith) ∙ A.header moves_at (omega arith);
      kept = kept_then A.kept B.kept;
    }
  where
    p : ℕ
    p = offered S n dest tag chunks

    joined : List ℕ
    joined = held S w n injection_queue ++ (p ∷ [])

    put : List ℕ
    put = put_queue S w n injection_queue joined

    A : QueuePut S w put n injection_queue joined
    A = queue-put S w n injection_queue joined s hn (omega arith) (one_more (held S w n injection_queue) p (capacity S injection_queue) room)

    B : CounterRaised S accepted_at put (raised accepted_at put)
    B = counter-raised S accepted_at put A.kept.stored (omega arith) (omega arith)
