-- What a permitted move does to the words, as one fact that adds up over many moves. Order: the fact, of no move and of moves one after the other;
-- what follows from what a move does to each queue (network/specs/AfterLaws.antt): the check, the fact; a permitted move.
-- Assumes nothing.
use Rattle.std.specs.Prelude.{◌≡◌, refl, ◌⊎◌, ◌≢◌, Bool, true, false, cond, ◌&&◌, List, [], ◌∷◌, ◌++◌, T, eqb, length, drop}
use Rattle.std.proofs.Math.Path.{ap, subst}
use Rattle.std.proofs.Common.{sym, ◌∙◌, inl, inr, zero-add, add-zero, le_refl, le_trans, le_of_eq, eq-eqb, ne_eqb, length-append}
use Prim.Native.Nat.{ℕ, suc, ◌+◌, ◌*◌, ◌<◌, ◌≤◌}
use native.Mathlib.Omega.{arith}
use Rattle.base.specs.Tests.{all_of}
use Rattle.base.proofs.Tests.{all_of-append, and_i}
use Rattle.base.specs.Sums.{sum_of}
use Rattle.base.proofs.Sums.{sum_of-append, sum_of-one}
use Rattle.network.specs.Sizes.{Shape, nodes, queues, dimensions, directions, dimension_of, direction_of, capacity}
use Rattle.network.specs.Packet.{destination, hops, heading, hop, label, hops_left, work}
use Rattle.network.proofs.PacketLaws.{arrived-label, label-hop, hops-hop-le, work-hop}
use Rattle.network.specs.Torus.{neighbour}
use Rattle.network.specs.TorusLaws.{Torus}
use Rattle.network.proofs.TorusLaws.{moved_by-here}
use Rattle.network.specs.Layout.{shape, need, held, taken, total, accepted, delivered, moves_made}
use Rattle.network.proofs.LayoutLaws.{load-pos, load-hop, taken-same}
use Rattle.network.specs.Check.{packet_fits, packets_held, work_left, most_work}
use Rattle.network.specs.CheckLaws.{PacketFits, Network}
use Rattle.network.proofs.CheckLaws.{packet-by, eq-T}
use Rattle.network.specs.Routes.{deliver, target}
use Rattle.network.specs.RoutesLaws.{Onward}
use Rattle.network.proofs.RoutesLaws.{route-of}
use Rattle.network.specs.Refusals.{head}
use Rattle.network.specs.RefusalLaws.{Permitted}
use Rattle.network.proofs.RefusalLaws.{target-takes}
use Rattle.network.specs.Calls.{Delivery, after_move}
use Rattle.network.specs.SameWords.{OtherQueue}
use Rattle.network.specs.AfterLaws.{hopped, NotTarget, MoveMade, Role, is-source, is-target, is-neither}
use Rattle.network.proofs.AfterLaws.{head-fits, onward-along, move-made, role, source-taken, target-taken, move-sum}
use Rattle.network.specs.Run.{is_labelled, held_with, handed_with, hops_of, hops_with, at_destination}
use Rattle.run.specs.Queues.{fits_by, one, packets-sum, all_of-rest, all_of-newest}
use Rattle.run.specs.Rings.{Shifted, ring-kept}
use Rattle.run.specs.Hop.{Going, going, hopped-fits}

-- moves made one after the other have led from w to v, handed out ds and were m in number
pub record Ran (S : Shape) (w v : List ℕ) (ds : List Delivery) (m : ℕ) : Type 0 where
  pub network : Network S v
  pub same_shape : shape v ≡ shape w
  pub at-destination : T (all_of at_destination ds)
  pub labels : (l : ℕ) → handed_with l ds + held_with l S v ≡ held_with l S w
  pub packets : length ds + packets_held S v ≡ packets_held S w
  pub work-done : m + work_left S v ≡ work_left S w
  pub no-more-hops : (l d : ℕ) → d < directions → hops_with l d S v ≤ hops_with l d S w
  pub moves : moves_made v ≡ moves_made w + m
  pub deliveries : delivered v ≡ delivered w + length ds
  pub same_length : length v ≡ length w
  pub rest : drop (need S) v ≡ drop (need S) w

-- what a move leaves alone: every queue but its source and its target; and of no queue but the source less is taken than before
pub record Elsewhere (S : Shape) (w v : List ℕ) (n q o : ℕ) : Type 0 where
  pub same : (m r : ℕ) → m < nodes S → r < queues → OtherQueue n q m r → NotTarget S n o m r → held S v m r ≡ held S w m r
  pub no_less : (m r : ℕ) → m < nodes S → r < queues → OtherQueue n q m r → taken S w m r ≤ taken S v m r

-- no move
pub ran-none : (S : Shape) (w : List ℕ) → Network S w → Ran S w w [] 0
unfolding all_of handed_with sum_of
ran-none S w N =
    record {
      network = N;
      same_shape = refl;
      at-destination = tt;
      labels = λ l. zero-add (held_with l S w);
      packets = zero-add (packets_held S w);
      work-done = zero-add (work_left S w);
      no-more-hops = λ l d h. le_refl (hops_with l d S w);
      moves = sym (add-zero (moves_made w));
      deliveries = sym (add-zero (delivered w));
      same_length = refl;
      rest = refl;
    }

-- moves after moves
pub ran_then : (S : Shape) (u w v : List ℕ) (ds es : List Delivery) (m k : ℕ) → Ran S u w ds m → Ran S w v es k → Ran S u v (ds ++ es) (m + k)
unfolding handed_with
ran_then S u w v ds es m k a b =
    record {
      network = b.network;
      same_shape = b.same_shape ∙ a.same_shape;
      at-destination = all_of-append at_destination ds es a.at-destination b.at-destination;
      labels =
          λ l.
          let x : sum_of (λ d. is_labelled l d.packet) ds + held_with l S w ≡ held_with l S u = a.labels l in
          let y : sum_of (λ d. is_labelled l d.packet) es + held_with l S v ≡ held_with l S w = b.labels l in
          let z : sum_of (λ d. is_labelled l d.packet) (ds ++ es) ≡ sum_of (λ d. is_labelled l d.packet) ds + sum_of (λ d. is_labelled l d.packet) es =
          sum_of-append (λ d. is_labelled l d.packet) ds es in
          omega arith;
      packets =
          let x : length ds + packets_held S w ≡ packets_held S u = a.packets in
          let y : length es + packets_held S v ≡ packets_held S w = b.packets in
          let z : length (ds ++ es) ≡ length ds + length es = length-append ds es in
          omega arith;
      work-done =
          let x : m + work_left S w ≡ work_left S u = a.work-done in
          let y : k + work_left S v ≡ work_left S w = b.work-done in
          omega arith;
      no-more-hops = λ l d h. le_trans (b.no-more-hops l d h) (a.no-more-hops l d h);
      moves =
          let x : moves_made w ≡ moves_made u + m = a.moves in
          let y : moves_made v ≡ moves_made w + k = b.moves in
          omega arith;
      deliveries =
          let x : delivered w ≡ delivered u + length ds = a.deliveries in
          let y : delivered v ≡ delivered w + length es = b.deliveries in
          let z : length (ds ++ es) ≡ length ds + length es = length-append ds es in
          omega arith;
      same_length = b.same_length ∙ a.same_length;
      rest = b.rest ∙ a.rest;
    }

-- packets of one label count alike
label_same : (l p r : ℕ) → label p ≡ label r → is_labelled l p ≡ is_labelled l r
unfolding is_labelled
label_same l p r e = rw e

-- a packet of any label has no more hops left in any direction after a hop
hops_of-hop : (l e i p : ℕ) → i < dimensions → e < directions → hops_of l e (hop i p) ≤ hops_of l e p
unfolding hops_of
hops_of-hop l e i p h k = rw (label-hop i p h) (go (eqb (label p) l))
  where
    go : (own : Bool) → cond own (hops e (hop i p)) 0 ≤ cond own (hops e p) 0
    go true = hops-hop-le i e p h k
    go false = le_refl 0

-- one packet handed out where it belongs
at-destination-one : (n p : ℕ) → label p ≡ p → destination p ≡ n → T (all_of at_destination (record { node = n; packet = p } ∷ []))
unfolding all_of at_destination
at-destination-one n p own there = and_i (eqb (label p) p && eqb (destination p) n) true (and_i (eqb (label p) p) (eqb (destination p) n) (eq-T (label p) p own) (eq-T (destination p) n there)) tt

-- a packet that has arrived is one move's work
work-arrived : (p : ℕ) → hops_left p ≡ 0 → work p ≡ 1
unfolding work
work-arrived p z = let e : hops_left p ≡ 0 = z in omega arith

-- what follows from what a permitted move does
module _ (S : Shape) (w v : List ℕ) (n q o : ℕ) (tor : Torus S) (N : Network S w) (P : Permitted S w n q o) (M : MoveMade S w v n q o) where
  abbrev p : ℕ
  p = head (held S w n q)

  abbrev h : ℕ
  h = hopped S w n q o

  shifted : Shifted S w v n q o
  shifted =
      record {
        packet = h;
        others = λ m r hm hr ne. less m r hm hr ne (role S n q o m r);
        newest = target-taken S w v n q o P M;
        source = let a = source-taken S w v n q o P M in let b = load-pos q p in omega arith;
      }
    where
      less : (m r : ℕ) → m < nodes S → r < queues → NotTarget S n o m r → Role S n q o m r → taken S v m r ≤ taken S w m r
      less m r hm hr ne (is-source e) = let b : taken S v n q ≤ taken S w n q = (let a = source-taken S w v n q o P M in omega arith) in rw (← e.0, ← e.1) b
      less m r hm hr ne (is-target away e) = absurd (ne away e)
      less m r hm hr ne (is-neither a b) = le_of_eq (taken-same S w v m r (M.others m r hm hr a b))

  elsewhere : Elsewhere S w v n q o
  elsewhere = record { same = M.others; no_less = λ m r hm hr ne. more m r hm hr ne (role S n q o m r) }
    where
      more : (m r : ℕ) → m < nodes S → r < queues → OtherQueue n q m r → Role S n q o m r → taken S w m r ≤ taken S v m r
      more m r hm hr ne (is-source e) = absurd (ne e)
      more m r hm hr ne (is-target away e) =
          let b : taken S w (target S n o) o ≤ taken S v (target S n o) o = (let a = target-taken S w v n q o P M away in omega arith) in rw (← e.0, ← e.1) b
      more m r hm hr ne (is-neither a b) = le_of_eq (sym (taken-same S w v m r (M.others m r hm hr a b)))

  -- no queue takes more load than its capacity: the source takes less, the target what there was room for
  light : (m r : ℕ) → m < nodes S → r < queues → Role S n q o m r → taken S v m r ≤ capacity S r
  light m r hm hr (is-source e) =
      let a = source-taken S w v n q o P M in
      let b = (N.queue n q P.node P.queue).light in
      let c : taken S v n q ≤ capacity S q = omega arith in
      rw (← e.0, ← e.1) c
  light m r hm hr (is-target away e) =
      let a = target-taken S w v n q o P M away in
      let b = load-hop o (dimension_of (direction_of o)) p (omega arith) in
      let c = target-takes S w n q o p (P.room away) in
      let d : taken S v (target S n o) o ≤ capacity S o = omega arith in
      rw (← e.0, ← e.1) d
  light m r hm hr (is-neither a b) = rw (taken-same S w v m r (M.others m r hm hr a b)) (N.queue m r hm hr).light

  -- every packet fits where it stands
  going_on : Onward p o → PacketFits S (target S n o) o h
  unfolding target
  going_on r =
      let g : Going p o (heading r.dimension p) = going p o r in
      subst (λ (d : ℕ). PacketFits S (neighbour S d n) o (hop (dimension_of d) p)) (sym g.out)
      (hopped-fits S n q p o (heading r.dimension p) tor P.node (head-fits S w n q N P.node P.queue P.holds) g)

  packets-fit : (m r : ℕ) → m < nodes S → r < queues → Role S n q o m r → T (all_of (packet_fits S m r) (held S v m r))
  packets-fit m r hm hr (is-source e) =
      rw (← e.0, ← e.1, M.source) (all_of-rest (packet_fits S n q) (held S w n q) (N.queue n q P.node P.queue).packets)
  packets-fit m r hm hr (is-target away e) =
      let there : target S n o < nodes S = rw e.0 hm in
      rw (← e.0, ← e.1, M.arrival away)
      (all_of-newest (packet_fits S (target S n o) o) (held S w (target S n o) o) h (N.queue (target S n o) o there P.output).packets
      (packet-by S (target S n o) o h (arrives (route-of q p o P.route))))
    where
      arrives : ((o ≡ deliver) × (hops_left p ≡ 0)) ⊎ Onward p o → PacketFits S (target S n o) o h
      arrives (inl e') = absurd (away e'.0)
      arrives (inr r') = going_on r'
  packets-fit m r hm hr (is-neither a b) = rw (M.others m r hm hr a b) (N.queue m r hm hr).packets

  -- the check, whatever was handed out
  made-network : (k : ℕ) → delivered v ≡ delivered w + k → k + packets_held S v ≡ packets_held S w → 1 + work_left S v ≡ work_left S w → Network S v
  made-network k handed packets less =
      let a : accepted v ≡ accepted w = M.same-accepted in
      let b : moves_made v ≡ moves_made w + 1 = M.one-move in
      let c : delivered w + packets_held S w ≡ accepted w = N.counted in
      let d : moves_made w + work_left S w ≤ most_work * accepted w = N.bounded in
      record {
        in-range = N.in-range;
        long = M.kept.stored.long;
        queue = λ m r hm hr. fits_by S v m r (M.kept.stored.queue m r hm hr) (light m r hm hr (role S n q o m r)) (packets-fit m r hm hr (role S n q o m r));
        ring = λ e m he hm. ring-kept S w v n q o p tor P.node (N.queue n q P.node P.queue).light P.room shifted e m he hm (N.ring e m he hm);
        few-accepted = rw M.same-accepted N.few-accepted;
        counted = omega arith;
        bounded = omega arith;
      }

  -- the packet has arrived, and is handed out
  handed-ran : o ≡ deliver → hops_left p ≡ 0 → Ran S w v (record { node = n; packet = p } ∷ []) 1
  unfolding handed_with held_with hops_with work_left
  handed-ran e arrived =
      record {
        network = made-network 1 handed packets done;
        same_shape = M.kept.same_shape;
        at-destination = at-destination-one n p (arrived-label p arrived) (sym (head-fits S w n q N P.node P.queue P.holds).arrives ∙ moved_by-here S n p tor P.node arrived);
        labels =
            λ l.
            let a = sum (is_labelled l) in
            let b : sum_of (λ (d : Delivery). is_labelled l d.packet) (record { node = n; packet = p } ∷ []) ≡ is_labelled l p =
            sum_of-one (λ (d : Delivery). is_labelled l d.packet) (record { node = n; packet = p }) in
            omega arith;
        packets = packets;
        work-done = done;
        no-more-hops = λ l d hd. let a = sum (hops_of l d) in omega arith;
        moves = M.one-move;
        deliveries = handed;
        same_length = M.kept.same_length;
        rest = M.kept.rest;
      }
    where
      sum : (g : ℕ → ℕ) → total S v (sum_of g) + g p ≡ total S w (sum_of g)
      sum g = let a : total S v (sum_of g) + g p ≡ total S w (sum_of g) + 0 = rw (eq-eqb o deliver e) at (move-sum S w v n q o tor N P M g) in omega arith

      handed : delivered v ≡ delivered w + 1
      handed = rw (eq-eqb o deliver e) at M.handed_out

      packets : 1 + packets_held S v ≡ packets_held S w
      packets = let a = sum one in let b = packets-sum S v in let c = packets-sum S w in omega arith

      done : 1 + work_left S v ≡ work_left S w
      done = let a : total S v (sum_of work) + work p ≡ total S w (sum_of work) = sum work in let b = work-arrived p arrived in omega arith

  -- the packet goes on
  hopped-ran : o ≢ deliver → Onward p o → Ran S w v [] 1
  unfolding all_of handed_with sum_of held_with hops_with work_left
  hopped-ran away r =
      record {
        network = made-network 0 handed packets done;
        same_shape = M.kept.same_shape;
        at-destination = tt;
        labels = λ l. let a = sum (is_labelled l) in let b = label_same l h p (ap label nearer ∙ label-hop r.dimension p r.below) in omega arith;
        packets = packets;
        work-done = done;
        no-more-hops = λ l d hd. let a = sum (hops_of l d) in let b : hops_of l d h ≤ hops_of l d p = rw nearer (hops_of-hop l d r.dimension p r.below hd) in omega arith;
        moves = M.one-move;
        deliveries = handed;
        same_length = M.kept.same_length;
        rest = M.kept.rest;
      }
    where
      nearer : h ≡ hop r.dimension p
      nearer = ap (λ (i : ℕ). hop i p) (onward-along p o r)

      sum : (g : ℕ → ℕ) → total S v (sum_of g) + g p ≡ total S w (sum_of g) + g h
      sum g = rw (ne_eqb o deliver away) at (move-sum S w v n q o tor N P M g)

      handed : delivered v ≡ delivered w + 0
      handed = rw (ne_eqb o deliver away) at M.handed_out

      packets : 0 + packets_held S v ≡ packets_held S w
      packets = let a = sum one in let b = packets-sum S v in let c = packets-sum S w in omega arith

      done : 1 + work_left S v ≡ work_left S w
      done =
          let a : total S v (sum_of work) + work p ≡ total S w (sum_of work) + work h = sum work in
          let b : suc (work (hop r.dimension p)) ≡ work p = work-hop r.dimension p r.below r.far in
          let c : work h ≡ work (hop r.dimension p) = ap work nearer in
          omega arith

-- what a move hands out
unfoldable pub hands_out : Shape → List ℕ → ℕ → ℕ → ℕ → List Delivery
hands_out S w n q o = cond (eqb o deliver) (record { node = n; packet = head (held S w n q) } ∷ []) []

-- a permitted move, in full
pub step : (S : Shape) (w : List ℕ) (n q o : ℕ) → Torus S → Network S w → Permitted S w n q o → Ran S w (after_move S w n q o) (hands_out S w n q o) 1
unfolding hands_out
step S w n q o tor N P = go (route-of q p o P.route)
  where
    v : List ℕ
    v = after_move S w n q o

    p : ℕ
    p = head (held S w n q)

    go : ((o ≡ deliver) × (hops_left p ≡ 0)) ⊎ Onward p o → Ran S w v (cond (eqb o deliver) (record { node = n; packet = p } ∷ []) []) 1
    go (inl e) = rw (eq-eqb o deliver e.0) (handed-ran S w v n q o tor N P (move-made S w n q o tor N P) e.0 e.1)
    go (inr r) = rw (ne_eqb o deliver away) (hopped-ran S w v n q o tor N P (move-made S w n q o tor N P) away r)
      where
        away : o ≢ deliver
        away = (going p o r).transit

-- and what it leaves alone
pub step-elsewhere : (S : Shape) (w : List ℕ) (n q o : ℕ) → Torus S → Network S w → Permitted S w n q o → Elsewhere S w (after_move S w n q o) n q o
step-elsewhere S w n q o tor N P = elsewhere S w (after_move S w n q o) n q o tor N P (move-made S w n q o tor N P)
