-- Laws of Together.antt. Order: how often a queue is a source or a target of moves; the words after no move; after one move more, which is permitted as it
-- was at the start; the header's part by itself; after the same moves in another order the same words; which outputs have the same target. Assumes nothing.
use Rattle.std.specs.Prelude.{◌≡◌, refl, ◌↔◌, ◌≢◌, Bool, ◌&&◌, T, eqb, length, replicate}
use Rattle.std.proofs.Math.Path.{ap, sym, fun_ext}
use Rattle.std.proofs.Common.{ap₂, ◌∙◌, arith, eq-eqb, ne_eqb, length-append}
use mathlib.Core.List.{List, [], ◌∷◌, ◌++◌, flat_map, append-nil, append_assoc}
use Prim.Native.Nat.{ℕ, suc, ◌+◌, ◌-◌, ◌<◌, ◌≤◌}
use native.Mathlib.Nat.{add-zero}
use Rattle.std.proofs.Math.Decide.{ℕ_discrete}
use Rattle.std.proofs.Math.ListN.{drop}
use Rattle.std.proofs.lemmas.List.{length-replicate, drop-append-le}
use Rattle.base.specs.Sums.{sum_of}
use Rattle.base.proofs.Sums.{sum_of-append, sum_of-one, sum_of-drop}
use Rattle.base.proofs.Joins.{flat_append, length-flat}
use Rattle.base.specs.Rearrangement.{one_if, count, Rearranged}
use Rattle.base.proofs.Rearrangement.{count_same, count-other, count_map, count-flat, rearranged-few, rearranged-sum, rearranged-length, rearranged-map, rearranged-flat}
use Rattle.base.specs.Different.{all_different}
use Rattle.base.proofs.Different.{different-exactly, different-front, different-behind, different-rearranged}
use Rattle.network.specs.declared.NamedMove.{NamedMove}
use Rattle.network.specs.Sizes.{Shape, size, nodes, queues, directions, direction_of, dimension_of}
use Rattle.network.specs.Packet.{hop}
use Rattle.network.specs.Torus.{along, neighbour}
use Rattle.network.specs.TorusLaws.{Torus}
use Rattle.network.proofs.TorusLaws.{size-pos, along-add, along-round}
use Rattle.network.specs.Layout.{shape, held, load, taken, delivered, moves_made}
use Rattle.network.specs.CheckLaws.{Network}
use Rattle.network.specs.SameWords.{OtherQueue, SameHeader}
use Rattle.network.proofs.SameWords.{network-stored, same-words, same-header}
use Rattle.network.specs.Routes.{deliver, target}
use Rattle.network.proofs.RoutesLaws.{free-load-fewer}
use Rattle.network.specs.Refusals.{head}
use Rattle.network.specs.RefusalLaws.{Permitted}
use Rattle.network.specs.AfterLaws.{hopped, deliveries, NotTarget, MoveMade, Role, is-source, is-target, is-neither}
use Rattle.network.proofs.AfterLaws.{kept_then, ahead, role}
use Rattle.network.specs.Together.{Place, queue_at, same_place?, source, targets, sources, all_targets, queues_differ, sources_differ, targets_differ, Apart, output_named, outputs_differ, same_move?, brought, newcomers, held_after, deliveries_among, HeaderAfter}
use Rattle.network.specs.TogetherLaws.{AfterAll, same_pair?}

-- How often a queue is a source or a target -----------------------------------------------------------------------------------------------

-- of moves and further moves
pub sources-append : (p : Place) (ms ns : List NamedMove)
    → count same_place? p (sources (ms ++ ns)) ≡ count same_place? p (sources ms) + count same_place? p (sources ns)
sources-append p ms ns =
    let a = count_map same_place? source p (ms ++ ns) in
    let b = count_map same_place? source p ms in
    let c = count_map same_place? source p ns in
    let d = sum_of-append (λ (m : NamedMove). one_if (same_place? p (source m))) ms ns in
    omega arith

pub targets-append : (S : Shape) (p : Place) (ms ns : List NamedMove)
    → count same_place? p (all_targets S (ms ++ ns)) ≡ count same_place? p (all_targets S ms) + count same_place? p (all_targets S ns)
targets-append S p ms ns =
    let a = count-flat same_place? (targets S) p (ms ++ ns) in
    let b = count-flat same_place? (targets S) p ms in
    let c = count-flat same_place? (targets S) p ns in
    let d = sum_of-append (λ (m : NamedMove). count same_place? p (targets S m)) ms ns in
    omega arith

-- two queues are the same by their node and their number
queue-same : (n q m r : ℕ) → queue_at m r ≡ queue_at n q → (n ≡ m) × (q ≡ r)
queue-same n q m r e = let a : n ≡ m = cc in let b : q ≡ r = cc in (a, b)

queue-one : (n q : ℕ) → count same_place? (queue_at n q) (queue_at n q ∷ []) ≡ 1
unfolding count
queue-one n q = count_same same_place? (queue_at n q) (queue_at n q) [] refl

queue-none : (n q m r : ℕ) → OtherQueue n q m r → count same_place? (queue_at m r) (queue_at n q ∷ []) ≡ 0
unfolding count
queue-none n q m r ne = count-other same_place? (queue_at m r) (queue_at n q) [] (λ e. ne (queue-same n q m r e))

-- the source of one move, and its targets
targets-none : (S : Shape) (m : NamedMove) → m.output ≡ deliver → targets S m ≡ []
unfolding targets
targets-none S m e = rw (eq-eqb m.output deliver e)

targets-one : (S : Shape) (m : NamedMove) → m.output ≢ deliver → targets S m ≡ queue_at (target S m.node m.output) m.output ∷ []
unfolding targets
targets-one S m away = rw (ne_eqb m.output deliver away)

source-here : (m : NamedMove) → count same_place? (queue_at m.node m.queue) (source m ∷ []) ≡ 1
unfolding source
source-here m = queue-one m.node m.queue

source-elsewhere : (m : NamedMove) (a r : ℕ) → OtherQueue m.node m.queue a r → count same_place? (queue_at a r) (source m ∷ []) ≡ 0
unfolding source
source-elsewhere m a r ne = queue-none m.node m.queue a r ne

target-here : (S : Shape) (m : NamedMove) → m.output ≢ deliver → count same_place? (queue_at (target S m.node m.output) m.output) (targets S m) ≡ 1
target-here S m away = rw (targets-one S m away) (queue-one (target S m.node m.output) m.output)

target-elsewhere : (S : Shape) (m : NamedMove) (a r : ℕ) → NotTarget S m.node m.output a r → count same_place? (queue_at a r) (targets S m) ≡ 0
unfolding count
target-elsewhere S m a r ne = go (ℕ_discrete m.output deliver)
  where
    go : Dec (m.output ≡ deliver) → count same_place? (queue_at a r) (targets S m) ≡ 0
    go (yes e) = rw (targets-none S m e)
    go (no away) = rw (targets-one S m away) (queue-none (target S m.node m.output) m.output a r (ne away))

-- as many newcomers come to a place as moves have it as a target
pub newcomers-length : (S : Shape) (w : List ℕ) (ms : List NamedMove) (p : Place) → length (newcomers S w ms p) ≡ count same_place? p (all_targets S ms)
unfolding newcomers
newcomers-length S w ms p =
    length-flat (brought S w p) ms
    ∙ ap (λ (f : NamedMove → ℕ). sum_of f ms) (fun_ext (λ m. length-replicate (count same_place? p (targets S m)) (hopped S w m.node m.queue m.output)))
    ∙ sym (count-flat same_place? (targets S) p ms)

no-newcomers : (S : Shape) (w : List ℕ) (ms : List NamedMove) (p : Place) → count same_place? p (all_targets S ms) ≡ 0 → newcomers S w ms p ≡ []
no-newcomers S w ms p z = none (newcomers S w ms p) (newcomers-length S w ms p ∙ z)
  where
    none : (ps : List ℕ) → length ps ≡ 0 → ps ≡ []
    none [] e = refl
    none (x ∷ ps) e = absurd (let l : suc (length ps) ≡ 0 = e in omega arith)

-- R603, R604: moves whose queues are all different are apart
pub differ-apart : (S : Shape) (ms : List NamedMove) → T (queues_differ S ms) → Apart S ms
unfolding queues_differ sources_differ targets_differ
differ-apart S ms t =
    record {
      from = different-front same_place? (sources ms) (all_targets S ms) t;
      to = different-behind same_place? (sources ms) (all_targets S ms) t;
    }

-- no move
pub after_none : (S : Shape) (w : List ℕ) → Network S w → AfterAll S w [] w
unfolding held_after newcomers flat_map count deliveries_among sum_of
after_none S w N =
    record {
      queue = λ n q hn hq. sym (append-nil (held S w n q));
      header = record { same-accepted = refl; handed_out = sym (add-zero (delivered w)); moves-made = sym (add-zero (moves_made w)) };
      kept = record { same_shape = refl; same_length = refl; rest = refl; stored = network-stored S w N };
    }

-- a queue after one move more
held-one-more : (S : Shape) (w : List ℕ) (done : List NamedMove) (m : NamedMove) (a r : ℕ)
    → held_after S w (done ++ (m ∷ [])) a r
    ≡ drop (count same_place? (queue_at a r) (sources done) + count same_place? (queue_at a r) (source m ∷ [])) (held S w a r)
    ++ (newcomers S w done (queue_at a r) ++ brought S w (queue_at a r) m)
unfolding held_after newcomers flat_map
held-one-more S w done m a r =
    ap₂ (λ (k : ℕ) (l : List ℕ). drop k (held S w a r) ++ l)
    (sources-append (queue_at a r) done (m ∷ []))
    (flat_append (brought S w (queue_at a r)) done (m ∷ [])
    ∙ ap (λ (l : List ℕ). flat_map (brought S w (queue_at a r)) done ++ l) (append-nil (brought S w (queue_at a r) m)))

-- by what it is to the move: its source, its target, neither
at_source : (ps new : List ℕ) (k c t h : ℕ) → k ≡ 0 → c ≡ 1 → t ≡ 0 → length ps ≢ 0 → drop 1 (drop k ps ++ new) ≡ drop (k + c) ps ++ (new ++ replicate t h)
at_source ps new k c t h ek ec et some =
    rw (ek, ec, et) (drop-append-le 1 ps new (omega arith) ∙ ap (λ (l : List ℕ). drop 1 ps ++ l) (sym (append-nil new)))

at_target : (ps new : List ℕ) (k c t h : ℕ) → c ≡ 0 → t ≡ 1 → drop k ps ++ new ++ (h ∷ []) ≡ drop (k + c) ps ++ (new ++ replicate t h)
at_target ps new k c t h ec et = rw (ec, et, add-zero) (append_assoc (drop k ps) new (h ∷ []))

at-neither : (ps new : List ℕ) (k c t h : ℕ) → c ≡ 0 → t ≡ 0 → drop k ps ++ new ≡ drop (k + c) ps ++ (new ++ replicate t h)
at-neither ps new k c t h ec et = rw (ec, et, add-zero) (ap (λ (l : List ℕ). drop k ps ++ l) (sym (append-nil new)))

-- the head stays the head, whoever joins behind it
same_first : (ps new : List ℕ) → length ps ≢ 0 → head (ps ++ new) ≡ head ps
unfolding head
same_first [] new ne = absurd (ne refl)
same_first (p ∷ ps) new ne = refl

-- R613, the header's part: it counts the moves and the deliveries among them
header-one-more : (S : Shape) (w v u : List ℕ) (done : List NamedMove) (m : NamedMove) → HeaderAfter w done v → MoveMade S v u m.node m.queue m.output
    → HeaderAfter w (done ++ (m ∷ [])) u
unfolding deliveries_among
header-one-more S w v u done m A M =
    let a = A.same-accepted in
    let b = A.handed_out in
    let c = A.moves-made in
    let x = M.same-accepted in
    let y = M.handed_out in
    let z = M.one-move in
    let d = sum_of-append (λ (k : NamedMove). deliveries k.output) done (m ∷ []) in
    let e = sum_of-one (λ (k : NamedMove). deliveries k.output) m in
    let l = length-append done (m ∷ []) in
    record { same-accepted = omega arith; handed_out = omega arith; moves-made = omega arith }

-- a move permitted in w, whose source none of the moves done has and whose targets none of them has
module _ (S : Shape) (w v : List ℕ) (done : List NamedMove) (m : NamedMove) (tor : Torus S) (N : Network S w) (A : AfterAll S w done v)
    (P : Permitted S w m.node m.queue m.output) (fresh : count same_place? (source m) (sources done) ≡ 0)
    (free : (p : Place) → count same_place? p (targets S m) + count same_place? p (all_targets S done) ≤ 1) where
  abbrev n : ℕ
  n = m.node

  abbrev q : ℕ
  q = m.queue

  abbrev o : ℕ
  o = m.output

  -- its queue has only grown, so the head is the same
  no_source : count same_place? (queue_at n q) (sources done) ≡ 0
  unfolding source
  no_source = fresh

  source-held : held S v n q ≡ held S w n q ++ newcomers S w done (queue_at n q)
  unfolding held_after
  source-held = A.queue n q P.node P.queue ∙ ap (λ (k : ℕ). drop k (held S w n q) ++ newcomers S w done (queue_at n q)) no_source

  pub same_head : head (held S v n q) ≡ head (held S w n q)
  same_head = ap head source-held ∙ same_first (held S w n q) (newcomers S w done (queue_at n q)) P.holds

  -- its target has only shrunk
  target-less : o ≢ deliver → taken S v (target S n o) o ≤ taken S w (target S n o) o
  unfolding taken held_after
  target-less away =
      let t : ℕ = target S n o in
      let one = target-here S m away in
      let most = free (queue_at t o) in
      let none : newcomers S w done (queue_at t o) ≡ [] = no-newcomers S w done (queue_at t o) (omega arith) in
      let k : ℕ = count same_place? (queue_at t o) (sources done) in
      let e : held S v t o ≡ drop k (held S w t o) =
      A.queue t o (ahead S w n q o tor N P away).node P.output
      ∙ ap (λ (l : List ℕ). drop k (held S w t o) ++ l) none
      ∙ append-nil (drop k (held S w t o)) in
      rw e (sum_of-drop (load o) k (held S w t o))

  -- so the move is permitted
  pub still-permitted : Permitted S v n q o
  still-permitted =
      record {
        node = P.node;
        queue = P.queue;
        output = P.output;
        holds = λ z. P.holds (let l = ap length source-held in let a = length-append (held S w n q) (newcomers S w done (queue_at n q)) in omega arith);
        route = rw same_head P.route;
        room = λ away. rw same_head (native.Mathlib.Nat.le_trans (P.room away) (free-load-fewer S v w n o (target-less away)));
      }

  -- and once it is made
  pub after-one-more : (u : List ℕ) → MoveMade S v u n q o → AfterAll S w (done ++ (m ∷ [])) u
  unfolding held_after
  after-one-more u M =
      record {
        queue = λ a r ha hr. by a r ha hr (role S n q o a r) ∙ sym (held-one-more S w done m a r);
        header = header-one-more S w v u done m A.header M;
        kept = kept_then A.kept M.kept;
      }
    where
      h : ℕ
      h = hopped S w n q o

      rest : (a r : ℕ) → List ℕ
      rest a r = newcomers S w done (queue_at a r)

      left : (a r : ℕ) → ℕ
      left a r = count same_place? (queue_at a r) (sources done)

      leaves : (a r : ℕ) → ℕ
      leaves a r = count same_place? (queue_at a r) (source m ∷ [])

      comes : (a r : ℕ) → ℕ
      comes a r = count same_place? (queue_at a r) (targets S m)

      by : (a r : ℕ) → a < nodes S → r < queues → Role S n q o a r
          → held S u a r ≡ drop (left a r + leaves a r) (held S w a r) ++ (rest a r ++ replicate (comes a r) h)
      by a r ha hr (is-source e) =
          rw (← e.0, ← e.1)
          (M.source
          ∙ ap (drop 1) (A.queue n q P.node P.queue)
          ∙ at_source (held S w n q) (rest n q) (left n q) (leaves n q) (comes n q) h no_source (source-here m)
          (target-elsewhere S m n q (λ away e'. M.apart away e'.0)) P.holds)
      by a r ha hr (is-target away e) =
          let t : ℕ = target S n o in
          rw (← e.0, ← e.1)
          (M.arrival away
          ∙ ap₂ (λ (l : List ℕ) (p : ℕ). l ++ (hop (dimension_of (direction_of o)) p ∷ []))
          (A.queue t o (ahead S w n q o tor N P away).node P.output)
          same_head
          ∙ at_target (held S w t o) (rest t o) (left t o) (leaves t o) (comes t o) h
          (source-elsewhere m t o (λ e'. M.apart away (sym e'.0))) (target-here S m away))
      by a r ha hr (is-neither ne ne') =
          M.others a r ha hr ne ne'
          ∙ A.queue a r ha hr
          ∙ at-neither (held S w a r) (rest a r) (left a r) (leaves a r) (comes a r) h (source-elsewhere m a r ne) (target-elsewhere S m a r ne')

-- The same moves in another order ---------------------------------------------------------------------------------------------------------

-- R604: moves apart, in another order
pub apart-rearranged : (S : Shape) (ms ns : List NamedMove) → Rearranged same_move? ms ns → Apart S ms → Apart S ns
unfolding sources_differ targets_differ
apart-rearranged S ms ns r d =
    record {
      from = different-rearranged same_place? (sources ms) (sources ns) (rearranged-map same_move? same_place? source ms ns r) d.from;
      to = different-rearranged same_place? (all_targets S ms) (all_targets S ns) (rearranged-flat same_move? same_place? (targets S) ms ns r) d.to;
    }

-- R612: no order is left in what a queue holds
held-rearranged : (S : Shape) (w : List ℕ) (ms ns : List NamedMove) (n q : ℕ) → Rearranged same_move? ms ns → T (targets_differ S ms)
    → held_after S w ms n q ≡ held_after S w ns n q
unfolding held_after newcomers targets_differ Rearranged
held-rearranged S w ms ns n q r t =
    ap₂ (λ (k : ℕ) (l : List ℕ). drop k (held S w n q) ++ l)
    (rearranged-map same_move? same_place? source ms ns r (queue_at n q))
    (rearranged-few ℕ_discrete (newcomers S w ms (queue_at n q)) (newcomers S w ns (queue_at n q)) few
    (rearranged-flat same_move? ℕ_discrete (brought S w (queue_at n q)) ms ns r))
  where
    few : length (newcomers S w ms (queue_at n q)) ≤ 1
    few = rw (newcomers-length S w ms (queue_at n q)) ((different-exactly same_place? (all_targets S ms)).0 t (queue_at n q))

-- R613: nor in the header
same-counters : (w v u : List ℕ) (ms ns : List NamedMove) → Rearranged same_move? ms ns → HeaderAfter w ms v → HeaderAfter w ns u → shape v ≡ shape u
    → SameHeader v u
unfolding deliveries_among
same-counters w v u ms ns r a b s =
    let l = rearranged-length same_move? ms ns r in
    let d = rearranged-sum same_move? (λ (m : NamedMove). deliveries m.output) ms ns r in
    let a₁ = a.same-accepted in
    let b₁ = b.same-accepted in
    let a₂ = a.handed_out in
    let b₂ = b.handed_out in
    let a₃ = a.moves-made in
    let b₃ = b.moves-made in
    same-header v u s (omega arith) (omega arith) (omega arith)

-- R607: so the words are the same
pub same_end : (S : Shape) (w v u : List ℕ) (ms ns : List NamedMove) → Rearranged same_move? ms ns → Apart S ms → AfterAll S w ms v → AfterAll S w ns u → v ≡ u
same_end S w v u ms ns r d A B =
    same-words S v u A.kept.stored B.kept.stored
    (same-counters w v u ms ns r A.header B.header (A.kept.same_shape ∙ sym B.kept.same_shape))
    (λ n q hn hq. A.queue n q hn hq ∙ held-rearranged S w ms ns n q r d.to ∙ sym (B.queue n q hn hq))
    (A.kept.rest ∙ sym B.kept.rest)

-- Which outputs have the same target ------------------------------------------------------------------------------------------------------

-- whoever goes one hop, and on round the ring to its end, is where he was
neighbour-back : (S : Shape) (d n : ℕ) → Torus S → d < directions → along S d (size S (dimension_of d) - 1) (neighbour S d n) ≡ n
unfolding neighbour
neighbour-back S d n tor h =
    let l : 0 < size S (dimension_of d) = size-pos S (dimension_of d) tor (omega arith) in
    let e : 1 + (size S (dimension_of d) - 1) ≡ size S (dimension_of d) = omega arith in
    along-add S d (size S (dimension_of d) - 1) 1 n tor h ∙ ap (λ (c : ℕ). along S d c n) e ∙ along-round S d n tor h

-- so two outputs lead to the same queue exactly if they are the same output of the same node
target-same : (S : Shape) (n o m r : ℕ) → Torus S → queue_at (target S n o) o ≡ queue_at (target S m r) r → (n ≡ m) × (o ≡ r)
unfolding target
target-same S n o m r tor e =
    let f : o ≡ r = cc in
    let t : neighbour S (direction_of o) n ≡ neighbour S (direction_of r) m = cc in
    let t' : neighbour S (direction_of r) n ≡ neighbour S (direction_of r) m = rw f at t in
    let d : ℕ = direction_of r in (
      sym (neighbour-back S d n tor (omega arith)) ∙ ap (along S d (size S (dimension_of d) - 1)) t' ∙ neighbour-back S d m tor (omega arith),
      f,
    )

-- R614: of moves by outputs above 0
pub same_target : (S : Shape) (a b : NamedMove) → Torus S → a.output ≢ deliver → b.output ≢ deliver
    → (targets S a ≡ targets S b) ↔ ((a.node ≡ b.node) × (a.output ≡ b.output))
same_target S a b tor x y = (
  (λ e. of (sym (targets-one S a x) ∙ e ∙ targets-one S b y)),
  (λ e. targets-one S a x ∙ ap₂ (λ (n o : ℕ). queue_at (target S n o) o ∷ []) e.0 e.1 ∙ sym (targets-one S b y)),
)
  where
    here : NamedMove → Place
    here m = queue_at (target S m.node m.output) m.output

    of : ◌≡◌ {A = List Place} (here a ∷ []) (here b ∷ []) → (a.node ≡ b.node) × (a.output ≡ b.output)
    of e = target-same S a.node a.output b.node b.output tor (let f : here a ≡ here b = cc in f)

named_none : (m : NamedMove) → m.output ≡ deliver → output_named m ≡ []
unfolding output_named
named_none m e = rw (eq-eqb m.output deliver e)

named-one : (m : NamedMove) → m.output ≢ deliver → output_named m ≡ (m.node, m.output) ∷ []
unfolding output_named
named-one m away = rw (ne_eqb m.output deliver away)

-- as often as an output is named, its target is one
named-once : (S : Shape) (n o : ℕ) (m : NamedMove) → Torus S
    → o ≢ deliver → count same_place? (queue_at (target S n o) o) (targets S m) ≡ count same_pair? (n, o) (output_named m)
unfolding count
named-once S n o m tor x = go (ℕ_discrete m.output deliver)
  where
    there : Place
    there = queue_at (target S m.node m.output) m.output

    one : Dec (◌≡◌ {A = ℕ × ℕ} (n, o) (m.node, m.output))
        → count same_place? (queue_at (target S n o) o) (there ∷ []) ≡ count same_pair? (n, o) ((m.node, m.output) ∷ [])
    one (yes e) =
        count_same same_place? (queue_at (target S n o) o) there [] (ap (λ (x : ℕ × ℕ). queue_at (target S x.0 x.1) x.1) e)
        ∙ sym (count_same same_pair? (n, o) (m.node, m.output) [] e)
    one (no ne) =
        count-other same_place? (queue_at (target S n o) o) there []
        (λ e. let f = target-same S n o m.node m.output tor e in ne (λ i. (f.0 i, f.1 i)))
        ∙ sym (count-other same_pair? (n, o) (m.node, m.output) [] ne)

    go : Dec (m.output ≡ deliver) → count same_place? (queue_at (target S n o) o) (targets S m) ≡ count same_pair? (n, o) (output_named m)
    go (yes e) = rw (targets-none S m e, named_none m e)
    go (no away) = rw (targets-one S m away, named-one m away) (one (same_pair? (n, o) (m.node, m.output)))

named-often : (S : Shape) (n o : ℕ) (ms : List NamedMove) → Torus S → o ≢ deliver
    → count same_place? (queue_at (target S n o) o) (all_targets S ms) ≡ count same_pair? (n, o) (flat_map output_named ms)
named-often S n o ms tor x =
    count-flat same_place? (targets S) (queue_at (target S n o) o) ms
    ∙ ap (λ (f : NamedMove → ℕ). sum_of f ms) (fun_ext (λ m. named-once S n o m tor x))
    ∙ sym (count-flat same_pair? output_named (n, o) ms)

-- R614: no two outputs named are the same exactly if no two targets are
pub outputs-differ : (S : Shape) (ms : List NamedMove) → Torus S → targets_differ S ms ≡ outputs_differ ms
unfolding targets_differ outputs_differ flat_map all_different
outputs-differ S [] tor = refl
outputs-differ S (m ∷ ms) tor = go (ℕ_discrete m.output deliver) (outputs-differ S ms tor)
  where
    go : Dec (m.output ≡ deliver) → all_different same_place? (all_targets S ms) ≡ all_different same_pair? (flat_map output_named ms)
        → all_different same_place? (targets S m ++ all_targets S ms) ≡ all_different same_pair? (output_named m ++ flat_map output_named ms)
    go (yes e) later = rw (targets-none S m e, named_none m e) later
    go (no away) later =
        rw (targets-one S m away, named-one m away)
        (ap₂ (λ (k : ℕ) (b : Bool). eqb k 0 && b) (named-often S m.node m.output ms tor away) later)
