-- Words that Make and Offer lead to pass the check, so the check shuts out nothing that the calls make, and demand 3 speaks of every run from
-- there. Order: words that hold nothing; Make; the packet of an offer in the injection queue; Offer; that its packet has a hop to make. Assumes
-- nothing.
use Rattle.std.specs.Prelude.{◌≡◌, ◌≢◌, T, ltb, drop}
use Rattle.std.proofs.Math.Path.{refl, ap, sym}
use Rattle.std.proofs.Common.{subst, ◌∙◌, eq-eqb, ne_eqb, ltb-false, length-drop, ext_get_or}
use mathlib.Core.Bool.{Bool, true, false, not}
use mathlib.Core.List.{List, [], ◌∷◌, ◌++◌}
use Prim.Native.Nat.{ℕ, suc, ◌+◌, ◌*◌, ◌-◌, ◌<◌, ◌≤◌}
use Rattle.std.proofs.Math.Decide.{ℕ_discrete}
use native.Mathlib.Omega.{arith}
use Rattle.std.proofs.Math.ListN.{length, get_or, replicate, length-append, length-replicate, get_or-replicate, get_or-append}
use Rattle.std.proofs.Math.Seq.{get_or-append-add}
use Rattle.base.specs.Tests.{all_of}
use Rattle.base.specs.Sums.{sum_of, sum_below}
use Rattle.base.proofs.Sums.{sum-zero, sum_of-append, sum_of-one}
use Rattle.base.specs.Parts.{span}
use Rattle.base.proofs.Parts.{length-span, get_or-span}
use Rattle.network.specs.declared.Sizes.{Sizes}
use Rattle.network.specs.Sizes.{Shape, shape_of, sized, size, sizes_in_range, nodes, queues, directions, dimensions, injection_queue, escape_queue, capacity, most_chunks}
use Rattle.network.proofs.SizesLaws.{range-of, capacity-pos}
use Rattle.network.specs.Packet.{destination_values, spare_field, destination_field, upper_spare_field, destination, spare, upper_spare, hops_left, work}
use Rattle.network.specs.Torus.{along}
use Rattle.network.specs.TorusLaws.{Torus}
use Rattle.network.proofs.TorusLaws.{in_range-torus, in_range-size, in_range-nodes, along-lt}
use Rattle.network.specs.Layout.{header_words, shape, need, node_words, queue_start, queue_end, queue_words, queue_part, packets_of, held, taken, total, accepted, delivered, moves_made}
use Rattle.network.proofs.LayoutLaws.{start-header, start-end, end-start, end-need, packets_of-queue_words, load_one, taken_none, taken-same, taken-joined, total-change}
use Rattle.network.specs.Check.{reach, is_queue_of, packet_fits, ring_has_room, packets_held, work_left, most_accepted, most_work}
use Rattle.network.specs.CheckLaws.{PacketFits, Network}
use Rattle.network.proofs.CheckLaws.{packet-by}
use Rattle.network.proofs.SameWords.{same?, queue-stored}
use Rattle.network.specs.Refusals.{network_refusal, make_refusal, offer_rules, offer_refusal}
use Rattle.network.proofs.RefusalLaws.{not-refused, neither, network-passed, network-passes, own-node-exactly}
use Rattle.network.specs.OfferLaws.{ShortRings}
use Rattle.network.proofs.OfferLaws.{field-offered, distance-offered, work-offered, moved_by-offered, hops-offered}
use Rattle.network.specs.Calls.{empty_header, empty_network, make_words, offered, after_offer, offer_words}
use Rattle.network.specs.AfterLaws.{OfferTaken}
use Rattle.network.specs.CallLaws.{Accepting}
use Rattle.network.proofs.CallLaws.{torus, accepting, few-chunks, accepted-taken, offer-call, empty-length}
use Rattle.run.specs.Queues.{fits_by, one, packets-sum, all_of-newest}
use Rattle.run.specs.Rings.{Room, RingRoom, ring_of, ring-by, escape-lt}

-- Words that hold nothing ---------------------------------------------------------------------------------------------------------------

-- a part whose words are all 0
span-zeros : (w : List ℕ) (a e : ℕ) → a ≤ e → e ≤ length w → ((i : ℕ) → a ≤ i → i < e → get_or w i 0 ≡ 0) → span w a e ≡ replicate (e - a) 0
span-zeros w a e h l zeros =
    ext_get_or 0 (span w a e) (replicate (e - a) 0) (length-span w a e h l ∙ sym (length-replicate (e - a) 0))
    (λ i b.
    let k : length (span w a e) ≡ e - a = length-span w a e h l in
    let c : i < e - a = omega arith in
    get_or-span w a e i c ∙ zeros (a + i) (omega arith) (omega arith) ∙ sym (get_or-replicate (e - a) i 0 0 c))

-- the counters and every word behind the header are 0
pub record Blank (S : Shape) (w : List ℕ) : Type 0 where
  pub in-range : T (sizes_in_range S)
  pub long : need S ≤ length w
  pub zeros : (i : ℕ) → header_words ≤ i → i < need S → get_or w i 0 ≡ 0
  pub none-accepted : accepted w ≡ 0
  pub none-delivered : delivered w ≡ 0
  pub no-moves : moves_made w ≡ 0

module _ (S : Shape) (w : List ℕ) (tor : Torus S) (B : Blank S w) where
  blank_part : (n q : ℕ) → n < nodes S → q < queues → queue_part S w n q ≡ queue_words (capacity S q) []
  unfolding queue_part queue_words
  blank_part n q hn hq =
      let s = start-header S n q in
      let d = end-need S n q hn hq in
      let l = B.long in
      let k : queue_end S n q - queue_start S n q ≡ suc (capacity S q - 0) = (let c = end-start S n q in omega arith) in
      span-zeros w (queue_start S n q) (queue_end S n q) (start-end S n q) (omega arith) (λ i a b. B.zeros i (omega arith) (omega arith))
      ∙ ap (λ (m : ℕ). replicate m 0) k

  blank-held : (n q : ℕ) → n < nodes S → q < queues → held S w n q ≡ []
  unfolding held
  blank-held n q hn hq = ap packets_of (blank_part n q hn hq) ∙ packets_of-queue_words (capacity S q) []

  blank-total : (f : List ℕ → ℕ) → f [] ≡ 0 → total S w f ≡ 0
  unfolding total
  blank-total f z =
      sum-zero (nodes S) (λ n. sum_below queues (λ q. f (held S w n q)))
      (λ n hn. sum-zero queues (λ q. f (held S w n q)) (λ q hq. ap f (blank-held n q hn hq) ∙ z))

  blank-light : (n q : ℕ) → n < nodes S → q < queues → taken S w n q ≤ capacity S q
  blank-light n q hn hq = let e = taken_none S w n q (ap length (blank-held n q hn hq)) in omega arith

  blank-ring : (d n : ℕ) → d < directions → n < nodes S → T (ring_has_room S w d n)
  unfolding Room
  blank-ring d n hd hn =
      let e : taken S w (along S d 0 n) (escape_queue d) ≡ 0 =
      taken_none S w (along S d 0 n) (escape_queue d) (ap length (blank-held (along S d 0 n) (escape_queue d) (along-lt S d 0 n tor hd hn) (escape-lt d hd))) in
      let c : 0 < capacity S (escape_queue d) = capacity-pos S (escape_queue d) (range-of S B.in-range) in
      ring-by S w d n 0 tor hd (omega arith)

  pub blank-network : Network S w
  unfolding packets_held work_left all_of sum_of
  blank-network =
      let a : accepted w ≡ 0 = B.none-accepted in
      let d : delivered w ≡ 0 = B.none-delivered in
      let m : moves_made w ≡ 0 = B.no-moves in
      let h : total S w length ≡ 0 = blank-total length refl in
      let k : total S w (sum_of work) ≡ 0 = blank-total (sum_of work) refl in
      record {
        in-range = B.in-range;
        long = B.long;
        queue = λ n q hn hq. fits_by S w n q (queue-stored S w n q [] (blank_part n q hn hq) (omega arith)) (blank-light n q hn hq) (rw (blank-held n q hn hq) tt);
        ring = blank-ring;
        few-accepted = omega arith;
        counted = omega arith;
        bounded = omega arith;
      }

-- Make ----------------------------------------------------------------------------------------------------------------------------------

-- what Make writes, with any words behind it
module _ (s : Sizes) (rest : List ℕ) where
  S : Shape
  S = shape_of s

  made : List ℕ
  made = empty_network S ++ rest

  blanks : List ℕ
  blanks = replicate (nodes S * node_words S) 0

  made-is : made ≡ empty_header S ++ (blanks ++ rest)
  unfolding made S blanks empty_header empty_network shape_of
  made-is = refl

  blanks-length : length blanks ≡ nodes S * node_words S
  unfolding blanks
  blanks-length = length-replicate (nodes S * node_words S) 0

  made-length : length made ≡ need S + length rest
  unfolding empty_header need S shape_of
  made-length =
      let l : length made ≡ header_words + (length blanks + length rest) =
      ap length made-is ∙ length-append (empty_header S) (blanks ++ rest) ∙ ap (λ (m : ℕ). header_words + m) (length-append blanks rest) in
      let r = blanks-length in
      omega arith

  made-long : need S ≤ length made
  made-long = let l = made-length in omega arith

  made-zeros : (i : ℕ) → header_words ≤ i → i < need S → get_or made i 0 ≡ 0
  unfolding empty_header blanks need S shape_of
  made-zeros i l b =
      let r : length blanks ≡ nodes S * node_words S = blanks-length in
      let at : i ≡ header_words + (i - header_words) = omega arith in
      ap (λ (m : ℕ). get_or made m 0) at
      ∙ ap (λ (w : List ℕ). get_or w (header_words + (i - header_words)) 0) made-is
      ∙ get_or-append-add (empty_header S) (blanks ++ rest) (i - header_words) 0
      ∙ get_or-append blanks rest 0 (i - header_words) (omega arith)
      ∙ get_or-replicate (nodes S * node_words S) (i - header_words) 0 0 (omega arith)

  made-blank : T (sizes_in_range S) → Blank S made
  unfolding made S empty_header empty_network shape_of accepted delivered moves_made
  made-blank t = record { in-range = t; long = made-long; zeros = made-zeros; none-accepted = refl; none-delivered = refl; no-moves = refl }

  made-shape : shape made ≡ S
  unfolding made S empty_header empty_network shape_of shape
  made-shape = refl

  made-passes : T (sizes_in_range (shape_of s)) → network_refusal (empty_network (shape_of s) ++ rest) ≡ 0
  unfolding made S shape_of
  made-passes t = network-passes made (subst (λ (R : Shape). Network R made) (sym made-shape) (blank-network S made (in_range-torus S t refl) (made-blank t)))

-- sizes of three dimensions are those along x, y and z
three : (ks : List ℕ) → length ks ≡ dimensions → ks ≡ get_or ks 0 0 ∷ get_or ks 1 0 ∷ get_or ks 2 0 ∷ []
three [] l = absurd (let n : 0 ≡ 3 = l in omega arith)
three (x ∷ []) l = absurd (let n : 1 ≡ 3 = l in omega arith)
three (x ∷ y ∷ []) l = absurd (let n : 2 ≡ 3 = l in omega arith)
three (x ∷ y ∷ z ∷ []) l = refl
three (x ∷ y ∷ z ∷ k ∷ ks) l = absurd (let n : suc (suc (suc (suc (length ks)))) ≡ 3 = l in omega arith)

sizes_of : Shape → Sizes
sizes_of S = sized (size S 0) (size S 1) (size S 2) S.escape S.adaptive S.injection

shape_is : (S : Shape) → length S.sizes ≡ dimensions → S ≡ shape_of (sizes_of S)
unfolding shape_of size sizes_of
shape_is S l = λ i. record { sizes = three S.sizes l i; escape = S.escape; adaptive = S.adaptive; injection = S.injection }

passed : (b : Bool) → not b ≡ false → T b
passed true e = tt
passed false e = absurd (mathlib.Core.Bool.true≢false e)

-- R91, R92: a Make that is not refused leaves words that pass the check
pub make-passes : (S : Shape) (w : List ℕ) → length S.sizes ≡ dimensions → make_refusal S w ≡ 0 → network_refusal (make_words S w) ≡ 0
unfolding make_words make_refusal
make-passes S w all-dimensions e =
    let (range, rest) = not-refused (not (sizes_in_range S)) 1 _ e in
    let whole : S ≡ shape_of (sizes_of S) = shape_is S all-dimensions in
    rw (eq-eqb (make_refusal S w) 0 e)
    (subst (λ (R : Shape). network_refusal (empty_network R ++ drop (need S) w) ≡ 0) (sym whole)
    (made-passes (sizes_of S) (drop (need S) w)
    (subst (λ (R : Shape). T (sizes_in_range R)) whole (passed (sizes_in_range S) range))))

-- the store is as long as it was
pub make-length : (S : Shape) (w : List ℕ) → length S.sizes ≡ dimensions → make_refusal S w ≡ 0 → length (make_words S w) ≡ length w
unfolding make_words make_refusal
make-length S w all-dimensions e =
    let (range, rest) = not-refused (not (sizes_in_range S)) 1 _ e in
    let (short, none) = not-refused (ltb (length w) (need S)) 0 _ rest in
    let long : need S ≤ length w = ltb-false (length w) (need S) short in
    let l : length (empty_network S ++ drop (need S) w) ≡ length (empty_network S) + length (drop (need S) w) = length-append (empty_network S) (drop (need S) w) in
    let n : length (empty_network S) ≡ need S = empty-length S all-dimensions in
    let d = length-drop (need S) w in
    rw (eq-eqb (make_refusal S w) 0 e) (omega arith)

-- The packet of an offer ----------------------------------------------------------------------------------------------------------------

module _ (S : Shape) (w v : List ℕ) (n dest tag chunks : ℕ) (tor : Torus S) (N : Network S w) (hn : n < nodes S) (hd : dest < nodes S)
    (few : chunks ≤ most_chunks) (fewer : accepted w < most_accepted) (room : taken S w n injection_queue < capacity S injection_queue) (O : OfferTaken S w v n (offered S n dest tag chunks)) where
  abbrev p : ℕ
  p = offered S n dest tag chunks

  few-nodes : nodes S ≤ destination_values
  few-nodes = in_range-nodes S N.in-range tor.dims

  small : ShortRings S
  small i h = in_range-size S i N.in-range

  offered-fits : PacketFits S n injection_queue p
  unfolding reach is_queue_of spare upper_spare destination
  offered-fits =
      let there : destination p ≡ dest = field-offered S n dest tag chunks tor hn hd few-nodes few small destination_field (omega arith) in
      record {
        clear = field-offered S n dest tag chunks tor hn hd few-nodes few small spare_field (omega arith);
        upper-clear = field-offered S n dest tag chunks tor hn hd few-nodes few small upper_spare_field (omega arith);
        addressed = rw there hd;
        arrives = moved_by-offered S n dest tag chunks tor hn hd few-nodes few small ∙ sym there;
        near = λ i h. distance-offered S n dest tag chunks tor hn hd few-nodes few small i h;
        sign = λ ne. absurd (ne refl);
        lower = λ t. absurd t;
      }

  -- Offer ------------------------------------------------------------------------------------------------------------------------------

  packets-fit : (m r : ℕ) → m < nodes S → r < queues → Dec ((n ≡ m) × (injection_queue ≡ r)) → T (all_of (packet_fits S m r) (held S v m r))
  packets-fit m r hm hr (yes e) =
      rw (← e.0, ← e.1, O.newest)
      (all_of-newest (packet_fits S n injection_queue) (held S w n injection_queue) p (N.queue n injection_queue hn (omega arith)).packets (packet-by S n injection_queue p offered-fits))
  packets-fit m r hm hr (no ne) = rw (O.others m r hm hr ne) (N.queue m r hm hr).packets

  -- the injection queue has a slot for it, whatever its chunks
  offer-light : (m r : ℕ) → m < nodes S → r < queues → Dec ((n ≡ m) × (injection_queue ≡ r)) → taken S v m r ≤ capacity S r
  offer-light m r hm hr (yes e) =
      let a = taken-joined S w v n injection_queue p O.newest in
      let b = load_one injection_queue p refl in
      let c : taken S v n injection_queue ≤ capacity S injection_queue = omega arith in
      rw (← e.0, ← e.1) c
  offer-light m r hm hr (no ne) = rw (taken-same S w v m r (O.others m r hm hr ne)) (N.queue m r hm hr).light

  -- the escape queues hold what they held
  offer-ring : (d m : ℕ) → d < directions → m < nodes S → T (ring_has_room S v d m)
  unfolding Room
  offer-ring d m hd' hm =
      let r : RingRoom S w d m = ring_of S w d m (N.ring d m hd' hm) in
      let same : held S v (along S d r.steps m) (escape_queue d) ≡ held S w (along S d r.steps m) (escape_queue d) =
      O.others (along S d r.steps m) (escape_queue d) (along-lt S d r.steps m tor hd' hm) (escape-lt d hd') (λ e. transit d e.1) in
      ring-by S v d m r.steps tor hd' (rw (taken-same S w v (along S d r.steps m) (escape_queue d) same) r.room)
    where
      transit : (d : ℕ) → injection_queue ≡ escape_queue d → ⊥
      transit d z = omega arith

  -- the sums grow by the packet
  offer-sum : (g : ℕ → ℕ) → total S v (sum_of g) ≡ total S w (sum_of g) + g p
  offer-sum g =
      let a : total S v (sum_of g) + sum_of g (held S w n injection_queue) ≡ total S w (sum_of g) + sum_of g (held S v n injection_queue) =
      total-change S w v n injection_queue (sum_of g) hn (omega arith) O.others in
      let b : sum_of g (held S v n injection_queue) ≡ sum_of g (held S w n injection_queue) + sum_of g (p ∷ []) =
      ap (sum_of g) O.newest ∙ sum_of-append g (held S w n injection_queue) (p ∷ []) in
      let c : sum_of g (p ∷ []) ≡ g p = sum_of-one g p in
      omega arith

  taken-network : Network S v
  unfolding work_left
  taken-network =
      let x : accepted v ≡ accepted w + 1 = O.one-accepted in
      let y : delivered v ≡ delivered w = O.same-delivered in
      let z : moves_made v ≡ moves_made w = O.same-moves in
      let h : packets_held S v ≡ packets_held S w + 1 = packets-sum S v ∙ offer-sum one ∙ ap (λ (k : ℕ). k + 1) (sym (packets-sum S w)) in
      let k : total S v (sum_of work) ≡ total S w (sum_of work) + work p = offer-sum work in
      let most : work p ≤ most_work = work-offered S n dest tag chunks tor hn hd few-nodes few small in
      let c : delivered w + packets_held S w ≡ accepted w = N.counted in
      let b : moves_made w + total S w (sum_of work) ≤ most_work * accepted w = N.bounded in
      record {
        in-range = N.in-range;
        long = O.kept.stored.long;
        queue =
            λ m r hm hr.
            fits_by S v m r (O.kept.stored.queue m r hm hr) (offer-light m r hm hr (same? n injection_queue m r)) (packets-fit m r hm hr (same? n injection_queue m r));
        ring = offer-ring;
        few-accepted = omega arith;
        counted = omega arith;
        bounded = omega arith;
      }

-- R86: words that such a packet has joined pass the check, one for the very node where it stands too, which no Offer takes any more (R174)
pub joined-passes : (w : List ℕ) (n dest tag chunks : ℕ) → network_refusal w ≡ 0 → Accepting (shape w) w n dest chunks
    → network_refusal (after_offer (shape w) w n dest tag chunks) ≡ 0
joined-passes w n dest tag chunks e A =
    let N : Network (shape w) w = network-passed w e in
    let v : List ℕ = after_offer (shape w) w n dest tag chunks in
    let O : OfferTaken (shape w) w v n (offered (shape w) n dest tag chunks) = accepted-taken (shape w) w n dest tag chunks N A in
    let M : Network (shape w) v = taken-network (shape w) w v n dest tag chunks (torus w N) N A.node A.addressed (few-chunks A) A.fewer A.free O in
    network-passes v (subst (λ (S : Shape). Network S v) (sym O.kept.same_shape) M)

-- R101, R102: an offer that is not refused keeps the check
pub offer-passes : (w : List ℕ) (n dest tag chunks : ℕ) → offer_refusal w n dest chunks ≡ 0 → network_refusal (offer_words w n dest tag chunks) ≡ 0
unfolding offer_words offer_refusal
offer-passes w n dest tag chunks e =
    let (network, rules) = neither (network_refusal w) (offer_rules (shape w) w n dest chunks) e in
    let A : Accepting (shape w) w n dest chunks = accepting (shape w) w n dest chunks (network-passed w network) rules in
    rw (eq-eqb (offer_refusal w n dest chunks) 0 e) (joined-passes w n dest tag chunks network A)

-- and leaves the store as long as it was
pub offer-length : (w : List ℕ) (n dest tag chunks : ℕ) → offer_refusal w n dest chunks ≡ 0 → length (offer_words w n dest tag chunks) ≡ length w
offer-length w n dest tag chunks e = (offer-call w n dest tag chunks e).kept.same_length

-- refused or not, an offer leaves a network where there was one, and makes no move
pub offer-network : (w : List ℕ) (n dest tag chunks : ℕ) → network_refusal w ≡ 0 → network_refusal (offer_words w n dest tag chunks) ≡ 0
unfolding offer_words
offer-network w n dest tag chunks z = go (ℕ_discrete (offer_refusal w n dest chunks) 0)
  where
    go : Dec (offer_refusal w n dest chunks ≡ 0) → network_refusal (offer_words w n dest tag chunks) ≡ 0
    go (yes e) = offer-passes w n dest tag chunks e
    go (no ne) = rw (ne_eqb (offer_refusal w n dest chunks) 0 ne) z

pub offer-moves : (w : List ℕ) (n dest tag chunks : ℕ) → moves_made (offer_words w n dest tag chunks) ≡ moves_made w
unfolding offer_words
offer-moves w n dest tag chunks = go (ℕ_discrete (offer_refusal w n dest chunks) 0)
  where
    go : Dec (offer_refusal w n dest chunks ≡ 0) → moves_made (offer_words w n dest tag chunks) ≡ moves_made w
    go (yes e) = (offer-call w n dest tag chunks e).same-moves
    go (no ne) = rw (ne_eqb (offer_refusal w n dest chunks) 0 ne) refl

-- R174: the packet of an offer that is not refused has a hop to make: where it is handed out, it has crossed a link
pub offer-hops : (w : List ℕ) (n dest tag chunks : ℕ) → offer_refusal w n dest chunks ≡ 0 → hops_left (offered (shape w) n dest tag chunks) ≢ 0
unfolding offer_refusal
offer-hops w n dest tag chunks e =
    let (network, rules) = neither (network_refusal w) (offer_rules (shape w) w n dest chunks) e in
    let N : Network (shape w) w = network-passed w network in
    let A : Accepting (shape w) w n dest chunks = accepting (shape w) w n dest chunks N rules in
    hops-offered (shape w) n dest tag chunks (torus w N) A.node A.addressed (in_range-nodes (shape w) N.in-range (torus w N).dims) (few-chunks A)
    (λ i h. in_range-size (shape w) i N.in-range)
    (λ same. let told = (own-node-exactly (shape w) w n dest chunks).1 (A.node, same, A.right) in omega arith)
