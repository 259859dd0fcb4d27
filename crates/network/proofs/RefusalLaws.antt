-- Refusals as facts: a chain of tests gives 0 exactly when none of them applies. Order: one test and two chains; words that are a network;
-- Offer's chunk number, and an offer to oneself; a permitted move. Assumes nothing.
use Rattle.std.specs.Prelude.{◌≡◌, refl, ◌≢◌, ◌↔◌, List, [], ◌∷◌, ℕ, suc, slice_index_or, ◌+◌, ◌<◌, ◌≤◌, T, leb, ltb, eqb, length}
use Rattle.std.proofs.Common.{true≢false, is_ok, Result, Ok, Err, ap, sym, ◌∙◌, arith, eq-eqb, ne_eqb, le-leb, le-ltb, ltb-false, leb-false, eqb→eq}
use mathlib.Core.Bool.{Bool, true, false, cond, not, ◌||◌}
use native.Mathlib.Nat.{le_trans}
use Rattle.std.proofs.Math.Decide.{ℕ_discrete}
use Rattle.std.proofs.lemmas.Bool.{lt-leb, eqb-false}
use Rattle.base.specs.Tests.{elem}
use Rattle.base.proofs.Tests.{T_true, true-T}
use Rattle.network.specs.Sizes.{Shape, within, sizes_in_range, most_chunks, nodes, queues, capacity}
use Rattle.network.specs.Layout.{shape, header_words, need, held, load, taken}
use Rattle.network.proofs.LayoutLaws.{header-long, load-pos}
use Rattle.network.specs.Check.{is_network}
use Rattle.network.specs.CheckLaws.{Network}
use Rattle.network.proofs.CheckLaws.{network-of, network-by}
use Rattle.network.specs.Routes.{routes, deliver, target, free_load, load_needed}
use Rattle.network.proofs.RoutesLaws.{free-load-is, load-needed}
use Rattle.network.specs.declared.Refusal.{Refusal}
use Rattle.network.specs.Refusals.{refusal_number, number_of, refuse, else_by, network_refusal, wrong_chunks, is_own_node, count_is_spent, injection_is_full, offer_rules, head, flow_rules, move_rules, short_store, wrong_size, no_network, no_such_node, no_such_queue, no_such_output, injection_full, count_spent, queue_empty, no_route, no_slot, no_bubble, own_node}
use Rattle.network.specs.RefusalLaws.{Permitted}

-- a test that would refuse by k + 1 did not apply, and the later ones say 0
pub not-refused : (b : Bool) (k later : ℕ) → refuse b (suc k) later ≡ 0 → (b ≡ false) × (later ≡ 0)
not-refused true k later e = absurd (native.Mathlib.Nat.suc-ne-zero k e)
not-refused false k later e = (refl, e)

pub passes : (b : Bool) (k later : ℕ) → b ≡ false → later ≡ 0 → refuse b k later ≡ 0
passes b k later e z = ap (λ (t : Bool). refuse t k later) e ∙ z

pub neither : (earlier later : ℕ) → else_by earlier later ≡ 0 → (earlier ≡ 0) × (later ≡ 0)
neither earlier later e = go (ℕ_discrete earlier 0)
  where
    go : Dec (earlier ≡ 0) → (earlier ≡ 0) × (later ≡ 0)
    go (yes z) = (z, rw (eq-eqb earlier 0 z) at e)
    go (no ne) = absurd (ne (rw (ne_eqb earlier 0 ne) at e))

pub else_by-zero : (earlier later : ℕ) → earlier ≡ 0 → else_by earlier later ≡ later
else_by-zero earlier later z = rw (eq-eqb earlier 0 z)

pub else_by-first : (earlier later : ℕ) → earlier ≢ 0 → else_by earlier later ≡ earlier
else_by-first earlier later ne = rw (ne_eqb earlier 0 ne)

not-not : (b : Bool) → not b ≡ false → b ≡ true
not-not true e = refl
not-not false e = absurd (mathlib.Core.Bool.true≢false e)

-- words that no test refuses are a network, and the other way round
pub network-passed : (w : List ℕ) → network_refusal w ≡ 0 → Network (shape w) w
unfolding network_refusal
network-passed w e =
    let (a, e₁) = not-refused (ltb (length w) header_words) 0 _ e in
    let (b, e₂) = not-refused (not (sizes_in_range (shape w))) 1 _ e₁ in
    let (c, e₃) = not-refused (ltb (length w) (need (shape w))) 0 _ e₂ in
    let (d, e₄) = not-refused (not (is_network (shape w) w)) 2 _ e₃ in
    network-of (shape w) w (true-T (is_network (shape w) w) (not-not (is_network (shape w) w) d))

pub network-passes : (w : List ℕ) → Network (shape w) w → network_refusal w ≡ 0
unfolding network_refusal
network-passes w f =
    let l : need (shape w) ≤ length w = f.long in
    passes (ltb (length w) header_words) short_store _ (le-ltb (length w) header_words (header-long (shape w) w l))
    (passes (not (sizes_in_range (shape w))) wrong_size _ (ap not (T_true (sizes_in_range (shape w)) f.in-range))
    (passes (ltb (length w) (need (shape w))) short_store _ (le-ltb (length w) (need (shape w)) l)
    (passes (not (is_network (shape w) w)) no_network 0 (ap not (T_true (is_network (shape w) w) (network-by (shape w) w f))) refl)))

-- R162, R189: 2 is told exactly where node and destination are nodes and the chunk number is outside 1 to 8, whatever the later tests would say
pub chunks-exactly : (S : Shape) (w : List ℕ) (n destination chunks : ℕ)
    → (offer_rules S w n destination chunks ≡ wrong_size) ↔ ((n < nodes S) × (destination < nodes S) × T (wrong_chunks chunks))
unfolding offer_rules
chunks-exactly S w n destination chunks =
    (told (leb (nodes S) n) (leb (nodes S) destination) (wrong_chunks chunks) (is_own_node n destination) (count_is_spent w) (injection_is_full S w n) refl refl, tells)
  where
    told : (a b c d f g : Bool) → leb (nodes S) n ≡ a → leb (nodes S) destination ≡ b
        → refuse (a || b) no_such_node (refuse c wrong_size (refuse d own_node (refuse f count_spent (refuse g injection_full 0)))) ≡ wrong_size
        → (n < nodes S) × (destination < nodes S) × T c
    told true b c d f g ea eb e = absurd (omega (arith, e))
    told false true c d f g ea eb e = absurd (omega (arith, e))
    told false false true d f g ea eb e = (leb-false (nodes S) n ea, leb-false (nodes S) destination eb, tt)
    told false false false true f g ea eb e = absurd (omega (arith, e))
    told false false false false true g ea eb e = absurd (omega (arith, e))
    told false false false false false true ea eb e = absurd (omega (arith, e))
    told false false false false false false ea eb e = absurd (omega (arith, e))

    tells : (n < nodes S) × (destination < nodes S) × T (wrong_chunks chunks) → offer_rules S w n destination chunks ≡ wrong_size
    tells (h, k, t) = rw (lt-leb (nodes S) n h, lt-leb (nodes S) destination k, T_true (wrong_chunks chunks) t)

-- R174, R189: 14 is told exactly where a node offers to itself by a right chunk number, whatever was accepted and however full its queue is
pub own-node-exactly : (S : Shape) (w : List ℕ) (n destination chunks : ℕ)
    → (offer_rules S w n destination chunks ≡ own_node) ↔ ((n < nodes S) × (n ≡ destination) × T (within 1 most_chunks chunks))
unfolding offer_rules
own-node-exactly S w n destination chunks =
    (told (leb (nodes S) n) (leb (nodes S) destination) (within 1 most_chunks chunks) (eqb n destination) (count_is_spent w) (injection_is_full S w n) refl refl, tells)
  where
    told : (a b c d f g : Bool) → leb (nodes S) n ≡ a → eqb n destination ≡ d
        → refuse (a || b) no_such_node (refuse (not c) wrong_size (refuse d own_node (refuse f count_spent (refuse g injection_full 0)))) ≡ own_node
        → (n < nodes S) × (n ≡ destination) × T c
    told true b c d f g ea ed e = absurd (omega (arith, e))
    told false true c d f g ea ed e = absurd (omega (arith, e))
    told false false false d f g ea ed e = absurd (omega (arith, e))
    told false false true true f g ea ed e = (leb-false (nodes S) n ea, eqb→eq n destination (true-T (eqb n destination) ed), tt)
    told false false true false true g ea ed e = absurd (omega (arith, e))
    told false false true false false true ea ed e = absurd (omega (arith, e))
    told false false true false false false ea ed e = absurd (omega (arith, e))

    tells : (n < nodes S) × (n ≡ destination) × T (within 1 most_chunks chunks) → offer_rules S w n destination chunks ≡ own_node
    tells (h, e, t) =
        rw (
          lt-leb (nodes S) n h,
          lt-leb (nodes S) destination (omega (arith, h, e)),
          T_true (within 1 most_chunks chunks) t,
          eq-eqb n destination e,
        )

-- R164, R189: one number, given twice, that is no node, whatever the chunk number
pub no-node-first : (S : Shape) (w : List ℕ) (n chunks : ℕ) → nodes S ≤ n → offer_rules S w n n chunks ≡ no_such_node
unfolding offer_rules
no-node-first S w n chunks h = rw (le-leb (nodes S) n h)

-- the flow rules let a packet pass by an output exactly when it delivers or as many slots are free as the packet needs there
pub flow-of : (S : Shape) (w : List ℕ) (n q o p : ℕ) → flow_rules S w n q o p ≡ 0 → o ≢ deliver → load_needed q o p ≤ free_load S w n o
unfolding flow_rules
flow-of S w n q o p e ne =
    let (a, r₁) = not-refused (ltb (free_load S w n o) (load o p)) 10 _ (rw (ne_eqb o deliver ne) at e) in
    let (b, r₂) = not-refused (ltb (free_load S w n o) (load_needed q o p)) 11 _ r₁ in
    ltb-false (free_load S w n o) (load_needed q o p) b

-- where as much is free as a packet needs, the target takes it
pub target-takes : (S : Shape) (w : List ℕ) (n q o p : ℕ) → load_needed q o p ≤ free_load S w n o → taken S w (target S n o) o + load o p ≤ capacity S o
target-takes S w n q o p h =
    let a = free-load-is S w n o in
    let b = load-needed q o p in
    let c = load-pos o p in
    omega arith

pub flow-by : (S : Shape) (w : List ℕ) (n q o p : ℕ) → (o ≢ deliver → load_needed q o p ≤ free_load S w n o) → flow_rules S w n q o p ≡ 0
unfolding flow_rules
flow-by S w n q o p h = go (ℕ_discrete o deliver)
  where
    free : ℕ
    free = free_load S w n o

    needed : ℕ
    needed = load_needed q o p

    go : Dec (o ≡ deliver) → cond (eqb o deliver) 0 (refuse (ltb free (load o p)) no_slot (refuse (ltb free needed) no_bubble 0)) ≡ 0
    go (yes e) = rw (eq-eqb o deliver e)
    go (no ne) =
        let l : needed ≤ free = h ne in
        rw (ne_eqb o deliver ne)
        (passes (ltb free (load o p)) no_slot _ (le-ltb free (load o p) (le_trans (load-needed q o p) l))
        (passes (ltb free needed) no_bubble 0 (le-ltb free needed l) refl))

pub permitted-of : (S : Shape) (w : List ℕ) (n q o : ℕ) → move_rules S w n q o ≡ 0 → Permitted S w n q o
unfolding move_rules
permitted-of S w n q o e =
    let (a, e₁) = not-refused (leb (nodes S) n) 3 _ e in
    let (b, e₂) = not-refused (leb queues q) 4 _ e₁ in
    let (c, e₃) = not-refused (leb queues o) 5 _ e₂ in
    let (d, e₄) = not-refused (eqb (length (held S w n q)) 0) 8 _ e₃ in
    let (r, e₅) = not-refused (not (elem o (routes q (head (held S w n q))))) 9 _ e₄ in
    record {
      node = leb-false (nodes S) n a;
      queue = leb-false queues q b;
      output = leb-false queues o c;
      holds = eqb-false (length (held S w n q)) 0 d;
      route = true-T (elem o (routes q (head (held S w n q)))) (not-not (elem o (routes q (head (held S w n q)))) r);
      room = flow-of S w n q o (head (held S w n q)) e₅;
    }

pub permitted-by : (S : Shape) (w : List ℕ) (n q o : ℕ) → Permitted S w n q o → move_rules S w n q o ≡ 0
unfolding move_rules
permitted-by S w n q o p =
    passes (leb (nodes S) n) no_such_node _ (lt-leb (nodes S) n p.node)
    (passes (leb queues q) no_such_queue _ (lt-leb queues q p.queue)
    (passes (leb queues o) no_such_output _ (lt-leb queues o p.output)
    (passes (eqb (length (held S w n q)) 0) queue_empty _ (ne_eqb (length (held S w n q)) 0 p.holds)
    (passes (not (elem o (routes q (head (held S w n q))))) no_route _ (ap not (T_true (elem o (routes q (head (held S w n q)))) p.route))
    (flow-by S w n q o (head (held S w n q)) p.room)))))

-- R160: no refusal has the number 0, and the numbers tell the refusals apart, so that an answer is known by what `numbered` says of it
abbrev by_number : List Refusal
by_number =
    Refusal.ShortStore
    ∷ Refusal.ShortStore
    ∷ Refusal.WrongSize
    ∷ Refusal.NoNetwork
    ∷ Refusal.NoSuchNode
    ∷ Refusal.NoSuchQueue
    ∷ Refusal.NoSuchOutput
    ∷ Refusal.InjectionFull
    ∷ Refusal.CountSpent
    ∷ Refusal.QueueEmpty
    ∷ Refusal.NoRoute
    ∷ Refusal.NoSlot
    ∷ Refusal.NoBubble
    ∷ Refusal.BadLine
    ∷ Refusal.OwnNode
    ∷ Refusal.ShortPage
    ∷ []

at-its-number : (r : Refusal) → slice_index_or by_number (refusal_number r) Refusal.ShortStore ≡ r
at-its-number Refusal.ShortStore = refl
at-its-number Refusal.WrongSize = refl
at-its-number Refusal.NoNetwork = refl
at-its-number Refusal.NoSuchNode = refl
at-its-number Refusal.NoSuchQueue = refl
at-its-number Refusal.NoSuchOutput = refl
at-its-number Refusal.InjectionFull = refl
at-its-number Refusal.CountSpent = refl
at-its-number Refusal.QueueEmpty = refl
at-its-number Refusal.NoRoute = refl
at-its-number Refusal.NoSlot = refl
at-its-number Refusal.NoBubble = refl
at-its-number Refusal.BadLine = refl
at-its-number Refusal.OwnNode = refl
at-its-number Refusal.ShortPage = refl

pub numbers-apart : (a b : Refusal) → refusal_number a ≡ refusal_number b → a ≡ b
numbers-apart a b e = sym (at-its-number a) ∙ ap (λ (n : ℕ). slice_index_or by_number n Refusal.ShortStore) e ∙ at-its-number b

pub number-positive : (r : Refusal) → 0 < refusal_number r
number-positive Refusal.ShortStore = omega arith
number-positive Refusal.WrongSize = omega arith
number-positive Refusal.NoNetwork = omega arith
number-positive Refusal.NoSuchNode = omega arith
number-positive Refusal.NoSuchQueue = omega arith
number-positive Refusal.NoSuchOutput = omega arith
number-positive Refusal.InjectionFull = omega arith
number-positive Refusal.CountSpent = omega arith
number-positive Refusal.QueueEmpty = omega arith
number-positive Refusal.NoRoute = omega arith
number-positive Refusal.NoSlot = omega arith
number-positive Refusal.NoBubble = omega arith
number-positive Refusal.BadLine = omega arith
number-positive Refusal.OwnNode = omega arith
number-positive Refusal.ShortPage = omega arith

-- what the code answers has the number 0 exactly where it is no refusal
pub ok-number : {A : Type 0} (r : Result A Refusal) → is_ok r ≡ true → number_of r ≡ 0
ok-number (Ok value) e = refl
ok-number (Err refusal) e = absurd (true≢false (sym e))

pub err-number : {A : Type 0} (r : Result A Refusal) → is_ok r ≡ false → number_of r ≢ 0
err-number (Ok value) e = absurd (true≢false e)
err-number (Err refusal) e = λ z. let p = number-positive refusal in omega arith
