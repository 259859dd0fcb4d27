-- What each call answers and leaves, test by test: the definitions of Calls.antt at each place where the code returns. `S` are the sizes that the code
-- has read from the words. Order: Make; Offer; Move; Credit; Look; First; Drain. Assumes nothing.
use Rattle.std.specs.Prelude.{◌≡◌, refl, ◌≢◌, List, [], ◌++◌, map, ℕ, ◌<◌, ◌≤◌, eqb, leb, length, drop, Option, None, Some, Result, Ok, Err}
use Rattle.std.proofs.Common.{ap, sym, ◌∙◌, subst, arith, eq-eqb, ne_eqb, lt-ltb, le-ltb, leb-false}
use mathlib.Core.Bool.{Bool, true, false, cond, ◌||◌}
use Rattle.std.proofs.lemmas.Bool.{eqb-false}
use Rattle.network.specs.declared.Drained.{Drained}
use Rattle.network.specs.declared.NamedMove.{NamedMove}
use Rattle.network.specs.declared.Refusal.{Refusal}
use Rattle.network.specs.declared.Sizes.{Sizes}
use Rattle.network.specs.declared.Stop.{Stop}
use Rattle.network.specs.Sizes.{Shape, shape_of, sizes_in_range, nodes, queues}
use Rattle.network.specs.Layout.{shape, need, held}
use Rattle.queue.specs.QueueOf.{QueueOf}
use Rattle.network.specs.CheckLaws.{Network}
use Rattle.network.specs.Routes.{deliver, free_load}
use Rattle.network.specs.Refusals.{refusal_number, numbered, network_refusal, make_refusal, offer_rules, offer_refusal, move_rules, move_refusal, credit_rules, credit_refusal, look_rules, look_refusal, head, else_by}
use Rattle.network.proofs.RefusalLaws.{else_by-zero, else_by-first, neither, not-refused, network-passed}
use Rattle.network.specs.Calls.{Answer, unless_refused, Delivery, empty_network, make_words, after_offer, offer_words, after_move, move_words, move_answer, credit_answer, look_part, first_move, first_answer, drain_from, drained, drain_of, drain_words, drain_ledger, drain_answer}
use Rattle.network.proofs.Answers.{value-is, refusal-is}
use Rattle.checker.specs.Opened.{Open, Shut, broken, sizes_in, sizes-shape}

-- The refusal of a call, which tests the words and then its own rules f of the sizes S that the words begin with -------------------------------

pub by-the-check : {w : List ℕ} (r : Refusal) (rules : ℕ) → Shut w (refusal_number r) → else_by (network_refusal w) rules ≡ refusal_number r
by-the-check {w} r rules k = else_by-first (network_refusal w) rules (broken k) ∙ k.says

pub by-the-rules : {w : List ℕ} {s : Sizes} {r : ℕ} (f : Shape → ℕ) → Open w s → f (shape_of s) ≡ r → else_by (network_refusal w) (f (shape w)) ≡ r
by-the-rules {w} f k x = else_by-zero (network_refusal w) (f (shape w)) k.passed ∙ ap f (sym k.sizes) ∙ x

-- Make --------------------------------------------------------------------------------------------------------------------------------

-- an answer, and the words that are left
pub record AnswerAndWords {A : Type 0} (answer said : A) (words left : List ℕ) : Type 0 where
  pub says : said ≡ answer
  pub leaves : left ≡ words

pub make-wrong-size : (S : Shape) (w : List ℕ) → sizes_in_range S ≡ false → AnswerAndWords (make_refusal S w) 2 (make_words S w) w
unfolding make_refusal make_words
make-wrong-size S w e = record { says = rw e; leaves = rw e }

pub make-short : (S : Shape) (w : List ℕ) → sizes_in_range S ≡ true → length w < need S → AnswerAndWords (make_refusal S w) 1 (make_words S w) w
unfolding make_refusal make_words
make-short S w e l = record { says = rw (e, lt-ltb (length w) (need S) l); leaves = rw (e, lt-ltb (length w) (need S) l) }

pub make-made : (S : Shape) (w : List ℕ) → sizes_in_range S ≡ true → need S ≤ length w
    → AnswerAndWords (make_refusal S w) 0 (make_words S w) (empty_network S ++ drop (need S) w)
unfolding make_refusal make_words
make-made S w e l = record { says = rw (e, le-ltb (length w) (need S) l); leaves = rw (e, le-ltb (length w) (need S) l) }

-- Offer -------------------------------------------------------------------------------------------------------------------------------

pub offer-shut : {w : List ℕ} (r : Refusal) (n d c : ℕ) → Shut w (refusal_number r) → offer_refusal w n d c ≡ refusal_number r
unfolding offer_refusal
offer-shut {w} r n d c k = by-the-check r (offer_rules (shape w) w n d c) k

pub offer-by : {w : List ℕ} {s : Sizes} {r : ℕ} (n d c : ℕ) → Open w s → offer_rules (shape_of s) w n d c ≡ r → offer_refusal w n d c ≡ r
unfolding offer_refusal
offer-by {w} n d c k x = by-the-rules (λ (T : Shape). offer_rules T w n d c) k x

-- Move --------------------------------------------------------------------------------------------------------------------------------

pub move-shut : {w : List ℕ} (r : Refusal) (n q o : ℕ) → Shut w (refusal_number r) → move_refusal w n q o ≡ refusal_number r
unfolding move_refusal
move-shut {w} r n q o k = by-the-check r (move_rules (shape w) w n q o) k

pub move-by : {w : List ℕ} {s : Sizes} {r : ℕ} (n q o : ℕ) → Open w s → move_rules (shape_of s) w n q o ≡ r → move_refusal w n q o ≡ r
unfolding move_refusal
move-by {w} n q o k x = by-the-rules (λ (T : Shape). move_rules T w n q o) k x

-- what a move that is made hands out
pub handed-head : {w : List ℕ} {s : Sizes} (n q o : ℕ) {p : ℕ} → Open w s → o ≡ deliver → p ≡ head (held (shape_of s) w n q)
    → Some p ≡ cond (eqb o deliver) (Some (head (held (shape w) w n q))) None
handed-head {w} {s} n q o k d h = rw (eq-eqb o deliver d) (ap (λ (x : ℕ). Some x) (h ∙ ap (λ (T : Shape). head (held T w n q)) k.sizes))

pub handed-none : (o p : ℕ) → o ≢ deliver → ◌≡◌ {A = Option ℕ} None (cond (eqb o deliver) (Some p) None)
handed-none o p ne = rw (ne_eqb o deliver ne)

-- Credit ------------------------------------------------------------------------------------------------------------------------------

pub credit-shut : {w : List ℕ} (r : Refusal) (n o : ℕ) → Shut w (refusal_number r) → credit_refusal w n o ≡ refusal_number r
unfolding credit_refusal
credit-shut {w} r n o k = by-the-check r (credit_rules (shape w) n o) k

pub credit-by : {w : List ℕ} {s : Sizes} {r : ℕ} (n o : ℕ) → Open w s → credit_rules (shape_of s) n o ≡ r → credit_refusal w n o ≡ r
unfolding credit_refusal
credit-by {w} n o k x = by-the-rules (λ (T : Shape). credit_rules T n o) k x

-- Look --------------------------------------------------------------------------------------------------------------------------------

pub look-by-check : {w : List ℕ} (r : Refusal) (n q : ℕ) → Shut w (refusal_number r) → look_refusal w n q ≡ refusal_number r
unfolding look_refusal
look-by-check {w} r n q k = by-the-check r (look_rules (shape w) n q) k

pub look-by : {w : List ℕ} {s : Sizes} {r : ℕ} (n q : ℕ) → Open w s → look_rules (shape_of s) n q ≡ r → look_refusal w n q ≡ r
unfolding look_refusal
look-by {w} n q k x = by-the-rules (λ (T : Shape). look_rules T n q) k x

-- a Look that is not refused is of a queue that is there
pub look-place : (S : Shape) (n q : ℕ) → look_rules S n q ≡ 0 → (n < nodes S) × (q < queues)
unfolding look_rules
look-place S n q e =
    let (a, e₁) = not-refused (leb (nodes S) n) 3 _ e in
    let (b, e₂) = not-refused (leb queues q) 4 _ e₁ in
    (leb-false (nodes S) n a, leb-false queues q b)

-- the sizes of the words of a Look that is not refused
unfoldable pub look_opened : List ℕ → ℕ → ℕ → Answer Sizes
look_opened w n q = unless_refused (look_refusal w n q) (Ok (sizes_in w)) (Err (look_refusal w n q))

-- what its answer o shows: the Look is refused, or it is not, and the words are a network of these sizes that has the queue
pub look-shut : (w : List ℕ) (n q : ℕ) {r : Refusal} {o : Result Sizes Refusal} → numbered o ≡ look_opened w n q → o ≡ Err r → look_refusal w n q ≡ refusal_number r
unfolding look_opened
look-shut w n q e is = refusal-is (look_refusal w n q) _ _ (sym (ap (λ (x : Result Sizes Refusal). numbered x) is) ∙ e)

pub record Looked (w : List ℕ) (n q : ℕ) (s : Sizes) : Type 0 where
  pub passed : look_refusal w n q ≡ 0
  pub sizes : shape_of s ≡ shape w
  pub queue : QueueOf (shape_of s) w n q

pub look-open : (w : List ℕ) (n q : ℕ) {s : Sizes} {o : Result Sizes Refusal} → numbered o ≡ look_opened w n q → o ≡ Ok s → Looked w n q s
unfolding look_opened look_refusal
look-open w n q {s} e is =
    let (z, same) = value-is (look_refusal w n q) _ _ (sym (ap (λ (x : Result Sizes Refusal). numbered x) is) ∙ e) in
    let sizes : shape_of s ≡ shape w = ap shape_of same ∙ sizes-shape w in
    let (a, b) = neither (network_refusal w) (look_rules (shape w) n q) z in
    let (hn, hq) = look-place (shape w) n q b in
    let queue : QueueOf (shape w) w n q = record { network = network-passed w a; node = hn; queue = hq } in
    record { passed = z; sizes = sizes; queue = subst (λ (T : Shape). QueueOf T w n q) (sym sizes) queue }

pub look-refused : (w : List ℕ) (n q : ℕ) → look_refusal w n q ≢ 0 → [] ≡ look_part w n q
unfolding look_part
look-refused w n q ne = rw (ne_eqb (look_refusal w n q) 0 ne)

pub look-shown : (S : Shape) (w part : List ℕ) (n q : ℕ) → S ≡ shape w → look_refusal w n q ≡ 0 → part ≡ held S w n q → part ≡ look_part w n q
unfolding look_part
look-shown S w part n q e z h = rw (eq-eqb (look_refusal w n q) 0 z) (h ∙ ap (λ (T : Shape). held T w n q) e)

-- Drain -------------------------------------------------------------------------------------------------------------------------------

-- what a Drain of a network tells and leaves, by what the turns have come to
pub drain-whole : {w : List ℕ} {s : Sizes} (budget : ℕ) (ledger : List ℕ) {v : List ℕ} {ms : List NamedMove} {ds : List Delivery} {why : Stop} → Open w s
    → drain_from (shape_of s) budget (length ledger) w ≡ record { words = v; moves = ms; deliveries = ds; stop = why }
    → drained w budget (length ledger) ≡ record { words = v; moves = ms; deliveries = ds; stop = why }
unfolding drained
drain-whole {w} budget ledger k e = ap (λ (T : Shape). drain_from T budget (length ledger) w) (sym k.sizes) ∙ e

pub drain-writes : (w : List ℕ) (budget : ℕ) (ledger : List ℕ) {written v : List ℕ} {ms : List NamedMove} {ds : List Delivery} {why : Stop} → network_refusal w ≡ 0
    → drained w budget (length ledger) ≡ record { words = v; moves = ms; deliveries = ds; stop = why }
    → written ≡ map (λ (d : Delivery). d.packet) ds ++ drop (length ds) ledger → written ≡ drain_ledger w budget ledger
unfolding drain_ledger
drain-writes w budget ledger z whole x = rw (eq-eqb (network_refusal w) 0 z, whole) x

-- what the code has shown where it goes on ----------------------------------------------------------------------------------------------

pub credit-place : (S : Shape) (n o : ℕ) → credit_rules S n o ≡ 0 → (n < nodes S) × (0 < o) × (o < queues)
unfolding credit_rules
credit-place S n o e =
    let (a, e₁) = not-refused (leb (nodes S) n) 3 _ e in
    let (b, e₂) = not-refused (eqb o deliver || leb queues o) 5 _ e₁ in
    (leb-false (nodes S) n a, positive o (eqb-false o deliver (neither-l (eqb o deliver) (leb queues o) b)), leb-false queues o (neither-r (eqb o deliver) (leb queues o) b))
  where
    neither-l : (x y : Bool) → (x || y) ≡ false → x ≡ false
    neither-l true y z = z
    neither-l false y z = refl

    neither-r : (x y : Bool) → (x || y) ≡ false → y ≡ false
    neither-r true y z = absurd (mathlib.Core.Bool.true≢false z)
    neither-r false y z = z

    positive : (k : ℕ) → (k ≡ 0 → ⊥) → 0 < k
    positive k ne = omega arith

-- The same call by call, by the number of its refusal ------------------------------------------------------------------------------------

-- the tests that follow the check: what they refuse, and what they let pass
after_check : (S : Shape) (w : List ℕ) (r : ℕ) (f : Shape → ℕ) → network_refusal w ≡ 0 → S ≡ shape w → f S ≡ r → else_by (network_refusal w) (f (shape w)) ≡ r
after_check S w r f z e x = else_by-zero (network_refusal w) (f (shape w)) z ∙ ap f (sym e) ∙ x

pub offer-refused : (w : List ℕ) (n d t c r : ℕ) → offer_refusal w n d c ≡ r → r ≢ 0 → AnswerAndWords (offer_refusal w n d c) r (offer_words w n d t c) w
unfolding offer_words
offer-refused w n d t c r e ne = record { says = sym e; leaves = rw (ne_eqb (offer_refusal w n d c) 0 (λ z. ne (sym e ∙ z))) }

pub offer-broken : (w : List ℕ) (n d c : ℕ) → network_refusal w ≢ 0 → offer_refusal w n d c ≡ network_refusal w
unfolding offer_refusal
offer-broken w n d c ne = else_by-first (network_refusal w) (offer_rules (shape w) w n d c) ne

pub offer-rules : (S : Shape) (w : List ℕ) (n d c : ℕ) → network_refusal w ≡ 0 → S ≡ shape w → offer_refusal w n d c ≡ offer_rules S w n d c
unfolding offer_refusal
offer-rules S w n d c z e = after_check S w (offer_rules S w n d c) (λ T. offer_rules T w n d c) z e refl

pub offer-taken : (S : Shape) (w : List ℕ) (n d t c : ℕ) → network_refusal w ≡ 0 → S ≡ shape w → offer_rules S w n d c ≡ 0
    → AnswerAndWords (offer_refusal w n d c) 0 (offer_words w n d t c) (after_offer S w n d t c)
unfolding offer_words
offer-taken S w n d t c z e r =
    record {
      says = sym (offer-rules S w n d c z e ∙ r);
      leaves = rw (eq-eqb (offer_refusal w n d c) 0 (offer-rules S w n d c z e ∙ r)) (ap (λ (T : Shape). after_offer T w n d t c) e);
    }

pub move-broken : (w : List ℕ) (n q o : ℕ) → network_refusal w ≢ 0 → move_refusal w n q o ≡ network_refusal w
unfolding move_refusal
move-broken w n q o ne = else_by-first (network_refusal w) (move_rules (shape w) w n q o) ne

pub move-rules : (S : Shape) (w : List ℕ) (n q o : ℕ) → network_refusal w ≡ 0 → S ≡ shape w → move_refusal w n q o ≡ move_rules S w n q o
unfolding move_refusal
move-rules S w n q o z e = after_check S w (move_rules S w n q o) (λ T. move_rules T w n q o) z e refl

pub move-refused : (w : List ℕ) (n q o r : ℕ) → move_refusal w n q o ≡ r → r ≢ 0 → AnswerAndWords (move_answer w n q o) (Err r) (move_words w n q o) w
unfolding move_answer move_words
move-refused w n q o r e ne =
    let no' : eqb (move_refusal w n q o) 0 ≡ false = ne_eqb (move_refusal w n q o) 0 (λ z. ne (sym e ∙ z)) in
    record { says = rw no' (ap (λ (k : ℕ). Err k) (sym e)); leaves = rw no' }

pub move-delivered : (S : Shape) (w : List ℕ) (n q o p : ℕ) → network_refusal w ≡ 0 → S ≡ shape w → move_rules S w n q o ≡ 0 → o ≡ 0 → p ≡ head (held S w n q)
    → AnswerAndWords (move_answer w n q o) (Ok (Some p)) (move_words w n q o) (after_move S w n q o)
unfolding move_answer move_words
move-delivered S w n q o p z e r d h =
    let yes' : eqb (move_refusal w n q o) 0 ≡ true = eq-eqb (move_refusal w n q o) 0 (move-rules S w n q o z e ∙ r) in
    record {
      says = rw (yes', eq-eqb o deliver d) (ap (λ (k : ℕ). Ok (Some k)) (h ∙ ap (λ (T : Shape). head (held T w n q)) e));
      leaves = rw yes' (ap (λ (T : Shape). after_move T w n q o) e);
    }

pub move-passed : (S : Shape) (w : List ℕ) (n q o : ℕ) → network_refusal w ≡ 0 → S ≡ shape w → move_rules S w n q o ≡ 0 → o ≢ 0
    → AnswerAndWords (move_answer w n q o) (Ok None) (move_words w n q o) (after_move S w n q o)
unfolding move_answer move_words
move-passed S w n q o z e r ne =
    let yes' : eqb (move_refusal w n q o) 0 ≡ true = eq-eqb (move_refusal w n q o) 0 (move-rules S w n q o z e ∙ r) in
    record { says = rw (yes', ne_eqb o deliver ne); leaves = rw yes' (ap (λ (T : Shape). after_move T w n q o) e) }

pub credit-broken : (w : List ℕ) (n o : ℕ) → network_refusal w ≢ 0 → ◌≡◌ {A = Answer ℕ} (Err (network_refusal w)) (credit_answer w n o)
unfolding credit_answer credit_refusal
credit-broken w n o ne =
    let same : else_by (network_refusal w) (credit_rules (shape w) n o) ≡ network_refusal w = else_by-first (network_refusal w) (credit_rules (shape w) n o) ne in
    rw (same, ne_eqb (network_refusal w) 0 ne)

pub credit-refused : (S : Shape) (w : List ℕ) (n o r : ℕ) → network_refusal w ≡ 0 → S ≡ shape w → credit_rules S n o ≡ r → r ≢ 0 → ◌≡◌ {A = Answer ℕ} (Err r) (credit_answer w n o)
unfolding credit_answer credit_refusal
credit-refused S w n o r z e x ne =
    let same : else_by (network_refusal w) (credit_rules (shape w) n o) ≡ r = after_check S w r (λ T. credit_rules T n o) z e x in
    rw (same, ne_eqb r 0 ne)

pub credit-free : (S : Shape) (w : List ℕ) (n o f : ℕ) → network_refusal w ≡ 0 → S ≡ shape w → credit_rules S n o ≡ 0 → f ≡ free_load S w n o
    → ◌≡◌ {A = Answer ℕ} (Ok f) (credit_answer w n o)
unfolding credit_answer credit_refusal
credit-free S w n o f z e x h =
    let same : else_by (network_refusal w) (credit_rules (shape w) n o) ≡ 0 = after_check S w 0 (λ T. credit_rules T n o) z e x in
    rw same (ap (λ (k : ℕ). Ok k) (h ∙ ap (λ (T : Shape). free_load T w n o) e))

pub look-broken : (w : List ℕ) (n q : ℕ) → network_refusal w ≢ 0 → network_refusal w ≡ look_refusal w n q
unfolding look_refusal
look-broken w n q ne = sym (else_by-first (network_refusal w) (look_rules (shape w) n q) ne)

pub look-rules : (S : Shape) (w : List ℕ) (n q : ℕ) → network_refusal w ≡ 0 → S ≡ shape w → look_rules S n q ≡ look_refusal w n q
unfolding look_refusal
look-rules S w n q z e = sym (after_check S w (look_rules S n q) (λ T. look_rules T n q) z e refl)

pub first-broken : (w : List ℕ) → network_refusal w ≢ 0 → ◌≡◌ {A = Answer (Option NamedMove)} (Err (network_refusal w)) (first_answer w)
unfolding first_answer
first-broken w ne = rw (ne_eqb (network_refusal w) 0 ne)

pub first_found : (S : Shape) (w : List ℕ) (f : Option NamedMove) → network_refusal w ≡ 0 → S ≡ shape w → f ≡ first_move S w → Ok f ≡ first_answer w
unfolding first_answer
first_found S w f z e h = rw (eq-eqb (network_refusal w) 0 z) (ap (λ (k : Option NamedMove). Ok k) (h ∙ ap (λ (T : Shape). first_move T w) e))

-- the answer, the words and the ledger
pub record Drains (w : List ℕ) (budget : ℕ) (ledger : List ℕ) (said : Answer Drained) (words written : List ℕ) : Type 0 where
  pub says : said ≡ drain_answer w budget (length ledger)
  pub leaves : words ≡ drain_words w budget (length ledger)
  pub writes : written ≡ drain_ledger w budget ledger

pub drain-broken : (w : List ℕ) (budget : ℕ) (ledger : List ℕ) → network_refusal w ≢ 0 → Drains w budget ledger (Err (network_refusal w)) w ledger
unfolding drain_answer drain_words drain_ledger
drain-broken w budget ledger ne =
    record { says = rw (ne_eqb (network_refusal w) 0 ne); leaves = rw (ne_eqb (network_refusal w) 0 ne); writes = rw (ne_eqb (network_refusal w) 0 ne) }

pub drain-done : (S : Shape) (w : List ℕ) (budget : ℕ) (ledger v written : List ℕ) (ms : List NamedMove) (ds : List Delivery) (why : Stop) → network_refusal w ≡ 0 → S ≡ shape w
    → drain_from S budget (length ledger) w ≡ record { words = v; moves = ms; deliveries = ds; stop = why }
    → written ≡ map (λ (d : Delivery). d.packet) ds ++ drop (length ds) ledger
    → Drains w budget ledger (Ok (drain_of (length ms) (length ds) why)) v written
unfolding drain_answer drain_words drain_ledger drained
drain-done S w budget ledger v written ms ds why z e r x =
    let whole : drain_from (shape w) budget (length ledger) w ≡ record { words = v; moves = ms; deliveries = ds; stop = why } =
    ap (λ (T : Shape). drain_from T budget (length ledger) w) (sym e) ∙ r in
    record { says = rw (eq-eqb (network_refusal w) 0 z, whole); leaves = rw (eq-eqb (network_refusal w) 0 z, whole); writes = rw (eq-eqb (network_refusal w) 0 z, whole) x }

-- a Look that is not refused
pub looks : {S : Shape} {w : List ℕ} {n q r : ℕ} → Network S w → r ≡ look_rules S n q → r ≡ 0 → QueueOf S w n q
looks {S} {w} {n} {q} N e z = let (hn, hq) = look-place S n q (sym e ∙ z) in record { network = N; node = hn; queue = hq }

pub looking : (S : Shape) (w : List ℕ) (n q r : ℕ) → r ≡ look_refusal w n q → r ≡ 0 → S ≡ shape w → QueueOf S w n q
unfolding look_refusal
looking S w n q r e z s =
    let (a, b) = neither (network_refusal w) (look_rules (shape w) n q) (sym e ∙ z) in
    let (hn, hq) = look-place (shape w) n q b in
    record {
      network = subst (λ (T : Shape). Network T w) (sym s) (network-passed w a);
      node = subst (λ (T : Shape). n < nodes T) (sym s) hn;
      queue = hq;
    }
