-- Every call answers by the first of its tests that applies (FirstRule.antt). Order: lists of tests joined; no test, one test, two chains; the numbers in order;
-- Make; Check; Offer; Move; Credit; Look; First and Drain. Assumes nothing.
use Rattle.std.specs.Prelude.{◌≡◌, refl, ◌⊎◌, ◌↔◌, ◌≢◌, Bool, true, false, not, ◌&&◌, ◌||◌, List, [], ◌∷◌, ◌++◌, ℕ, suc, ◌<◌, ◌≤◌, T, leb, ltb, eqb, length}
use Rattle.std.proofs.Common.{ap, sym, ◌∙◌, inl, inr, arith, eq-eqb, leb→le, le→leb, ltb→lt, lt→ltb, eqb→eq, T_not}
use Rattle.std.proofs.Math.Decide.{ℕ_discrete}
use Rattle.std.proofs.lemmas.Bool.{lt-leb}
use Rattle.std.proofs.Math.Dec.{eqb_refl, not_T, nleb→lt}
use Rattle.base.specs.Tests.{elem}
use Rattle.base.proofs.Tests.{or_l, or_r, or-e}
use Rattle.network.specs.Sizes.{Shape, within, sizes_in_range, most_chunks, nodes, queues, injection_queue, capacity}
use Rattle.network.specs.Layout.{shape, header_words, need, held, load, taken, accepted}
use Rattle.network.proofs.LayoutLaws.{taken-length}
use Rattle.network.specs.Check.{is_network, most_accepted}
use Rattle.network.specs.Routes.{routes, deliver, free_load}
use Rattle.network.specs.Refusals.{refuse, else_by, head, network_refusal, make_refusal, offer_rules, offer_refusal, flow_rules, move_rules, move_refusal, credit_rules, credit_refusal, look_rules, look_refusal}
use Rattle.network.proofs.RefusalLaws.{else_by-zero, else_by-first}
use Rattle.network.specs.FlowControl.{Enters, ByFree}
use Rattle.network.proofs.FlowControlLaws.{flow-by-free}
use Rattle.network.specs.Calls.{move_answer, moved_number, credit_answer, credit_number, first_answer, found_number, drain_answer, drained_number}
use Rattle.network.proofs.Answers.{move-tells, credit-tells, first-tells, drain-tells}
use Rattle.network.specs.FirstRule.{Test, test, NoneApplies, Breaks, FirstRule, make_tests, network_tests, offer_tests, flow_tests, move_tests, credit_tests, look_tests, InOrder}

-- Lists of tests joined -----------------------------------------------------------------------------------------------------------------

breaks-left : (r : ℕ) (ts us : List Test) → Breaks r ts → Breaks r (ts ++ us)
unfolding Breaks
breaks-left r [] us b = absurd b
breaks-left r (t ∷ ts) us (inl b) = inl b
breaks-left r (t ∷ ts) us (inr b) = inr (b.0, breaks-left r ts us b.1)

breaks-right : (r : ℕ) (ts us : List Test) → NoneApplies ts → Breaks r us → Breaks r (ts ++ us)
unfolding Breaks NoneApplies
breaks-right r [] us n b = b
breaks-right r (t ∷ ts) us n b = inr (n.0, breaks-right r ts us n.1 b)

breaks-either : (r : ℕ) (ts us : List Test) → Breaks r (ts ++ us) → Breaks r ts ⊎ (NoneApplies ts × Breaks r us)
unfolding Breaks NoneApplies
breaks-either r [] us b = inr (tt, b)
breaks-either r (t ∷ ts) us (inl b) = inl (inl b)
breaks-either r (t ∷ ts) us (inr b) = go (breaks-either r ts us b.1)
  where
    go : Breaks r ts ⊎ (NoneApplies ts × Breaks r us) → Breaks r (t ∷ ts) ⊎ (NoneApplies (t ∷ ts) × Breaks r us)
    go (inl c) = inl (inr (b.0, c))
    go (inr c) = inr ((b.0, c.0), c.1)

none-joined : (ts us : List Test) → NoneApplies ts → NoneApplies us → NoneApplies (ts ++ us)
unfolding NoneApplies
none-joined [] us a b = b
none-joined (t ∷ ts) us a b = (a.0, none-joined ts us a.1 b)

none_apart : (ts us : List Test) → NoneApplies (ts ++ us) → NoneApplies ts × NoneApplies us
unfolding NoneApplies
none_apart [] us a = (tt, a)
none_apart (t ∷ ts) us a = let (b, c) = none_apart ts us a.1 in ((a.0, b), c)

-- No test, one test, two chains -----------------------------------------------------------------------------------------------------------

above : (r : ℕ) → 0 < r → 0 ≡ r → ⊥
above r h e = omega arith

pub no_test : FirstRule [] 0
unfolding Breaks NoneApplies
no_test = record { refused = λ r h. ((λ e. above r h e), (λ b. absurd b)); passed = ((λ e. tt), (λ n. refl)) }

-- a test that applies exactly where P holds, and behind it tests whose first gives `later` where it does not apply
pub one-test : (b : Bool) (k : ℕ) (P : Type 0) (ts : List Test) (later : ℕ) → T b ↔ P → (T (not b) → FirstRule ts later)
    → FirstRule (test (suc k) P ∷ ts) (refuse b (suc k) later)
unfolding Breaks NoneApplies
one-test true k P ts later is rest =
    record {
      refused = λ r h. ((λ e. inl (e, is.0 tt)), (λ b. first r b));
      passed = ((λ e. absurd (above (suc k) (omega arith) (sym e))), (λ n. absurd (n.0 (is.0 tt))));
    }
  where
    first : (r : ℕ) → ((suc k ≡ r) × P) ⊎ ((P → ⊥) × Breaks r ts) → suc k ≡ r
    first r (inl b) = b.0
    first r (inr b) = absurd (b.0 (is.0 tt))
one-test false k P ts later is rest =
    record {
      refused = λ r h. ((λ e. inr ((λ p. is.1 p), ((rest tt).refused r h).0 e)), (λ b. behind r h b));
      passed = ((λ e. ((λ p. is.1 p), (rest tt).passed.0 e)), (λ n. (rest tt).passed.1 n.1));
    }
  where
    behind : (r : ℕ) → 0 < r → ((suc k ≡ r) × P) ⊎ ((P → ⊥) × Breaks r ts) → later ≡ r
    behind r h (inl b) = absurd (is.1 b.1)
    behind r h (inr b) = ((rest tt).refused r h).1 b.1

-- earlier tests, and behind them others
pub two-chains : (ts us : List Test) (earlier later : ℕ) → FirstRule ts earlier → (earlier ≡ 0 → FirstRule us later) → FirstRule (ts ++ us) (else_by earlier later)
two-chains ts us earlier later F rest = go (ℕ_discrete earlier 0)
  where
    go : Dec (earlier ≡ 0) → FirstRule (ts ++ us) (else_by earlier later)
    go (yes z) =
        rw (else_by-zero earlier later z)
        (record {
          refused = λ r h. ((λ e. breaks-right r ts us (F.passed.0 z) (((rest z).refused r h).0 e)), (λ b. later_first r h (breaks-either r ts us b)));
          passed = ((λ e. none-joined ts us (F.passed.0 z) ((rest z).passed.0 e)), (λ n. (rest z).passed.1 (none_apart ts us n).1));
        })
      where
        later_first : (r : ℕ) → 0 < r → Breaks r ts ⊎ (NoneApplies ts × Breaks r us) → later ≡ r
        later_first r h (inl b) = absurd (above r h (sym z ∙ (F.refused r h).1 b))
        later_first r h (inr b) = ((rest z).refused r h).1 b.1
    go (no ne) =
        rw (else_by-first earlier later ne)
        (record {
          refused = λ r h. ((λ e. breaks-left r ts us ((F.refused r h).0 e)), (λ b. earlier-first r h (breaks-either r ts us b)));
          passed = ((λ e. absurd (ne e)), (λ n. absurd (ne (F.passed.1 (none_apart ts us n).0))));
        })
      where
        earlier-first : (r : ℕ) → 0 < r → Breaks r ts ⊎ (NoneApplies ts × Breaks r us) → earlier ≡ r
        earlier-first r h (inl b) = (F.refused r h).1 b
        earlier-first r h (inr b) = absurd (ne (F.passed.1 b.0))

-- The numbers in order --------------------------------------------------------------------------------------------------------------------

pub in_order : (S : Shape) (w : List ℕ) (n q o destination chunks : ℕ) → InOrder S w n q o destination chunks
in_order S w n q o destination chunks = record { make = refl; check = refl; offer = refl; move = refl; credit = refl; look = refl }

-- Facts that a test finds -----------------------------------------------------------------------------------------------------------------

pub is-less : (a b : ℕ) → T (ltb a b) ↔ (a < b)
is-less a b = (ltb→lt a b, lt→ltb a b)

pub is-most : (a b : ℕ) → T (leb a b) ↔ (a ≤ b)
is-most a b = (leb→le a b, le→leb a b)

pub is_same : (a b : ℕ) → T (eqb a b) ↔ (a ≡ b)
is_same a b = (eqb→eq a b, λ e. rw e (eqb_refl b))

pub fails : (b : Bool) → T (not b) ↔ (T b → ⊥)
fails b = (T_not b, not_T b)

pub one_of : (a b : Bool) (A B : Type 0) → T a ↔ A → T b ↔ B → T (a || b) ↔ (A ⊎ B)
one_of a b A B x y = ((λ t. of (or-e a b t)), by)
  where
    of : T a ⊎ T b → A ⊎ B
    of (inl t) = inl (x.0 t)
    of (inr t) = inr (y.0 t)

    by : A ⊎ B → T (a || b)
    by (inl t) = or_l a b (x.1 t)
    by (inr t) = or_r a b (y.1 t)

is-outside : (least most n : ℕ) → T (not (within least most n)) ↔ ((n < least) ⊎ (most < n))
unfolding within
is-outside least most n = (of (leb least n) (leb n most) (nleb→lt least n) (nleb→lt n most), by)
  where
    of : (a b : Bool) → (T (not a) → n < least) → (T (not b) → most < n) → T (not (a && b)) → (n < least) ⊎ (most < n)
    of true b x y t = inr (y t)
    of false b x y t = inl (x tt)

    by : (n < least) ⊎ (most < n) → T (not (leb least n && leb n most))
    by (inl l) = rw (lt-leb least n l) tt
    by (inr l) = rw (lt-leb n most l) (either (leb least n))
      where
        either : (a : Bool) → T (not (a && false))
        either true = tt
        either false = tt

is_none : (ps : List ℕ) → T (eqb (length ps) 0) ↔ (ps ≡ [])
is_none [] = ((λ t. refl), (λ e. tt))
is_none (p ∷ ps) = ((λ t. absurd (none (eqb→eq (suc (length ps)) 0 t))), (λ e. absurd (none (ap length e))))
  where
    none : suc (length ps) ≡ 0 → ⊥
    none z = omega arith

-- Make, Check and Offer -------------------------------------------------------------------------------------------------------------------

pub make-first : (S : Shape) (w : List ℕ) → FirstRule (make_tests S w) (make_refusal S w)
unfolding make_refusal
make-first S w =
    one-test (not (sizes_in_range S)) 1 _ _ _ (fails (sizes_in_range S))
    (λ t. one-test (ltb (length w) (need S)) 0 _ _ _ (is-less (length w) (need S)) (λ s. no_test))

pub check-first : (w : List ℕ) → FirstRule (network_tests w) (network_refusal w)
unfolding network_refusal
check-first w =
    one-test (ltb (length w) header_words) 0 _ _ _ (is-less (length w) header_words)
    (λ a. one-test (not (sizes_in_range (shape w))) 1 _ _ _ (fails (sizes_in_range (shape w)))
    (λ b. one-test (ltb (length w) (need (shape w))) 0 _ _ _ (is-less (length w) (need (shape w)))
    (λ c. one-test (not (is_network (shape w) w)) 2 _ _ _ (fails (is_network (shape w) w)) (λ d. no_test))))

pub offer-first : (w : List ℕ) (n destination chunks : ℕ)
    → FirstRule (network_tests w ++ offer_tests w n destination chunks) (offer_refusal w n destination chunks)
unfolding offer_refusal offer_rules capacity
offer-first w n destination chunks =
    two-chains (network_tests w) (offer_tests w n destination chunks) (network_refusal w) (offer_rules S w n destination chunks) (check-first w)
    (λ z.
    one-test (leb (nodes S) n || leb (nodes S) destination) 3 _ _ _
    (one_of (leb (nodes S) n) (leb (nodes S) destination) (nodes S ≤ n) (nodes S ≤ destination) (is-most (nodes S) n) (is-most (nodes S) destination))
    (λ a. one-test (not (within 1 most_chunks chunks)) 1 _ _ _ (is-outside 1 most_chunks chunks)
    (λ b. one-test (eqb n destination) 13 _ _ _ (is_same n destination)
    (λ c. one-test (eqb (accepted w) most_accepted) 7 _ _ _ (is_same (accepted w) most_accepted)
    (λ d. one-test (eqb (taken S w n injection_queue) (capacity S injection_queue)) 6 _ _ _ full (λ e. no_test))))))
  where
    S : Shape
    S = shape w

    full : T (eqb (taken S w n injection_queue) (capacity S injection_queue)) ↔ (length (held S w n injection_queue) ≡ S.injection)
    full = rw (taken-length S w n injection_queue refl) (is_same (length (held S w n injection_queue)) S.injection)

-- Move ------------------------------------------------------------------------------------------------------------------------------------

-- 11 and 12 as two tests, where there is a target and where there is none
flow-tests : (o free takes : ℕ) (Entering : Type 0) (told : ℕ) → o ≢ 0 → ByFree free takes Entering told
    → FirstRule (test 11 ((o ≢ 0) × (free < takes)) ∷ test 12 ((o ≢ 0) × (free ≡ takes) × Entering) ∷ []) told
unfolding Breaks NoneApplies
flow-tests o free takes Entering told ne f =
    record {
      refused = λ r h. (told-so r h (ℕ_discrete told 11) (ℕ_discrete told 12), so-told r);
      passed = (
        (λ z. ((λ p. other 11 z (f.no-slot.1 p.1) (λ e. omega (arith, e))), ((λ p. other 12 z (f.no-bubble.1 (p.1, p.2)) (λ e. omega (arith, e))), tt))),
        (λ n. f.neither (λ e. n.0 (ne, f.no-slot.0 e)) (λ e. let (s, en) = f.no-bubble.0 e in n.1.0 (ne, s, en))),
      );
    }
  where
    other : (k : ℕ) → told ≡ 0 → told ≡ k → 0 ≢ k → ⊥
    other k x y apart = apart (sym x ∙ y)

    told-so : (r : ℕ) → 0 < r → Dec (told ≡ 11) → Dec (told ≡ 12) → told ≡ r
        → Breaks r (test 11 ((o ≢ 0) × (free < takes)) ∷ test 12 ((o ≢ 0) × (free ≡ takes) × Entering) ∷ [])
    told-so r h (yes a) b e = inl (sym a ∙ e, (ne, f.no-slot.0 a))
    told-so r h (no a) (yes b) e = inr ((λ p. a (f.no-slot.1 p.1)), inl (sym b ∙ e, let (s, en) = f.no-bubble.0 b in (ne, s, en)))
    told-so r h (no a) (no b) e = absurd (above r h (sym (f.neither a b) ∙ e))

    so-told : (r : ℕ) → Breaks r (test 11 ((o ≢ 0) × (free < takes)) ∷ test 12 ((o ≢ 0) × (free ≡ takes) × Entering) ∷ []) → told ≡ r
    so-told r (inl p) = f.no-slot.1 p.1.1 ∙ p.0
    so-told r (inr p) = go p.1
      where
        go : Breaks r (test 12 ((o ≢ 0) × (free ≡ takes) × Entering) ∷ []) → told ≡ r
        go (inl b) = f.no-bubble.1 (b.1.1, b.1.2) ∙ b.0
        go (inr b) = absurd b.1

no_target : (o free takes : ℕ) (Entering : Type 0) → o ≡ 0
    → FirstRule (test 11 ((o ≢ 0) × (free < takes)) ∷ test 12 ((o ≢ 0) × (free ≡ takes) × Entering) ∷ []) 0
unfolding Breaks NoneApplies
no_target o free takes Entering z =
    record {
      refused = λ r h. ((λ e. absurd (above r h e)), nothing r);
      passed = ((λ e. ((λ p. p.0 z), ((λ p. p.0 z), tt))), (λ n. refl));
    }
  where
    nothing : (r : ℕ) → Breaks r (test 11 ((o ≢ 0) × (free < takes)) ∷ test 12 ((o ≢ 0) × (free ≡ takes) × Entering) ∷ []) → 0 ≡ r
    nothing r (inl p) = absurd (p.1.0 z)
    nothing r (inr p) = go p.1
      where
        go : Breaks r (test 12 ((o ≢ 0) × (free ≡ takes) × Entering) ∷ []) → 0 ≡ r
        go (inl b) = absurd (b.1.0 z)
        go (inr b) = absurd b.1

flow-first : (S : Shape) (w : List ℕ) (n q o : ℕ) → o < queues → FirstRule (flow_tests S w n q o) (flow_rules S w n q o (head (held S w n q)))
unfolding flow_rules
flow-first S w n q o h = go (ℕ_discrete o deliver)
  where
    go : Dec (o ≡ deliver) → FirstRule (flow_tests S w n q o) (flow_rules S w n q o (head (held S w n q)))
    go (yes e) = rw (eq-eqb o deliver e) (no_target o (free_load S w n o) (load o (head (held S w n q))) (Enters q o) e)
    go (no ne) = flow-tests o (free_load S w n o) (load o (head (held S w n q))) (Enters q o) (flow_rules S w n q o (head (held S w n q))) ne (flow-by-free S w n q o (head (held S w n q)) h ne)

pub move-first : (w : List ℕ) (n q o : ℕ) → FirstRule (network_tests w ++ move_tests w n q o) (moved_number (move_answer w n q o))
unfolding move_refusal move_rules
move-first w n q o =
    rw (move-tells w n q o).number
    (two-chains (network_tests w) (move_tests w n q o) (network_refusal w) (move_rules S w n q o) (check-first w)
    (λ z.
    one-test (leb (nodes S) n) 3 _ _ _ (is-most (nodes S) n)
    (λ a. one-test (leb queues q) 4 _ _ _ (is-most queues q)
    (λ b. one-test (leb queues o) 5 _ _ _ (is-most queues o)
    (λ c. one-test (eqb (length (held S w n q)) 0) 8 _ _ _ (is_none (held S w n q))
    (λ d. one-test (not (elem o (routes q (head (held S w n q))))) 9 _ _ _ (fails (elem o (routes q (head (held S w n q)))))
    (λ e. flow-first S w n q o (nleb→lt queues o c))))))))
  where
    S : Shape
    S = shape w

-- Credit and Look -------------------------------------------------------------------------------------------------------------------------

pub credit-first : (w : List ℕ) (n o : ℕ) → FirstRule (network_tests w ++ credit_tests w n o) (credit_number (credit_answer w n o))
unfolding credit_refusal credit_rules
credit-first w n o =
    rw (credit-tells w n o).number
    (two-chains (network_tests w) (credit_tests w n o) (network_refusal w) (credit_rules (shape w) n o) (check-first w)
    (λ z.
    one-test (leb (nodes (shape w)) n) 3 _ _ _ (is-most (nodes (shape w)) n)
    (λ a. one-test (eqb o deliver || leb queues o) 5 _ _ _ (one_of (eqb o deliver) (leb queues o) (o ≡ deliver) (queues ≤ o) (is_same o deliver) (is-most queues o))
    (λ b. no_test))))

pub look-first : (w : List ℕ) (n q : ℕ) → FirstRule (network_tests w ++ look_tests w n q) (look_refusal w n q)
unfolding look_refusal look_rules
look-first w n q =
    two-chains (network_tests w) (look_tests w n q) (network_refusal w) (look_rules (shape w) n q) (check-first w)
    (λ z.
    one-test (leb (nodes (shape w)) n) 3 _ _ _ (is-most (nodes (shape w)) n)
    (λ a. one-test (leb queues q) 4 _ _ _ (is-most queues q) (λ b. no_test)))

-- First and Drain -------------------------------------------------------------------------------------------------------------------------

pub first-first : (w : List ℕ) → FirstRule (network_tests w) (found_number (first_answer w))
first-first w = rw (first-tells w).number (check-first w)

pub drain-first : (w : List ℕ) (budget room : ℕ) → FirstRule (network_tests w) (drained_number (drain_answer w budget room))
drain-first w budget room = rw (drain-tells w budget room).number (check-first w)
