-- Moves that may come in any order (RULES R600 to R616, network/specs/Together.antt). In plain words: of moves that are each permitted in the same network,
-- whose sources differ among themselves and whose targets do, every order is permitted, every order ends in the same words, and each move is answered as it
-- would be at the start. Order: one move after others; moves after moves; any order; where all queues differ; a pair; what M lines show. Assumes nothing.
use Rattle.std.specs.Prelude.{◌≡◌, refl, ◌↔◌, ◌≢◌, cond, ℕ, ◌+◌, ◌≤◌, T, eqb, get_or, Option, None, Some, Ok}
use Rattle.std.proofs.Common.{ap, ap₂, sym, ◌∙◌, subst, arith, eq-eqb}
use mathlib.Core.List.{List, [], ◌∷◌, ◌++◌, map, flat_map, append-nil, append_assoc}
use Rattle.base.specs.Tests.{EachOf}
use Rattle.base.specs.Rearrangement.{count, Rearranged}
use Rattle.base.proofs.Rearrangement.{count_same, count-append, rearranged-each, rearranged-flat}
use Rattle.base.proofs.Different.{different-exactly}
use Rattle.network.specs.declared.NamedMove.{NamedMove}
use Rattle.network.specs.Sizes.{Shape}
use Rattle.network.specs.Layout.{shape, held}
use Rattle.network.specs.CheckLaws.{Network}
use Rattle.network.specs.Routes.{deliver}
use Rattle.network.specs.Refusals.{network_refusal, move_rules, move_refusal, head}
use Rattle.network.specs.RefusalLaws.{Permitted}
use Rattle.network.proofs.RefusalLaws.{network-passed, neither, else_by-zero, permitted-of, permitted-by}
use Rattle.network.specs.Calls.{Delivery, move_answer, moved_packets, Answer}
use Rattle.network.proofs.CallLaws.{torus, move-call}
use Rattle.network.specs.Choices.{Permits}
use Rattle.network.specs.Run.{move, outcome, run, Leads, Demand3}
use Rattle.network.specs.InLists.{as_moves}
use Rattle.network.proofs.InListsLaws.{leads-is}
use Rattle.network.specs.Together.{Place, same_place?, source, targets, sources, all_targets, queues_differ, sources_differ, targets_differ, Apart, outputs_differ, answered, moved, EitherOrder, same_move?, same_delivery?, answers, AnyOrder}
use Rattle.network.specs.TogetherLaws.{AfterAll}
use Rattle.network.proofs.TogetherLaws.{sources-append, targets-append, differ-apart, after_none, same_head, still-permitted, after-one-more, apart-rearranged, same_end, same_target, outputs-differ}
use Rattle.run.specs.Theorem.{demand3}

-- One move after others -------------------------------------------------------------------------------------------------------------------

-- a permitted move, as facts about its queue and its output
permitted-in : (w : List ℕ) (m : NamedMove) → Permits w m → Permitted (shape w) w m.node m.queue m.output
unfolding move_refusal
permitted-in w m e =
    permitted-of (shape w) w m.node m.queue m.output (neither (network_refusal w) (move_rules (shape w) w m.node m.queue m.output) e).1

-- and back, in a network v with the sizes of w
permits-in : (S : Shape) (v : List ℕ) (m : NamedMove) → network_refusal v ≡ 0 → shape v ≡ S → Permitted S v m.node m.queue m.output → Permits v m
unfolding move_refusal
permits-in S v m e s P =
    else_by-zero (network_refusal v) (move_rules (shape v) v m.node m.queue m.output) e
    ∙ permitted-by (shape v) v m.node m.queue m.output (rw s P)

-- its answer is by the head of its queue
answer-is : (w : List ℕ) (m : NamedMove) → Permits w m
    → answered w m ≡ Ok (cond (eqb m.output deliver) (Some (head (held (shape w) w m.node m.queue))) None)
unfolding move_answer
answer-is w m e = rw (eq-eqb (move_refusal w m.node m.queue m.output) 0 e)

-- the words that it leaves are a network
moved-network : (w : List ℕ) (m : NamedMove) → network_refusal w ≡ 0 → network_refusal (moved w m) ≡ 0
unfolding Demand3 run outcome
moved-network w m e = (demand3 w (move m ∷ []) e).still-a-network

-- a move that is permitted in w, made in words v that moves `done` have led to, none of which has its source or one of its targets
record Next (w v : List ℕ) (done : List NamedMove) (m : NamedMove) : Type 0 where
  permitted : Permits v m
  same_answer : answered v m ≡ answered w m
  network : network_refusal (moved v m) ≡ 0
  after : AfterAll (shape w) w (done ++ (m ∷ [])) (moved v m)

next : (w v : List ℕ) (done : List NamedMove) (m : NamedMove) → network_refusal w ≡ 0 → network_refusal v ≡ 0 → AfterAll (shape w) w done v → Permits w m
    → count same_place? (source m) (sources done) ≡ 0
    → ((p : Place) → count same_place? p (targets (shape w) m) + count same_place? p (all_targets (shape w) done) ≤ 1)
    → Next w v done m
next w v done m e f A p fresh free =
    record {
      permitted = here;
      same_answer =
          answer-is v m here
          ∙ ap (λ (x : ℕ). Ok (cond (eqb m.output deliver) (Some x) None))
          (ap (λ (S : Shape). head (held S v m.node m.queue)) same_shape ∙ same_head (shape w) w v done m (torus w N) N A P fresh free)
          ∙ sym (answer-is w m p);
      network = moved-network v m f;
      after =
          after-one-more (shape w) w v done m (torus w N) N A P fresh free (moved v m)
          (rw same_shape at (move-call v m.node m.queue m.output here));
    }
  where
    N : Network (shape w) w
    N = network-passed w e

    P : Permitted (shape w) w m.node m.queue m.output
    P = permitted-in w m p

    same_shape : shape v ≡ shape w
    same_shape = A.kept.same_shape

    here : Permits v m
    here = permits-in (shape w) v m f same_shape (still-permitted (shape w) w v done m (torus w N) N A P fresh free)

-- as a call it is one move, and hands out what it answers
one-made : (w : List ℕ) (m : NamedMove) → Permits w m → (outcome (move m) w).moves ≡ m ∷ []
unfolding outcome
one-made w m e = rw (eq-eqb (move_refusal w m.node m.queue m.output) 0 e)

same-handed : (v w : List ℕ) (m : NamedMove) → answered v m ≡ answered w m → (outcome (move m) v).handed_out ≡ (outcome (move m) w).handed_out
unfolding outcome
same-handed v w m e = ap (λ (a : Answer (Option ℕ)). map (λ (p : ℕ). record { node = m.node; packet = p }) (moved_packets a)) e

-- Moves after moves -----------------------------------------------------------------------------------------------------------------------

-- moves ms that are each permitted in w, made in words v that moves `done` have led to
record Later (w v : List ℕ) (done ms : List NamedMove) : Type 0 where
  leads : Leads v ms (run (as_moves ms) v).words
  same-answers : answers v ms ≡ map (answered w) ms
  handed_out : (run (as_moves ms) v).handed_out ≡ flat_map (λ m. (outcome (move m) w).handed_out) ms
  all_made : (run (as_moves ms) v).moves ≡ ms
  after : AfterAll (shape w) w (done ++ ms) (run (as_moves ms) v).words

later : (w v : List ℕ) (done ms : List NamedMove) → network_refusal w ≡ 0 → network_refusal v ≡ 0 → AfterAll (shape w) w done v → EachOf (Permits w) ms
    → ((p : Place) → count same_place? p (sources done) + count same_place? p (sources ms) ≤ 1)
    → ((p : Place) → count same_place? p (all_targets (shape w) done) + count same_place? p (all_targets (shape w) ms) ≤ 1)
    → Later w v done ms
unfolding EachOf Leads answers flat_map run outcome
later w v done [] e f A ps from to =
    record { leads = refl; same-answers = refl; handed_out = refl; all_made = refl; after = rw (append-nil done) A }
later w v done (m ∷ ms) e f A (p, ps) from to =
    go (next w v done m e f A p fresh free) (λ X. later w (moved v m) (done ++ (m ∷ [])) ms e X.network X.after ps from' to')
  where
    fresh : count same_place? (source m) (sources done) ≡ 0
    fresh = let a = from (source m) in let b = count_same same_place? (source m) (source m) (sources ms) refl in omega arith

    free : (p : Place) → count same_place? p (targets (shape w) m) + count same_place? p (all_targets (shape w) done) ≤ 1
    free p = let a = to p in let b = count-append same_place? p (targets (shape w) m) (all_targets (shape w) ms) in omega arith

    from' : (p : Place) → count same_place? p (sources (done ++ (m ∷ []))) + count same_place? p (sources ms) ≤ 1
    from' p = let a = from p in let b = sources-append p done (m ∷ []) in let c = sources-append p (m ∷ []) ms in omega arith

    to' : (p : Place) → count same_place? p (all_targets (shape w) (done ++ (m ∷ []))) + count same_place? p (all_targets (shape w) ms) ≤ 1
    to' p = let a = to p in let b = targets-append (shape w) p done (m ∷ []) in let c = targets-append (shape w) p (m ∷ []) ms in omega arith

    go : Next w v done m → (Next w v done m → Later w (moved v m) (done ++ (m ∷ [])) ms) → Later w v done (m ∷ ms)
    go X rest = join (rest X)
      where
        join : Later w (moved v m) (done ++ (m ∷ [])) ms → Later w v done (m ∷ ms)
        join L =
            record {
              leads = (X.permitted, L.leads);
              same-answers = λ i. X.same_answer i ∷ L.same-answers i;
              handed_out = ap₂ (λ (a b : List Delivery). a ++ b) (same-handed v w m X.same_answer) L.handed_out;
              all_made = ap₂ (λ (a b : List NamedMove). a ++ b) (one-made v m X.permitted) L.all_made;
              after = rw append_assoc at L.after;
            }

-- Any order -------------------------------------------------------------------------------------------------------------------------------

-- all of the moves, from w itself
all_of : (w : List ℕ) (ms : List NamedMove) → network_refusal w ≡ 0 → EachOf (Permits w) ms → Apart (shape w) ms → Later w w [] ms
unfolding sources_differ targets_differ count flat_map
all_of w ms e ps d =
    later w w [] ms e e (after_none (shape w) w (network-passed w e)) ps
    (λ p. let l = (different-exactly same_place? (sources ms)).0 d.from p in omega arith)
    (λ p. let l = (different-exactly same_place? (all_targets (shape w) ms)).0 d.to p in omega arith)

-- R612, R613: the words after them, in which no order is left
pub words-after : (w : List ℕ) (ms : List NamedMove) → network_refusal w ≡ 0 → EachOf (Permits w) ms → Apart (shape w) ms
    → AfterAll (shape w) w ms (run (as_moves ms) w).words
words-after w ms e ps d = (all_of w ms e ps d).after

-- R604, R607 to R610: every order of moves that are apart
pub apart-any-order : (w : List ℕ) (ms ns : List NamedMove) → network_refusal w ≡ 0 → EachOf (Permits w) ms → Apart (shape w) ms → Rearranged same_move? ms ns
    → AnyOrder w ms ns
unfolding Rearranged
apart-any-order w ms ns e ps d r =
    by (all_of w ms e ps d) (all_of w ns e (rearranged-each same_move? (Permits w) ms ns r ps) (apart-rearranged (shape w) ms ns r d))
  where
    by : Later w w [] ms → Later w w [] ns → AnyOrder w ms ns
    by A B =
        record {
          leads = subst (Leads w ns) same B.leads;
          same-answers = B.same-answers;
          handed_out =
              λ a.
              ap (count same_delivery? a) B.handed_out
              ∙ sym (rearranged-flat same_move? same_delivery? (λ m. (outcome (move m) w).handed_out) ms ns r a)
              ∙ ap (count same_delivery? a) (sym A.handed_out);
          all_made = B.all_made;
          all_told = ((leads-is w ns (run (as_moves ns) w).words).0 B.leads).0;
          same-words = same;
        }
      where
        same : (run (as_moves ns) w).words ≡ (run (as_moves ms) w).words
        same = sym (same_end (shape w) w (run (as_moves ms) w).words (run (as_moves ns) w).words ms ns r d A.after B.after)

-- R603: of moves whose sources and targets are all different
pub any-order-together : (w : List ℕ) (ms ns : List NamedMove) → network_refusal w ≡ 0 → EachOf (Permits w) ms → T (queues_differ (shape w) ms)
    → Rearranged same_move? ms ns → AnyOrder w ms ns
any-order-together w ms ns e ps t r = apart-any-order w ms ns e ps (differ-apart (shape w) ms t) r

-- A pair of moves -------------------------------------------------------------------------------------------------------------------------

exchanged : (a b : NamedMove) → Rearranged same_move? (a ∷ b ∷ []) (b ∷ a ∷ [])
unfolding Rearranged count
exchanged a b m = omega arith

-- R606, of moves that are apart, and of moves whose sources and targets are all different
pub apart-either-order : (w : List ℕ) (a b : NamedMove) → network_refusal w ≡ 0 → Permits w a → Permits w b → Apart (shape w) (a ∷ b ∷ []) → EitherOrder w a b
unfolding EachOf Rearranged Leads answers run outcome
apart-either-order w a b e p q d =
    by (apart-any-order w (a ∷ b ∷ []) (a ∷ b ∷ []) e (p, (q, tt)) d (λ m. refl)) (apart-any-order w (a ∷ b ∷ []) (b ∷ a ∷ []) e (p, (q, tt)) d (exchanged a b))
  where
    by : AnyOrder w (a ∷ b ∷ []) (a ∷ b ∷ []) → AnyOrder w (a ∷ b ∷ []) (b ∷ a ∷ []) → EitherOrder w a b
    by A B =
        record {
          b-permitted = A.leads.1.0;
          a-permitted = B.leads.1.0;
          same-words = sym B.leads.1.1;
          b-answer = ap (λ (l : List (Answer (Option ℕ))). get_or l 1 (Ok None)) A.same-answers;
          a-answer = ap (λ (l : List (Answer (Option ℕ))). get_or l 1 (Ok None)) B.same-answers;
        }

pub either_order : (w : List ℕ) (a b : NamedMove) → network_refusal w ≡ 0 → Permits w a → Permits w b → T (queues_differ (shape w) (a ∷ b ∷ []))
    → EitherOrder w a b
either_order w a b e p q t = apart-either-order w a b e p q (differ-apart (shape w) (a ∷ b ∷ []) t)

-- What M lines show -----------------------------------------------------------------------------------------------------------------------

-- R614: in a network two moves by outputs above 0 have the same target exactly if they have the same node and the same output
pub same-target-in : (w : List ℕ) (a b : NamedMove) → network_refusal w ≡ 0 → a.output ≢ deliver → b.output ≢ deliver
    → (targets (shape w) a ≡ targets (shape w) b) ↔ ((a.node ≡ b.node) × (a.output ≡ b.output))
same-target-in w a b e x y = same_target (shape w) a b (torus w (network-passed w e)) x y

-- so moves may come in any order if no two of them name the same node and queue, and no two the same node and output, but for output 0
pub lines-any-order : (w : List ℕ) (ms ns : List NamedMove) → network_refusal w ≡ 0 → EachOf (Permits w) ms → T (sources_differ ms) → T (outputs_differ ms)
    → Rearranged same_move? ms ns → AnyOrder w ms ns
lines-any-order w ms ns e ps s t r =
    apart-any-order w ms ns e ps (record { from = s; to = rw (outputs-differ (shape w) ms (torus w (network-passed w e))) t }) r
