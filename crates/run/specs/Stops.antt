-- Each of Drain's stops has its condition, on every network: theorem `drain-stops` (RULES R130 to R133), of the statement in network/specs/Choices.antt.
-- So a Drain that says emptied has left nothing, in the case of its definition that never comes up too.
-- Order: why moves stopped; one move more; the next move; a whole Drain; the theorem. Assumes nothing.
use Rattle.std.specs.Prelude.{◌≡◌, ◌≢◌, cond, eqb, length, Option, Some, Ok}
use Rattle.std.proofs.Math.Path.{refl}
use Rattle.std.proofs.Common.{ap, sym, ◌∙◌, subst, arith, eq-eqb, ne_eqb, length-append}
use mathlib.Core.List.{List, [], ◌∷◌, ◌++◌}
use Prim.Native.Nat.{ℕ, zero, suc, ◌+◌, ◌<◌}
use Rattle.std.proofs.Math.Decide.{ℕ_discrete}
use Rattle.network.specs.declared.NamedMove.{NamedMove}
use Rattle.network.specs.declared.Stop.{Stop}
use Rattle.network.specs.Sizes.{Shape}
use Rattle.network.specs.TorusLaws.{Torus}
use Rattle.network.specs.Layout.{shape, held}
use Rattle.network.specs.Check.{packets_held}
use Rattle.network.specs.CheckLaws.{Network}
use Rattle.network.specs.Routes.{deliver}
use Rattle.network.specs.Refusals.{network_refusal, head}
use Rattle.network.specs.RefusalLaws.{Permitted}
use Rattle.network.proofs.RefusalLaws.{network-passed, network-passes}
use Rattle.network.specs.FirstLaws.{Finds, nothing, named}
use Rattle.network.proofs.FirstLaws.{first_finds, first-nothing}
use Rattle.network.specs.Calls.{move_of, Delivery, Progress, after_move, first_move, first_answer, stopped, one_more, deliver_next, move_next, drain_from, drained, drain_words, drain_answer, drained_moves, drained_delivered, drained_stop, found_move, drain_of}
use Rattle.network.proofs.CallLaws.{torus}
use Rattle.network.specs.DrainLaws.{Within}
use Rattle.network.proofs.DrainLaws.{drain-within}
use Rattle.network.specs.Choices.{NextDelivers, DrainStops}
use Rattle.run.specs.Step.{Ran, step}
use Rattle.run.specs.Alive.{PermittedMove, alive}
use Rattle.run.specs.DrainMoves.{drain-ran}

-- the first move on is a delivery
pub record Delivers (S : Shape) (w : List ℕ) : Type 0 where
  pub node : ℕ
  pub queue : ℕ
  pub first : first_move S w ≡ Some (move_of node queue deliver)

-- why moves stopped, by the stop that they name
pub data StopReason (S : Shape) (budget room : ℕ) (r : Progress) : Type 0 where
  nothing-held : r.stop ≡ Stop.Emptied → packets_held S r.words ≡ 0 → StopReason S budget room r
  budget-used : r.stop ≡ Stop.Spent → packets_held S r.words ≢ 0 → length r.moves ≡ budget → StopReason S budget room r
  ledger-full : r.stop ≡ Stop.Full → packets_held S r.words ≢ 0 → length r.moves < budget → Delivers S r.words → length r.deliveries ≡ room → StopReason S budget room r

-- one move more, with what it handed out
why-more : (S : Shape) (budget left room : ℕ) (k : NamedMove) (ds : List Delivery) (r : Progress) → length ds + left ≡ room
    → StopReason S budget left r → StopReason S (suc budget) room (one_more k ds r)
unfolding one_more
why-more S budget left room k ds r e (nothing-held s z) = nothing-held s z
why-more S budget left room k ds r e (budget-used s h m) = budget-used s h (ap suc m)
why-more S budget left room k ds r e (ledger-full s h m d l) =
    let a : length (ds ++ r.deliveries) ≡ length ds + length r.deliveries = length-append ds r.deliveries in
    ledger-full s h (omega arith) d (omega arith)

module _ (S : Shape) (tor : Torus S) where
  why-next : (w : List ℕ) (budget room : ℕ) (f : Option NamedMove) (on : ℕ → List ℕ → Progress) → Network S w → packets_held S w ≢ 0 → first_move S w ≡ f
      → Finds (Permitted S w) f → ((left : ℕ) (v : List ℕ) → Network S v → StopReason S budget left (on left v)) → StopReason S (suc budget) room (move_next S w room f on)
  unfolding move_next deliver_next stopped
  why-next w budget room f on N ne e nothing rec =
      let s : PermittedMove S w = alive S w tor N ne in
      absurd (first-nothing S w e s.node s.queue s.output s.permitted)
  why-next w budget room f on N ne e (named {n} {q} {o} P) rec = go (ℕ_discrete o deliver) room
    where
      after : Network S (after_move S w n q o)
      after = (step S w n q o tor N P).network

      delivers : o ≡ deliver → (room' : ℕ) → StopReason S (suc budget) room' (deliver_next S w n q room' on)
      delivers z zero = ledger-full refl ne (omega arith) (record { node = n; queue = q; first = e ∙ ap (λ (x : ℕ). Some (move_of n q x)) z }) refl
      delivers z (suc left) =
          why-more S budget left (suc left) (move_of n q deliver) (record { node = n; packet = head (held S w n q) } ∷ []) (on left (after_move S w n q deliver)) (omega arith)
          (rec left (after_move S w n q deliver) (subst (λ (x : ℕ). Network S (after_move S w n q x)) z after))

      go : Dec (o ≡ deliver) → (room' : ℕ)
          → StopReason S (suc budget) room' (cond (eqb o deliver) (deliver_next S w n q room' on) (one_more (move_of n q o) [] (on room' (after_move S w n q o))))
      go (yes z) room' = rw (eq-eqb o deliver z) (delivers z room')
      go (no ne') room' =
          rw (ne_eqb o deliver ne') (why-more S budget room' room' (move_of n q o) [] (on room' (after_move S w n q o)) (omega arith) (rec room' (after_move S w n q o) after))

  pub drain-why : (budget room : ℕ) (w : List ℕ) → Network S w → StopReason S budget room (drain_from S budget room w)
  unfolding drain_from stopped
  drain-why zero room w N = go (ℕ_discrete (packets_held S w) 0)
    where
      go : Dec (packets_held S w ≡ 0) → StopReason S zero room (cond (eqb (packets_held S w) 0) (stopped w Stop.Emptied) (stopped w Stop.Spent))
      go (yes z) = rw (eq-eqb (packets_held S w) 0 z) (nothing-held refl z)
      go (no ne) = rw (ne_eqb (packets_held S w) 0 ne) (budget-used refl ne refl)
  drain-why (suc budget) room w N = go (ℕ_discrete (packets_held S w) 0) (λ left v M. drain-why budget left v M)
    where
      go : Dec (packets_held S w ≡ 0) → ((left : ℕ) (v : List ℕ) → Network S v → StopReason S budget left (drain_from S budget left v))
          → StopReason S (suc budget) room (cond (eqb (packets_held S w) 0) (stopped w Stop.Emptied) (move_next S w room (first_move S w) (λ room' w'. drain_from S budget room' w')))
      go (yes z) rec = rw (eq-eqb (packets_held S w) 0 z) (nothing-held refl z)
      go (no ne) rec =
          rw (ne_eqb (packets_held S w) 0 ne)
          (why-next w budget room (first_move S w) (λ room' w'. drain_from S budget room' w') N ne refl (first_finds S w) rec)

-- the theorem -------------------------------------------------------------------------------------------------------------------------

-- the stop that is named is one of the three only
stop_code : Stop → ℕ
stop_code Stop.Emptied = 0
stop_code Stop.Spent = 1
stop_code Stop.Full = 2

another : (is s t : Stop) → is ≡ s → stop_code s ≢ stop_code t → ◌≡◌ {A = List Stop} (is ∷ []) (t ∷ []) → ⊥
another is s t e ne h = let same : is ≡ t = cc in ne (ap stop_code (sym e ∙ same))

next-delivers : (v : List ℕ) → Network (shape v) v → Delivers (shape v) v → NextDelivers v
unfolding first_answer found_move
next-delivers v N d =
    record {
      next = move_of d.node d.queue deliver;
      first = rw (eq-eqb (network_refusal v) 0 (network-passes v N)) (ap (λ (x : Option NamedMove). found_move (Ok x)) d.first);
      delivers = refl;
    }

-- each stop with its own condition, and no other's
stops-by : (budget room : ℕ) (r : Progress) → Network (shape r.words) r.words → Within budget room r → StopReason (shape r.words) budget room r
    → DrainStops budget room (Ok (drain_of (length r.moves) (length r.deliveries) r.stop)) r.words
unfolding drained_moves drained_delivered drained_stop stop_code
stops-by budget room r N limits (nothing-held s z) =
    record {
      within-budget = limits.few-moves;
      within-ledger = limits.few-deliveries;
      emptied = ((λ e. z), (λ e. ap (λ (x : Stop). x ∷ []) s));
      spent = ((λ e. absurd (another r.stop Stop.Emptied Stop.Spent s (λ x. omega arith) e)), (λ h. absurd (h.0 z)));
      full = ((λ e. absurd (another r.stop Stop.Emptied Stop.Full s (λ x. omega arith) e)), (λ h. absurd (h.0 z)));
    }
stops-by budget room r N limits (budget-used s ne m) =
    record {
      within-budget = limits.few-moves;
      within-ledger = limits.few-deliveries;
      emptied = ((λ e. absurd (another r.stop Stop.Spent Stop.Emptied s (λ x. omega arith) e)), (λ z. absurd (ne z)));
      spent = ((λ e. (ne, m)), (λ e. ap (λ (x : Stop). x ∷ []) s));
      full = ((λ e. absurd (another r.stop Stop.Spent Stop.Full s (λ x. omega arith) e)), (λ h. absurd (let l = h.1 in omega arith)));
    }
stops-by budget room r N limits (ledger-full s ne m d l) =
    record {
      within-budget = limits.few-moves;
      within-ledger = limits.few-deliveries;
      emptied = ((λ e. absurd (another r.stop Stop.Full Stop.Emptied s (λ x. omega arith) e)), (λ z. absurd (ne z)));
      spent = ((λ e. absurd (another r.stop Stop.Full Stop.Spent s (λ x. omega arith) e)), (λ h. absurd (let x = h.1 in omega arith)));
      full = ((λ e. (ne, m, next-delivers r.words N d, l)), (λ e. ap (λ (x : Stop). x ∷ []) s));
    }

pub drain-stops : (w : List ℕ) (budget room : ℕ) → network_refusal w ≡ 0 → DrainStops budget room (drain_answer w budget room) (drain_words w budget room)
unfolding drain_answer drain_words drained
drain-stops w budget room e =
    rw (eq-eqb (network_refusal w) 0 e)
    (stops-by budget room r (subst (λ (S : Shape). Network S r.words) (sym same) ran.network) (drain-within (shape w) budget room w)
    (subst (λ (S : Shape). StopReason S budget room r) (sym same) (drain-why (shape w) (torus w N) budget room w N)))
  where
    N : Network (shape w) w
    N = network-passed w e

    r : Progress
    r = drain_from (shape w) budget room w

    ran : Ran (shape w) w r.words r.deliveries (length r.moves)
    ran = drain-ran (shape w) (torus w N) budget room w N

    same : shape r.words ≡ shape w
    same = ran.same_shape
