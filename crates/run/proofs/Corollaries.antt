-- What a reader asks of demand 3. Order: First and an empty network; a Drain that may go on to the end; the hops left by direction; the arbiter's order
-- of moves; the stamps of a dump. Reached.antt has that Make and accepted offers lead to networks. Assumes nothing.
use Rattle.std.specs.Prelude.{◌≡◌, refl, ◌↔◌, List, [], ◌∷◌, ℕ, ◌+◌, ◌<◌, ◌≤◌, length, Option, None, Ok}
use Rattle.std.proofs.Common.{ap, sym, ◌∙◌, arith, eq-eqb}
use Rattle.std.proofs.Math.Decide.{ℕ_discrete}
use Rattle.network.specs.declared.NamedMove.{NamedMove}
use Rattle.network.specs.declared.Stop.{Stop}
use Rattle.network.specs.declared.Drained.{Drained}
use Rattle.std.specs.Result.{result_unwrap_or}
use Rattle.base.specs.Sums.{sum_of, sum_below}
use Rattle.base.proofs.Sums.{sum-zero}
use Rattle.network.specs.Sizes.{Shape, nodes, queues, directions}
use Rattle.network.specs.Layout.{shape, held, total, moves_made}
use Rattle.network.proofs.LayoutLaws.{total-zero}
use Rattle.network.specs.Check.{packets_held, work_left}
use Rattle.network.specs.CheckLaws.{Network}
use Rattle.network.specs.Refusals.{network_refusal}
use Rattle.network.specs.RefusalLaws.{Permitted}
use Rattle.network.proofs.RefusalLaws.{network-passed}
use Rattle.network.specs.FirstLaws.{Finds, nothing, named}
use Rattle.network.proofs.FirstLaws.{first_finds, first-nothing}
use Rattle.network.proofs.FirstMovesLaws.{held-some}
use Rattle.network.specs.Calls.{Progress, first_move, first_answer, drain_from, drained, drain_answer, drained_moves, drain_of, Answer}
use Rattle.network.proofs.CallLaws.{torus}
use Rattle.network.specs.Run.{Call, drain, outcome, run, is_labelled, held_with, handed_with, hops_with, Demand3}
use Rattle.run.specs.Step.{Ran}
use Rattle.run.specs.Alive.{PermittedMove, alive}
use Rattle.run.specs.DrainMoves.{drain-ran}
use Rattle.run.specs.Stops.{StopReason, nothing-held, budget-used, ledger-full, drain-why}
use Rattle.run.specs.Theorem.{no-work, no-packets, run-made, demand3}
use Rattle.run.specs.Reached.{offer-network, offer-moves}
use Rattle.run.specs.Corollaries.{SameInTheEnd, Event, ran, offered, event_words, event_moves, later_words, moves_between, Counted}

-- R124: First says none exactly when nothing is held
pub first-none-when-empty : (w : List ℕ) → network_refusal w ≡ 0 → (first_answer w ≡ Ok None) ↔ (packets_held (shape w) w ≡ 0)
unfolding first_answer
first-none-when-empty w e = rw (eq-eqb (network_refusal w) 0 e) (
  (λ e'. empty (ap (λ (x : Answer (Option NamedMove)). result_unwrap_or x None) e') (ℕ_discrete (packets_held (shape w) w) 0)),
  (λ z. ap (λ (x : Option NamedMove). Ok x) (none z (first_move (shape w) w) (first_finds (shape w) w))),
)
  where
    N : Network (shape w) w
    N = network-passed w e

    empty : first_move (shape w) w ≡ None → Dec (packets_held (shape w) w ≡ 0) → packets_held (shape w) w ≡ 0
    empty none (yes z) = z
    empty none (no ne) =
        let s : PermittedMove (shape w) w = alive (shape w) w (torus w N) N ne in
        absurd (first-nothing (shape w) w none s.node s.queue s.output s.permitted)

    none : packets_held (shape w) w ≡ 0 → (f : Option NamedMove) → Finds (Permitted (shape w) w) f → f ≡ None
    none z f nothing = refl
    none z f (named {n} {q} {o} P) = absurd (held-some (shape w) w n q o P z)

-- a Drain with a budget of at least the work left and a ledger of at least the packets held stops with emptied, and the number of its moves is the
-- work left
pub drain-to-the-end : (w : List ℕ) (budget room : ℕ) → network_refusal w ≡ 0 → work_left (shape w) w ≤ budget → packets_held (shape w) w ≤ room
    → drain_answer w budget room ≡ Ok (drain_of (work_left (shape w) w) (packets_held (shape w) w) Stop.Emptied)
unfolding drain_answer drained
drain-to-the-end w budget room e b l = rw (eq-eqb (network_refusal w) 0 e) (by (drain-why (shape w) (torus w N) budget room w N))
  where
    N : Network (shape w) w
    N = network-passed w e

    r : Progress
    r = drain_from (shape w) budget room w

    ran : Ran (shape w) w r.words r.deliveries (length r.moves)
    ran = drain-ran (shape w) (torus w N) budget room w N

    all : {a b c d : ℕ} {x y : Stop} → a ≡ b → c ≡ d → x ≡ y → ◌≡◌ {A = Answer Drained} (Ok (drain_of a c x)) (Ok (drain_of b d y))
    all p q s = λ i. Ok (drain_of (p i) (q i) (s i))

    by : StopReason (shape w) budget room r
        → ◌≡◌ {A = Answer Drained} (Ok (drain_of (length r.moves) (length r.deliveries) r.stop)) (Ok (drain_of (work_left (shape w) w) (packets_held (shape w) w) Stop.Emptied))
    by (nothing-held s z) =
        let done : work_left (shape w) r.words ≡ 0 = no-packets (shape w) r.words z in
        let x = ran.work-done in
        let y = ran.packets in
        all (omega arith) (omega arith) s
    by (budget-used s ne m) = absurd (ne (no-work (shape w) r.words (let x = ran.work-done in omega arith)))
    by (ledger-full s ne m d k) = absurd (ne (let x = ran.packets in omega arith))

none-with : (S : Shape) (w : List ℕ) (l : ℕ) → packets_held S w ≡ 0 → held_with l S w ≡ 0
unfolding packets_held held_with total sum_of
none-with S w l z =
    sum-zero (nodes S) (λ n. sum_below queues (λ q. sum_of (is_labelled l) (held S w n q)))
    (λ n hn. sum-zero queues (λ q. sum_of (is_labelled l) (held S w n q)) (λ q hq. ap (sum_of (is_labelled l)) (total-zero S w n q z hn hq)))

told-to-the-end : (w : List ℕ) (budget : ℕ) (ledger : List ℕ) → network_refusal w ≡ 0
    → work_left (shape w) w ≤ budget → packets_held (shape w) w ≤ length ledger → (run (drain budget ledger ∷ []) w).told ≡ work_left (shape w) w
unfolding run outcome drained_moves
told-to-the-end w budget ledger e b r = let m = ap drained_moves (drain-to-the-end w budget (length ledger) e b r) in omega arith

-- and it hands out whatever was held, one for the very node where it stands too (R86): of every label as many packets as there were
pub all-handed-out : (w : List ℕ) (budget : ℕ) (ledger : List ℕ) → network_refusal w ≡ 0
    → work_left (shape w) w ≤ budget → packets_held (shape w) w ≤ length ledger
    → (l : ℕ) → handed_with l (run (drain budget ledger ∷ []) w).handed_out ≡ held_with l (shape w) w
unfolding Demand3
all-handed-out w budget ledger e b r l =
    let after = demand3 w (drain budget ledger ∷ []) e in
    let empty = after.emptied-exactly.1 (sym after.moves-told ∙ told-to-the-end w budget ledger e b r) in
    let none = none-with (shape w) (run (drain budget ledger ∷ []) w).words l empty in
    let all = after.none-lost-or-doubled l in
    omega arith

-- R304: over every run the packets of a label have together no more hops left in any direction than before; so where a label is one packet's own,
-- that packet is not turned round. Of a single hop of any packet `hops-hop-le` says it (PacketLaws.antt)
pub no-more-hops : (w : List ℕ) (calls : List Call) → network_refusal w ≡ 0
    → (l d : ℕ) → d < directions → hops_with l d (shape w) (run calls w).words ≤ hops_with l d (shape w) w
no-more-hops w calls e = (run-made calls w (network-passed w e)).ran.no-more-hops

pub any_order : (w : List ℕ) (calls others : List Call) → network_refusal w ≡ 0
    → packets_held (shape w) (run calls w).words ≡ 0 → packets_held (shape w) (run others w).words ≡ 0 → SameInTheEnd (run calls w) (run others w)
unfolding Demand3
any_order w calls others e a b =
    record {
      moves = (demand3 w calls e).emptied-exactly.0 a ∙ sym ((demand3 w others e).emptied-exactly.0 b);
      handed =
          λ l.
          let x = (demand3 w calls e).none-lost-or-doubled l in
          let y = (demand3 w others e).none-lost-or-doubled l in
          let u = none-with (shape w) (run calls w).words l a in
          let v = none-with (shape w) (run others w).words l b in
          omega arith;
    }

event-counted : (e : Event) (w : List ℕ) → network_refusal w ≡ 0 → Counted w (event_words e w) (event_moves e w)
unfolding Demand3 event_words event_moves
event-counted (ran calls) w z =
    let after = demand3 w calls z in
    record { counts = after.moves-made; network = after.still-a-network }
event-counted (offered n destination tag chunks) w z =
    let m = offer-moves w n destination tag chunks in
    record { counts = omega arith; network = offer-network w n destination tag chunks z }

-- R409: a stamp is the moves made (R404), so a later one is the earlier one and the moves made in between
pub stamp-since : (es : List Event) (w : List ℕ) → network_refusal w ≡ 0 → moves_made (later_words es w) ≡ moves_made w + moves_between es w
unfolding later_words moves_between
stamp-since [] w z = omega arith
stamp-since (e ∷ es) w z =
    let c : Counted w (event_words e w) (event_moves e w) = event-counted e w z in
    let now = c.counts in
    let later = stamp-since es (event_words e w) c.network in
    omega arith

-- and never below it
pub stamps-never-fall : (es : List Event) (w : List ℕ) → network_refusal w ≡ 0 → moves_made w ≤ moves_made (later_words es w)
stamps-never-fall es w z = let s = stamp-since es w z in omega arith
