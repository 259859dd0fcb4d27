-- Demand 3 (RULES R210 to R216). In plain words: start from any words that pass the check of a network, and make any list of Moves and Drains, with any
-- arguments, refused ones included. Then every packet held at the start is still held or has been handed out once, at the node that it was addressed to,
-- by a Move's answer or in a Drain's ledger, and nothing else has been handed out; moves made and work left add up to the work there was; the words still
-- pass the check, so each escape ring has a free slot; and while anything is held, some move is permitted. `Demand3` of network/specs/Run.antt says this in
-- full, of the very definitions that the contracts of Move and Drain cite; here is its proof.
-- Order: nothing is held exactly when no work is left; one call; a list of calls; the theorem. Assumes nothing.
use Rattle.std.specs.Prelude.{◌≡◌, refl, ◌≢◌, Bool, true, false, cond, List, [], ◌∷◌, ◌++◌, map, ℕ, ◌+◌, ◌≤◌, eqb, length, Option, None, Some, Ok}
use Rattle.std.proofs.Common.{ap, ap₂, sym, ◌∙◌, subst, arith, eq-eqb, ne_eqb, length-append}
use Rattle.std.proofs.Math.Decide.{ℕ_discrete}
use Rattle.base.specs.Sums.{sum_of, sum_below}
use Rattle.base.proofs.Sums.{sum_of-least, sum-zero}
use Rattle.network.specs.Sizes.{Shape, nodes, queues}
use Rattle.network.specs.Packet.{work}
use Rattle.network.specs.Layout.{shape, held, total}
use Rattle.network.proofs.LayoutLaws.{total-zero, some-held, total-part}
use Rattle.network.specs.Check.{packets_held, work_left}
use Rattle.network.specs.CheckLaws.{Network}
use Rattle.network.specs.Routes.{deliver}
use Rattle.network.specs.Refusals.{network_refusal, move_rules, move_refusal, head}
use Rattle.network.proofs.RefusalLaws.{network-passed, network-passes, neither, else_by-zero, permitted-of, permitted-by}
use Rattle.network.specs.Calls.{move_of, unless_refused, moved_number, Delivery, after_move, move_words, move_answer, moved_packets, drained, drain_words, drain_answer, drained_moves, Answer}
use Rattle.network.proofs.CallLaws.{torus}
use Rattle.network.specs.Run.{Call, move, drain, Outcome, outcome, run, Leads, ledger_of, SomeMove, AfterRun, Demand3}
use Rattle.network.proofs.RunLaws.{drain-handed, run-kept, leads-none, leads_one, leads-append}
use Rattle.run.specs.Step.{Ran, ran-none, ran_then, hands_out, step}
use Rattle.run.specs.Alive.{PermittedMove, alive}
use Rattle.run.specs.DrainMoves.{drain-ran, drain-leads}

-- every packet held is some work
some-work : (ps : List ℕ) → length ps ≤ sum_of work ps
unfolding work
some-work ps = sum_of-least work ps (λ p. omega arith)

work-somewhere : (S : Shape) (w : List ℕ) → packets_held S w ≢ 0 → work_left S w ≡ 0 → ⊥
unfolding packets_held work_left
work-somewhere S w ne z =
    let (n, q, hn, hq, holds) = some-held S w ne in
    let a : length (held S w n q) ≤ sum_of work (held S w n q) = some-work (held S w n q) in
    let b : sum_of work (held S w n q) ≤ total S w (sum_of work) = total-part S w n q (sum_of work) hn hq in
    holds (omega arith)

pub no-work : (S : Shape) (w : List ℕ) → work_left S w ≡ 0 → packets_held S w ≡ 0
no-work S w z = go (ℕ_discrete (packets_held S w) 0)
  where
    go : Dec (packets_held S w ≡ 0) → packets_held S w ≡ 0
    go (yes e) = e
    go (no ne) = absurd (work-somewhere S w ne z)

pub no-packets : (S : Shape) (w : List ℕ) → packets_held S w ≡ 0 → work_left S w ≡ 0
unfolding packets_held work_left total sum_of
no-packets S w z =
    sum-zero (nodes S) (λ n. sum_below queues (λ q. sum_of work (held S w n q)))
    (λ n hn. sum-zero queues (λ q. sum_of work (held S w n q)) (λ q hq. none (held S w n q) (total-zero S w n q z hn hq)))
  where
    none : (ps : List ℕ) → ps ≡ [] → sum_of work ps ≡ 0
    none ps e = ap (sum_of work) e

-- one call: its outcome is that of moves made one after the other, which its answer tells of
pub record Made (w : List ℕ) (r : Outcome) : Type 0 where
  pub ran : Ran (shape w) w r.words r.handed_out (length r.moves)
  pub leads : Leads w r.moves r.words
  pub told : r.told ≡ length r.moves

made_move : (w : List ℕ) (n q o : ℕ) → move_refusal w n q o ≡ 0
    → outcome (move (move_of n q o)) w
    ≡ record {
      words = after_move (shape w) w n q o;
      moves = move_of n q o ∷ [];
      told = 1;
      handed_out = hands_out (shape w) w n q o;
      ledgers = [];
    }
unfolding outcome move_words move_answer hands_out moved_packets moved_number
made_move w n q o e = rw (eq-eqb (move_refusal w n q o) 0 e) (by (eqb o deliver))
  where
    p : ℕ
    p = head (held (shape w) w n q)

    answer : Bool → Answer (Option ℕ)
    answer t = Ok (cond t (Some p) None)

    by : (t : Bool)
        → ◌≡◌ {A = Outcome}
        (record {
          words = after_move (shape w) w n q o;
          moves = move_of n q o ∷ [];
          told = unless_refused (moved_number (answer t)) 1 0;
          handed_out = map (λ (x : ℕ). record { node = n; packet = x }) (moved_packets (answer t));
          ledgers = [];
        })
        (record {
          words = after_move (shape w) w n q o;
          moves = move_of n q o ∷ [];
          told = 1;
          handed_out = cond t (record { node = n; packet = p } ∷ []) [];
          ledgers = [];
        })
    by true = refl
    by false = refl

refused-move : (w : List ℕ) (n q o : ℕ) → move_refusal w n q o ≢ 0
    → outcome (move (move_of n q o)) w ≡ record { words = w; moves = []; told = 0; handed_out = []; ledgers = [] }
unfolding outcome move_words move_answer moved_packets moved_number
refused-move w n q o ne = let e : eqb (move_refusal w n q o) 0 ≡ false = ne_eqb (move_refusal w n q o) 0 ne in rw (e, e)

made-drain : (w : List ℕ) (budget : ℕ) (ledger : List ℕ) → network_refusal w ≡ 0
    → outcome (drain budget ledger) w
    ≡ record {
      words = (drained w budget (length ledger)).words;
      moves = (drained w budget (length ledger)).moves;
      told = length (drained w budget (length ledger)).moves;
      handed_out = (drained w budget (length ledger)).deliveries;
      ledgers = ledger_of w budget ledger ∷ [];
    }
unfolding outcome drain_words drain_answer drained_moves
made-drain w budget ledger e =
    ap
    (λ (ds : List Delivery).
    record {
      words = drain_words w budget (length ledger);
      moves = unless_refused (network_refusal w) (drained w budget (length ledger)).moves [];
      told = drained_moves (drain_answer w budget (length ledger));
      handed_out = ds;
      ledgers = ledger_of w budget ledger ∷ [];
    })
    (drain-handed w budget ledger e)
    ∙ rw (eq-eqb (network_refusal w) 0 e)

pub call-made : (c : Call) (w : List ℕ) → Network (shape w) w → Made w (outcome c w)
unfolding move_refusal drained
call-made (move m) w N = go (ℕ_discrete (move_refusal w n q o) 0)
  where
    n : ℕ
    n = m.node

    q : ℕ
    q = m.queue

    o : ℕ
    o = m.output

    go : Dec (move_refusal w n q o ≡ 0) → Made w (outcome (move m) w)
    go (yes z) =
        rw (made_move w n q o z)
        (record {
          ran = step (shape w) w n q o (torus w N) N (permitted-of (shape w) w n q o (neither (network_refusal w) (move_rules (shape w) w n q o) z).1);
          leads = leads_one w (move_of n q o) z;
          told = refl;
        })
    go (no ne) = rw (refused-move w n q o ne) (record { ran = ran-none (shape w) w N; leads = leads-none w; told = refl })
call-made (drain budget ledger) w N =
    rw (made-drain w budget ledger (network-passes w N))
    (record {
      ran = drain-ran (shape w) (torus w N) budget (length ledger) w N;
      leads = drain-leads (shape w) (torus w N) budget (length ledger) w refl N;
      told = refl;
    })

-- a list of calls
pub run-made : (calls : List Call) (w : List ℕ) → Network (shape w) w → Made w (run calls w)
unfolding run
run-made [] w N = record { ran = ran-none (shape w) w N; leads = leads-none w; told = refl }
run-made (c ∷ calls) w N = join (call-made c w N) (λ M. run-made calls (outcome c w).words M)
  where
    v : List ℕ
    v = (outcome c w).words

    join : Made w (outcome c w) → (Network (shape v) v → Made v (run calls v))
        → Made w
        (record {
          words = (run calls v).words;
          moves = (outcome c w).moves ++ (run calls v).moves;
          told = (outcome c w).told + (run calls v).told;
          handed_out = (outcome c w).handed_out ++ (run calls v).handed_out;
          ledgers = (outcome c w).ledgers ++ (run calls v).ledgers;
        })
    join a later =
        let N' : Network (shape v) v = subst (λ (S : Shape). Network S v) (sym a.ran.same_shape) a.ran.network in
        let b : Made v (run calls v) = later N' in
        let ran : Ran (shape w) v (run calls v).words (run calls v).handed_out (length (run calls v).moves) =
        subst (λ (S : Shape). Ran S v (run calls v).words (run calls v).handed_out (length (run calls v).moves)) a.ran.same_shape b.ran in
        let count : length ((outcome c w).moves ++ (run calls v).moves) ≡ length (outcome c w).moves + length (run calls v).moves =
        length-append (outcome c w).moves (run calls v).moves in
        record {
          ran =
              subst (λ (k : ℕ). Ran (shape w) w (run calls v).words ((outcome c w).handed_out ++ (run calls v).handed_out) k) (sym count)
              (ran_then (shape w) w v (run calls v).words (outcome c w).handed_out (run calls v).handed_out (length (outcome c w).moves) (length (run calls v).moves) a.ran ran);
          leads = leads-append w v (run calls v).words (outcome c w).moves (run calls v).moves a.leads b.leads;
          told = ap₂ (λ (x y : ℕ). x + y) a.told b.told ∙ sym count;
        }

-- the theorem
some-move : (w : List ℕ) → Network (shape w) w → packets_held (shape w) w ≢ 0 → SomeMove w
unfolding move_refusal
some-move w N ne =
    let s : PermittedMove (shape w) w = alive (shape w) w (torus w N) N ne in
    record {
      named = move_of s.node s.queue s.output;
      permitted =
          else_by-zero (network_refusal w) (move_rules (shape w) w s.node s.queue s.output) (network-passes w N)
          ∙ permitted-by (shape w) w s.node s.queue s.output s.permitted;
    }

pub demand3 : Demand3
unfolding Demand3
demand3 w calls e = after (run-made calls w (network-passed w e))
  where
    after : Made w (run calls w) → AfterRun w (run calls w)
    after made =
        let r = made.ran in
        let N : Network (shape (run calls w).words) (run calls w).words =
        subst (λ (S : Shape). Network S (run calls w).words) (sym r.same_shape) r.network in
        record {
          handed-out-at-destination = r.at-destination;
          none-lost-or-doubled = r.labels;
          moves-told = made.told;
          one_by_one = made.leads;
          moves-and-work = r.work-done;
          moves-made = r.moves;
          deliveries-made = r.deliveries;
          still-a-network = network-passes (run calls w).words N;
          goes_on = λ ne. some-move (run calls w).words N (λ z. ne (subst (λ (S : Shape). packets_held S (run calls w).words ≡ 0) r.same_shape z));
          rings-have-room = λ d n hd hn. r.network.ring d n hd hn;
          emptied-exactly = (
            (λ z. let a = r.work-done in let b = no-packets (shape w) (run calls w).words z in omega arith),
            (λ m. no-work (shape w) (run calls w).words (let a = r.work-done in omega arith)),
          );
          same_shape = r.same_shape;
          same_length = r.same_length;
          rest-untouched = r.rest;
          ledgers-kept = run-kept calls w;
        }
