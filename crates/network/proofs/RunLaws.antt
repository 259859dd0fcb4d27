-- Laws of Run.antt about the ledgers. Order: words beside the nodes of their moves; what a Drain writes; what is handed out; the ledger afterwards;
-- the ledgers of a run; moves that lead from words to words.
-- Assumes nothing.
use Rattle.std.specs.Prelude.{◌≡◌, refl, ◌≢◌, ℕ, ◌+◌, ◌-◌, ◌≤◌, take}
use Rattle.std.proofs.Math.Path.{ap, ap₂}
use Rattle.std.proofs.Common.{◌∙◌, arith, eq-eqb, ne_eqb, take_at}
use mathlib.Core.List.{List, [], ◌∷◌, ◌++◌, map}
use Rattle.std.proofs.Math.Decide.{ℕ_discrete}
use Rattle.std.proofs.Math.ListN.{length, drop, length-append, length-drop}
use Rattle.std.proofs.lemmas.List.{length-map}
use Rattle.std.proofs.Math.Seq.{drop_at}
use Rattle.network.specs.declared.NamedMove.{NamedMove}
use Rattle.network.specs.Layout.{shape}
use Rattle.network.specs.Refusals.{move_refusal, network_refusal, head}
use Rattle.network.specs.Calls.{after_move, move_words, Delivery, drained, drain_ledger, drain_answer, drained_delivered}
use Rattle.network.proofs.DrainLaws.{drain-within, drain-matched}
use Rattle.network.specs.Choices.{Permits}
use Rattle.network.specs.Run.{Leads, Call, move, drain, outcome, run, Ledger, at_nodes, ledger_of, words_written, LedgerKept, AllKept}

-- the nodes and the words of deliveries, put beside each other again
at_nodes-own : (ds : List Delivery) → at_nodes (map (λ d. d.node) ds) (map (λ d. d.packet) ds) ≡ ds
unfolding at_nodes head
at_nodes-own [] = refl
at_nodes-own (d ∷ ds) = ap (λ (es : List Delivery). d ∷ es) (at_nodes-own ds)

-- what a Drain that is not refused leaves in its ledger, and how many words it says that it wrote
module _ (w : List ℕ) (budget : ℕ) (ledger : List ℕ) where
  abbrev given : List Delivery
  given = (drained w budget (length ledger)).deliveries

  abbrev packets : List ℕ
  packets = map (λ (d : Delivery). d.packet) given

  count : length packets ≡ length given
  count = length-map given (λ (d : Delivery). d.packet)

  writes : network_refusal w ≡ 0 → ledger_of w budget ledger ≡ record { lent = ledger; left = packets ++ drop (length given) ledger; written = length given }
  unfolding ledger_of drain_ledger drain_answer drained_delivered
  writes e = rw (eq-eqb (network_refusal w) 0 e)

  writes_nothing : network_refusal w ≢ 0 → ledger_of w budget ledger ≡ record { lent = ledger; left = ledger; written = 0 }
  unfolding ledger_of drain_ledger drain_answer drained_delivered
  writes_nothing ne = rw (ne_eqb (network_refusal w) 0 ne)

  -- handed out is what the definition's moves delivered, in their order
  pub drain-handed : network_refusal w ≡ 0 → (outcome (drain budget ledger) w).handed_out ≡ given
  unfolding outcome words_written drained
  drain-handed e =
      ap₂ (λ (ns : List ℕ) (L : Ledger). at_nodes ns (take L.written L.left)) (drain-matched (shape w) budget (length ledger) w) (writes e)
      ∙ ap (at_nodes (map (λ d. d.node) given)) (take_at packets (drop (length given) ledger) (length given) count)
      ∙ at_nodes-own given

  kept-written : LedgerKept (record { lent = ledger; left = packets ++ drop (length given) ledger; written = length given })
  unfolding drained
  kept-written =
      let few : length given ≤ length ledger = (drain-within (shape w) budget (length ledger) w).few-deliveries in
      let c = count in
      let d : length (drop (length given) ledger) ≡ length ledger - length given = length-drop (length given) ledger in
      let a : length (packets ++ drop (length given) ledger) ≡ length packets + length (drop (length given) ledger) = length-append packets (drop (length given) ledger) in
      record {
        fits = few;
        later-untouched = drop_at packets (drop (length given) ledger) (length given) count;
        same_length = omega arith;
      }

  kept-as-lent : LedgerKept (record { lent = ledger; left = ledger; written = 0 })
  kept-as-lent = record { fits = omega arith; later-untouched = refl; same_length = refl }

  pub drain_kept : LedgerKept (ledger_of w budget ledger)
  drain_kept = go (ℕ_discrete (network_refusal w) 0)
    where
      go : Dec (network_refusal w ≡ 0) → LedgerKept (ledger_of w budget ledger)
      go (yes e) = rw (writes e) kept-written
      go (no ne) = rw (writes_nothing ne) kept-as-lent

-- the ledgers of a run, whatever the words are
kept_append : (Ls Ms : List Ledger) → AllKept Ls → AllKept Ms → AllKept (Ls ++ Ms)
unfolding AllKept
kept_append [] Ms a b = b
kept_append (L ∷ Ls) Ms a b = (a.0, kept_append Ls Ms a.1 b)

call_kept : (c : Call) (w : List ℕ) → AllKept (outcome c w).ledgers
unfolding outcome AllKept
call_kept (move m) w = tt
call_kept (drain budget ledger) w = (drain_kept w budget ledger, tt)

pub run-kept : (calls : List Call) (w : List ℕ) → AllKept (run calls w).ledgers
unfolding run AllKept
run-kept [] w = tt
run-kept (c ∷ calls) w = kept_append (outcome c w).ledgers (run calls (outcome c w).words).ledgers (call_kept c w) (run-kept calls (outcome c w).words)

-- moves that lead from words to words
pub leads-none : (w : List ℕ) → Leads w [] w
unfolding Leads
leads-none w = refl

pub leads_one : (w : List ℕ) (m : NamedMove) → Permits w m → Leads w (m ∷ []) (after_move (shape w) w m.node m.queue m.output)
unfolding Leads move_words
leads_one w m p = (p, rw (eq-eqb (move_refusal w m.node m.queue m.output) 0 p))

pub leads-append : (u w v : List ℕ) (ms ns : List NamedMove) → Leads u ms w → Leads w ns v → Leads u (ms ++ ns) v
unfolding Leads
leads-append u w v [] ns e b = rw e b
leads-append u w v (m ∷ ms) ns a b = (a.0, leads-append (move_words u m.node m.queue m.output) w v ms ns a.1 b)
