-- What a Drain cannot go beyond, whatever the words are: its moves are at most the budget, its deliveries at most the room in the ledger.
-- Order: one move more; the next move; a whole Drain; the nodes of its deliveries; its answer. Assumes nothing.
use Rattle.std.specs.Prelude.{◌≡◌, Bool, cond, length, Option, None, Some, Ok, Err}
use Rattle.std.proofs.Math.Path.{refl, ap}
use Rattle.std.proofs.Math.Bool.{true, false}
use mathlib.Core.List.{List, [], ◌∷◌, ◌++◌}
use Prim.Native.Nat.{ℕ, zero, suc, ◌+◌, ◌≤◌}
use Rattle.std.proofs.Common.{arith, length-append}
use Rattle.std.proofs.Math.Dec.{eqb}
use Rattle.network.specs.declared.NamedMove.{NamedMove}
use Rattle.network.specs.declared.Stop.{Stop}
use Rattle.network.specs.Sizes.{Shape}
use Rattle.network.specs.Layout.{shape, held}
use Rattle.network.specs.Check.{packets_held}
use Rattle.network.specs.Routes.{deliver}
use Rattle.network.specs.Refusals.{network_refusal, head}
use Rattle.network.specs.Run.{delivery_nodes}
use Rattle.network.specs.Calls.{move_of, Delivery, Progress, after_move, first_move, stopped, one_more, deliver_next, move_next, drain_from, drained, drain_answer, drained_delivered, drain_of}
use Rattle.network.specs.DrainLaws.{Within, Matched}

within-stopped : (budget room : ℕ) (w : List ℕ) (why : Stop) → Within budget room (stopped w why)
unfolding stopped
within-stopped budget room w why = record { few-moves = omega arith; few-deliveries = omega arith }

within_more : (budget left room : ℕ) (m : NamedMove) (ds : List Delivery) (r : Progress) → length ds + left ≤ room → Within budget left r → Within (suc budget) room (one_more m ds r)
unfolding one_more
within_more budget left room m ds r e h =
    let k = h.few-moves in
    let d = h.few-deliveries in
    let l : length (ds ++ r.deliveries) ≡ length ds + length r.deliveries = length-append ds r.deliveries in
    record { few-moves = omega arith; few-deliveries = omega arith }

module _ (S : Shape) (w : List ℕ) (budget : ℕ) (on : ℕ → List ℕ → Progress) (rec : (room : ℕ) (v : List ℕ) → Within budget room (on room v)) where
  within-delivery : (n q room : ℕ) → Within (suc budget) room (deliver_next S w n q room on)
  unfolding deliver_next
  within-delivery n q zero = within-stopped (suc budget) zero w Stop.Full
  within-delivery n q (suc room) =
      within_more budget room (suc room) (move_of n q deliver) (record { node = n; packet = head (held S w n q) } ∷ []) (on room (after_move S w n q deliver)) (omega arith)
      (rec room (after_move S w n q deliver))

  within-next : (room : ℕ) (f : Option NamedMove) → Within (suc budget) room (move_next S w room f on)
  unfolding move_next
  within-next room None = within-stopped (suc budget) room w Stop.Emptied
  within-next room (Some m) = go (eqb m.output deliver)
    where
      go : (t : Bool) → Within (suc budget) room (cond t (deliver_next S w m.node m.queue room on) (one_more m [] (on room (after_move S w m.node m.queue m.output))))
      go true = within-delivery m.node m.queue room
      go false =
          within_more budget room room m [] (on room (after_move S w m.node m.queue m.output)) (omega arith)
          (rec room (after_move S w m.node m.queue m.output))

pub drain-within : (S : Shape) (budget room : ℕ) (w : List ℕ) → Within budget room (drain_from S budget room w)
unfolding drain_from
drain-within S zero room w = go (eqb (packets_held S w) 0)
  where
    go : (t : Bool) → Within zero room (cond t (stopped w Stop.Emptied) (stopped w Stop.Spent))
    go true = within-stopped zero room w Stop.Emptied
    go false = within-stopped zero room w Stop.Spent
drain-within S (suc budget) room w =
    go (eqb (packets_held S w) 0) (within-next S w budget (λ room' w'. drain_from S budget room' w') (λ r v. drain-within S budget r v) room (first_move S w))
  where
    go : (t : Bool) → Within (suc budget) room (move_next S w room (first_move S w) (λ room' w'. drain_from S budget room' w'))
        → Within (suc budget) room (cond t (stopped w Stop.Emptied) (move_next S w room (first_move S w) (λ room' w'. drain_from S budget room' w')))
    go true h = within-stopped (suc budget) room w Stop.Emptied
    go false h = h

module _ (S : Shape) (w : List ℕ) (on : ℕ → List ℕ → Progress) (rec : (room : ℕ) (v : List ℕ) → Matched (on room v)) where
  matched-delivery : (n q room : ℕ) → Matched (deliver_next S w n q room on)
  unfolding deliver_next stopped one_more delivery_nodes
  matched-delivery n q zero = refl
  matched-delivery n q (suc room) = ap (λ (ns : List ℕ). n ∷ ns) (rec room (after_move S w n q deliver))

  matched-next : (room : ℕ) (f : Option NamedMove) → Matched (move_next S w room f on)
  unfolding move_next stopped one_more delivery_nodes
  matched-next room None = refl
  matched-next room (Some m) = go (eqb m.output deliver) refl
    where
      go : (t : Bool) → eqb m.output deliver ≡ t
          → Matched (cond t (deliver_next S w m.node m.queue room on) (one_more m [] (on room (after_move S w m.node m.queue m.output))))
      go true e = matched-delivery m.node m.queue room
      go false e = rw e (rec room (after_move S w m.node m.queue m.output))

pub drain-matched : (S : Shape) (budget room : ℕ) (w : List ℕ) → Matched (drain_from S budget room w)
unfolding drain_from stopped delivery_nodes
drain-matched S zero room w = go (eqb (packets_held S w) 0)
  where
    go : (t : Bool) → Matched (cond t (stopped w Stop.Emptied) (stopped w Stop.Spent))
    go true = refl
    go false = refl
drain-matched S (suc budget) room w =
    go (eqb (packets_held S w) 0) (matched-next S w (λ room' w'. drain_from S budget room' w') (λ r v. drain-matched S budget r v) room (first_move S w))
  where
    rest : Progress
    rest = move_next S w room (first_move S w) (λ room' w'. drain_from S budget room' w')

    go : (t : Bool) → Matched rest → Matched (cond t (stopped w Stop.Emptied) rest)
    go true m = refl
    go false m = m

-- what a Drain answers, refused or not
pub delivered-within : (w : List ℕ) (budget room : ℕ) → drained_delivered (drain_answer w budget room) ≤ room
unfolding drain_answer drained_delivered drained
delivered-within w budget room = go (eqb (network_refusal w) 0)
  where
    r : Progress
    r = drain_from (shape w) budget room w

    go : (b : Bool)
        → drained_delivered (cond b (Ok (drain_of (length r.moves) (length r.deliveries) r.stop)) (Err (network_refusal w))) ≤ room
    go true = (drain-within (shape w) budget room w).few-deliveries
    go false = omega arith
