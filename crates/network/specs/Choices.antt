-- What First chooses and when a Drain stops, as statements about all words: First's move is the earliest permitted one, and each of Drain's stops has its
-- condition (RULES R123, R124, R130 to R133). Calls.antt computes both by searching and by going on; these say what comes of it, without either.
-- ChoiceLaws.antt proves `FirstRight`, the crate `run` proves `DrainStops`. Assumes nothing.
use Rattle.std.specs.Prelude.{◌≡◌, ◌↔◌, ◌≢◌, cond, List, [], ◌∷◌, ℕ, suc, ◌<◌, ◌≤◌, eqb}
use Rattle.network.specs.declared.NamedMove.{NamedMove}
use Rattle.network.specs.declared.Stop.{Stop}
use Rattle.network.specs.declared.Drained.{Drained}
use Rattle.network.specs.Layout.{shape, held}
use Rattle.network.specs.Check.{packets_held}
use Rattle.network.specs.Routes.{routes, deliver}
use Rattle.network.specs.Refusals.{move_refusal, head}
use Rattle.network.specs.Calls.{found_move, first_answer, drained_moves, drained_delivered, drained_stop, Answer}

-- R223: a move is permitted exactly where Move gives 0
abbrev pub Permits : List ℕ → NamedMove → Type 0
Permits w m = move_refusal w m.node m.queue m.output ≡ 0

-- the place of an output among routes, counted from 0; their number if it is none of them
unfoldable pub place_among : ℕ → List ℕ → ℕ
place_among o [] = 0
place_among o (x ∷ xs) = cond (eqb o x) 0 (suc (place_among o xs))

unfoldable pub route_place : List ℕ → NamedMove → ℕ
route_place w m = place_among m.output (routes m.queue (head (held (shape w) w m.node m.queue)))

-- R123, the order of moves: by node; in a node by queue; of a queue by the routes of its head
pub data Earlier (w : List ℕ) (a b : NamedMove) : Type 0 where
  by-node : a.node < b.node → Earlier w a b
  by-queue : a.node ≡ b.node → a.queue < b.queue → Earlier w a b
  by-route : a.node ≡ b.node → a.queue ≡ b.queue → route_place w a < route_place w b → Earlier w a b

-- R123, R124: the move named is permitted and no earlier one is; no move is named exactly where none is permitted
pub record FirstRight (w : List ℕ) : Type 0 where
  pub named : (m : NamedMove) → (found_move (first_answer w) ≡ m ∷ []) ↔ (Permits w m × ((e : NamedMove) → Earlier w e m → Permits w e → ⊥))
  pub none : (found_move (first_answer w) ≡ []) ↔ ((m : NamedMove) → Permits w m → ⊥)

-- First's move is a delivery
pub record NextDelivers (w : List ℕ) : Type 0 where
  pub next : NamedMove
  pub first : found_move (first_answer w) ≡ next ∷ []
  pub delivers : next.output ≡ deliver

-- R130 to R133: what a Drain on a network answers, by its budget and the number of its ledger words, and the words `after` that it leaves
pub record DrainStops (budget room : ℕ) (answer : Answer Drained) (after : List ℕ) : Type 0 where
  -- R314
  pub within-budget : drained_moves answer ≤ budget
  pub within-ledger : drained_delivered answer ≤ room
  -- R130: exactly where nothing is held afterwards
  pub emptied : (drained_stop answer ≡ Stop.Emptied ∷ []) ↔ (packets_held (shape after) after ≡ 0)
  -- R131: exactly where something is held and the moves made are the budget
  pub spent : (drained_stop answer ≡ Stop.Spent ∷ []) ↔ ((packets_held (shape after) after ≢ 0) × (drained_moves answer ≡ budget))
  -- R132: exactly where something is held, budget is left, First's move is a delivery, and every ledger word is written
  pub full : (drained_stop answer ≡ Stop.Full ∷ [])
      ↔ ((packets_held (shape after) after ≢ 0) × (drained_moves answer < budget) × NextDelivers after × (drained_delivered answer ≡ room))
