-- What the answer of each call tells whose answer is an enum: its number, the refusal or 0, and each of its values, where the call is refused
-- and where it is not. All of it is read by the definitions at the end of Calls.antt. A record for each call, with the law that the call's answer
-- keeps it. Order: an answer by its refusal; Move; Credit; First; Drain. Assumes nothing.
use Rattle.std.specs.Prelude.{◌≡◌, cond, List, [], ◌∷◌, ℕ, eqb, length, Option, Ok}
use Rattle.network.specs.declared.NamedMove.{NamedMove}
use Rattle.network.specs.declared.Drained.{Drained}
use Rattle.network.specs.Layout.{shape, held}
use Rattle.network.specs.Routes.{free_load, deliver}
use Rattle.network.specs.Refusals.{network_refusal, move_refusal, credit_refusal, head}
use Rattle.network.specs.Calls.{unless_refused, first_move, drained, Answer}
use Rattle.network.specs.Calls.{moved_number, moved_packets, credit_number, credit_free, found_number, found_move, drained_number, drained_moves, drained_delivered, drained_stop}

-- Move: the packet word if the move delivers, which is the head of its queue
pub record MoveTells (w : List ℕ) (n q o : ℕ) (r : Answer (Option ℕ)) : Type 0 where
  pub number : moved_number r ≡ move_refusal w n q o
  pub packets : moved_packets r ≡ unless_refused (move_refusal w n q o) (cond (eqb o deliver) (head (held (shape w) w n q) ∷ []) []) []

-- Credit: what is free of the target
pub record CreditTells (w : List ℕ) (n o : ℕ) (r : Answer ℕ) : Type 0 where
  pub number : credit_number r ≡ credit_refusal w n o
  pub free : credit_free r ≡ unless_refused (credit_refusal w n o) (free_load (shape w) w n o) 0

-- First: the move that the search comes to, if it comes to one
pub record FirstTells (w : List ℕ) (r : Answer (Option NamedMove)) : Type 0 where
  pub number : found_number r ≡ network_refusal w
  pub move : found_move r ≡ unless_refused (network_refusal w) (found_move (Ok (first_move (shape w) w))) []

-- Drain: how many moves were made, how many packets were delivered, and why it stopped
pub record DrainTells (w : List ℕ) (budget room : ℕ) (r : Answer Drained) : Type 0 where
  pub number : drained_number r ≡ network_refusal w
  pub moves : drained_moves r ≡ unless_refused (network_refusal w) (length (drained w budget room).moves) 0
  pub delivered : drained_delivered r ≡ unless_refused (network_refusal w) (length (drained w budget room).deliveries) 0
  pub stop : drained_stop r ≡ unless_refused (network_refusal w) ((drained w budget room).stop ∷ []) []
