-- First names the earliest permitted move, and none exactly where no move is permitted: theorem `first-right`, for all words.
-- Order: where a search took its move from; the outputs before the one that is named; what stands before it in the whole search; two permitted moves
-- compared; the theorem. Assumes nothing.
use Rattle.std.specs.Prelude.{◌≡◌, ℕ, ◌+◌, ◌<◌, ◌≤◌, Option, None, Some}
use mathlib.Core.List.{List}
use Rattle.network.specs.declared.NamedMove.{NamedMove}
use Rattle.network.specs.Sizes.{Shape}
use Rattle.network.specs.Layout.{shape}
use Rattle.network.specs.RefusalLaws.{Permitted}
use Rattle.network.specs.Calls.{first_in_queue, first_in_node, move_of}

-- the place that a search took its move from, and that it found nothing before it
pub record At (f : ℕ → Option NamedMove) (i count : ℕ) (r : Option NamedMove) : Type 0 where
  pub place : ℕ
  pub from : i ≤ place
  pub to : place < i + count
  pub here : f place ≡ r
  pub before : (j : ℕ) → i ≤ j → j < place → f j ≡ None

-- the move that is named stands in its node and its queue, and nothing before it may move
pub record Foremost (S : Shape) (w : List ℕ) (n q o : ℕ) : Type 0 where
  pub nodes-before : (m : ℕ) → m < n → first_in_node S w m ≡ None
  pub queues-before : (r : ℕ) → r < q → first_in_queue S w n r ≡ None
  pub in-queue : first_in_queue S w n q ≡ Some (move_of n q o)

-- the theorem -------------------------------------------------------------------------------------------------------------------------

abbrev pub Allowed : List ℕ → NamedMove → Type 0
Allowed w m = Permitted (shape w) w m.node m.queue m.output
