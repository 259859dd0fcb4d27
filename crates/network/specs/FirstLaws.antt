-- What First's search names: a move that no rule refuses, and none only where every move is refused. ChoiceLaws.antt has that it is the earliest.
-- Order: one search; the outputs of a head; the queues of a node and the nodes; where a search ends. Assumes nothing.
use Rattle.std.specs.Prelude.{◌≡◌, List, ℕ, Option, None, Some}
use Rattle.network.specs.Calls.{move_of}
use Rattle.network.specs.declared.NamedMove.{NamedMove}
use Rattle.network.specs.Sizes.{Shape}
use Rattle.network.specs.RefusalLaws.{Permitted}

-- what a search that never refuses has come to: nothing, or a move of which P holds
pub data Finds (P : ℕ → ℕ → ℕ → Type 0) : Option NamedMove → Type 0 where
  nothing : Finds P None
  named : {n q o : ℕ} → P n q o → Finds P (Some (move_of n q o))

-- the outputs of a head: a permitted move of its own
abbrev pub Its : Shape → List ℕ → ℕ → ℕ → ℕ → ℕ → ℕ → Type 0
Its S w n q m r o = (m ≡ n) × (r ≡ q) × Permitted S w m r o
