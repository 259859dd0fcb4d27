-- What a Drain cannot go beyond, whatever the words are: its moves are at most the budget, its deliveries at most the room in the ledger.
-- Order: one move more; the next move; a whole Drain; the nodes of its deliveries; its answer. Assumes nothing.
use Rattle.std.specs.Prelude.{◌≡◌, length}
use mathlib.Core.List.{map}
use Prim.Native.Nat.{ℕ, ◌≤◌}
use Rattle.network.specs.Run.{delivery_nodes}
use Rattle.network.specs.Calls.{Delivery, Progress}

pub record Within (budget room : ℕ) (r : Progress) : Type 0 where
  pub few-moves : length r.moves ≤ budget
  pub few-deliveries : length r.deliveries ≤ room

-- the nodes of its deliveries are those of its moves that deliver -----------------------------------------------------------------------

abbrev pub Matched : Progress → Type 0
Matched r = delivery_nodes r.moves ≡ map (λ (d : Delivery). d.node) r.deliveries
