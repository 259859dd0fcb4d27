-- From step to step the list of fills is the store's, and the first bytes of the page are the step that the words tell (R423): `command-tells`, `move-tells`.
-- Order: the start; a whole step; what a step leaves of the words before it; a command; a move of a D. Assumes nothing.
use Rattle.std.specs.Prelude.{◌≡◌, List, ℕ, take}
use Rattle.network.specs.Layout.{shape}
use Rattle.network.specs.Refusals.{network_refusal}
use Rattle.replay.specs.Replay.{Shown, FillsOf}

-- what a later step is told by
pub record Follows (w v : List ℕ) : Type 0 where
  pub network : network_refusal w ≡ 0
  pub same_shape : shape v ≡ shape w

-- the step's bytes at the start of the page, and the store's fills at the start of the list
pub record Tells (bytes v : List ℕ) (s : Shown) : Type 0 where
  pub page : take s.bytes s.page ≡ bytes
  pub list : FillsOf v s.list
