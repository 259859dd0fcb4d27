-- A D replayed move by move leaves the words that the D leaves: theorem `drain-replayed`, and `command-replayed` for every command. Order: a Drain with no
-- budget; the next move of a Drain, if there is one; one move and the rest; the theorems. Assumes nothing.
use Rattle.std.specs.Prelude.{◌≡◌}
use Rattle.std.proofs.Math.Bool.{true, false}
use mathlib.Core.List.{List}
use Prim.Native.Nat.{ℕ, suc, ◌-◌}
use Rattle.std.proofs.Math.ListN.{length}
use Rattle.network.specs.Sizes.{Shape}
use Rattle.network.specs.Layout.{shape}
use Rattle.network.specs.CheckLaws.{Network}
use Rattle.network.specs.Refusals.{network_refusal}
use Rattle.network.specs.Calls.{Progress, drain_from, drain_words}
use Rattle.replay.specs.Replay.{moved_on, makes_move, room_left}

-- no budget, no move
pub record Still (w : List ℕ) (r : Progress) : Type 0 where
  pub words : r.words ≡ w
  pub moves : length r.moves ≡ 0
  pub deliveries : length r.deliveries ≡ 0

-- the next move of Drains with a budget of `suc budget` and so much room, `one` being the Drain of that single move: none is made, or one that leads to a
-- network of the same sizes, from which the Drains go on with a budget of one less
pub data Next (S : Shape) (room : ℕ) (w : List ℕ) (from : ℕ → Progress) (one : Progress) : Type 0 where
  stays : ((budget : ℕ) → (from budget).words ≡ w) → Still w one → Next S room w from one
  goes : (v : List ℕ) → Network S v → shape v ≡ shape w → one.words ≡ v → length one.moves ≡ 1
      → ((budget : ℕ) → (from budget).words ≡ (drain_from S budget (room - length one.deliveries) v).words) → Next S room w from one

-- what a single move of a D tells, by whether it makes one
pub record NoMoveMade (w : List ℕ) (room : ℕ) : Type 0 where
  pub none : makes_move w room ≡ false
  pub same : moved_on w room ≡ w
  pub all : (budget : ℕ) → drain_words w budget room ≡ w

pub record NextMoveMade (w : List ℕ) (room : ℕ) : Type 0 where
  pub one : makes_move w room ≡ true
  pub network : network_refusal w ≡ 0
  pub same_shape : shape (moved_on w room) ≡ shape w
  pub passes : network_refusal (moved_on w room) ≡ 0
  pub rest : (budget : ℕ) → drain_words w (suc budget) room ≡ drain_words (moved_on w room) budget (room_left w room)
