-- Laws of a read that is replayed. Order: from its start on; a step on; a move; a command; the end; told by the next step; what is left to
-- do. Assumes nothing.
use Rattle.std.specs.Prelude.{◌≡◌, List, ◌++◌, ℕ}
use Rattle.session.specs.declared.Cursor.{Cursor}
use Rattle.replay.specs.declared.ReplayCursor.{ReplayCursor}
use Rattle.replay.specs.Steps.{finished, unwritten}

abbrev pub replay_at : Cursor → ℕ → ℕ → ReplayCursor
replay_at read moves room = record { read = read; moves = moves; room = room }

-- a step on: the rest leads to the same sheet, and writes what the step writes and then the rest
pub record Onward (piece w buffer : List ℕ) (c : ReplayCursor) (bytes v buffer' : List ℕ) (c' : ReplayCursor) : Type 0 where
  pub leads : finished piece w buffer c ≡ finished piece v buffer' c'
  pub writes : unwritten piece w buffer c ≡ bytes ++ unwritten piece v buffer' c'
