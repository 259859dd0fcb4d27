-- What a read of the sheet takes from the input and adds to the output, where their bytes are known. Assumes nothing.
use Rattle.std.specs.Prelude.{◌≡◌, ℕ, List, Option, length}
use Rattle.std.specs.Io.KnownBytes.{Consumes, Appends, IsAtEnd}
use Rattle.session.specs.Reads.{Sheet, answer_read}
use Rattle.replay.specs.Dumps.{read_dump}

-- n bytes were taken from the input, none only at its end; they lead from the first sheet to the second, and the steps that they make were added to the output
pub record ReadReplayed (n : ℕ) (input input' output output' : Option (List ℕ)) (s s' : Sheet) : Type 0 where
  pub piece : List ℕ
  pub size : length piece ≡ n
  pub taken : Consumes input input' piece
  pub ended : n ≡ 0 → IsAtEnd input'
  pub leads : s' ≡ (answer_read s piece).sheet
  pub added : Appends output output' (read_dump s piece)
