-- What the reads of a sheet write together: however the input is cut into reads, the steps of all reads, in their order, are those of the whole input:
-- theorem `dump-right` (R423; R258 says the same of the bench). Order: a read, reads one after another; commands behind commands; the theorem.
-- Assumes nothing.
use Rattle.std.specs.Prelude.{ℕ}
use mathlib.Core.List.{List, [], ◌∷◌, ◌++◌}
use Rattle.session.specs.Reads.{Sheet, answer_read}
use Rattle.replay.specs.Steps.{read_start, unwritten}

-- what a read writes, and reads one after another
unfoldable pub read_dump : Sheet → List ℕ → List ℕ
read_dump s piece = unwritten piece s.store s.buffer (read_start s.pending)

unfoldable pub reads_dump : Sheet → List (List ℕ) → List ℕ
reads_dump s [] = []
reads_dump s (read ∷ reads) = read_dump s read ++ reads_dump (answer_read s read).sheet reads
