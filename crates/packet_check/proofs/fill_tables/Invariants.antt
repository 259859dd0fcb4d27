-- `packet_check::fill_tables` meets its contract. The loop's invariant: the parts of the dimensions before i are filled. Assumes nothing.
use Rattle.std.proofs.Common.{◌≡◌, ℕ, ◌<◌, length}
use Rattle.packet_check.specs.Tables.{table_words, DimensionPart}
use Rattle.packet_check.proofs.fill_tables.Given as goal

abbrev pub invariant-loop-i : goal.invariant-loop-i
invariant-loop-i l = ((m : ℕ) → m < l.i-counter → DimensionPart l.s m l.tables) × (length l.tables ≡ table_words)
