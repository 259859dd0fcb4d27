-- The rest of the read leads where the read does; the list of fills is the store's if it was so at the start, and then what was written and what the rest
-- of the read is to write are what the read is to write. The measure is what is left to do. Assumes nothing.
use Rattle.std.proofs.Common.{◌≡◌, ℕ, List, ◌++◌, length}
use Rattle.std.specs.Io.KnownBytes.{Appends}
use Rattle.session.specs.Reads.{sheet, sheet_after}
use Rattle.replay.specs.Replay.{FillsOf}
use Rattle.replay.specs.Steps.{finished, left_to_do, unwritten}
use Rattle.replay.specs.Dumps.{read_dump}
use Rattle.wave.proofs.write_steps.Given as goal

abbrev pub invariant-loop-bytes : goal.invariant-loop-bytes
invariant-loop-bytes g l =
    record {
      fills : length l.fills ≡ length l.initial.fills;
      page : length l.page ≡ length l.initial.page;
      leads : finished l.piece l.store l.line l.cursor ≡ sheet_after (sheet l.initial.store l.initial.line l.pending) l.piece;
      kept : FillsOf l.initial.store l.initial.fills → FillsOf l.store l.fills;
      written : FillsOf l.initial.store l.initial.fills
          → (bytes : List ℕ)
          × Appends (g.W.Write.contents l.initial.output) (g.W.Write.contents l.output) bytes
          × (read_dump (sheet l.initial.store l.initial.line l.pending) l.piece ≡ bytes ++ unwritten l.piece l.store l.line l.cursor);
    }

abbrev pub decreases-loop-bytes : goal.decreases-loop-bytes
decreases-loop-bytes g l = left_to_do l.piece l.line l.cursor
