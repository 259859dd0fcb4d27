-- `reader::read_numbers` meets its contract. The loop's invariant is `Gathered`: `count` of the later fields are numbers, and the first of them are
-- held. Assumes nothing.
use Rattle.std.proofs.Common.{◌≡◌, length}
use Rattle.sheet.specs.Commands.{later_fields}
use Rattle.reader.proofs.Gather.{Gathered}
use Rattle.reader.proofs.read_numbers.Given as goal

abbrev pub invariant-loop-field : goal.invariant-loop-field
invariant-loop-field l = Gathered (later_fields l.line) l.values l.count × (l.count ≡ length l.yielded)
