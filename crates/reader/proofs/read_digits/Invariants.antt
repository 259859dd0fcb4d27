-- `reader::read_digits` meets its contract. The loop's invariant is `Reading`: what the field gives is what the rest of it gives behind the
-- value read. Assumes nothing.
use Rattle.reader.proofs.ReadDigits.{Reading}
use Rattle.reader.proofs.read_digits.Given as goal

abbrev pub invariant-loop-b : goal.invariant-loop-b
invariant-loop-b l = Reading l.base l.most l.field l.value l.b-index
