-- `packet_check::next_on_ring` meets its contract. Assumes nothing.
use Rattle.std.proofs.Common.{arith}
use Rattle.packet_check.proofs.TableLaws.{next-round, next-on}
use Rattle.packet_check.proofs.next_on_ring.Goals as goal

pub returns-then-c-k : goal.returns-then-c-k
returns-then-c-k c = next-round c.args.c c.args.k c.if-c-k.true

pub returns : goal.returns
returns c = next-on c.args.c c.args.k (omega arith)
