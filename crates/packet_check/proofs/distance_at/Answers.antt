-- `packet_check::distance_at` meets its contract. Assumes nothing.
use Rattle.std.proofs.Common.{arith}
use Rattle.packet_check.specs.Tables.{distance_at}
use Rattle.packet_check.proofs.distance_at.Goals as goal

pub returns-then-a-lt-HALF_OFFSETS : goal.returns-then-a-lt-HALF_OFFSETS
unfolding distance_at
returns-then-a-lt-HALF_OFFSETS c = omega arith

pub returns-else-a-lt-HALF_OFFSETS : goal.returns-else-a-lt-HALF_OFFSETS
unfolding distance_at
returns-else-a-lt-HALF_OFFSETS c = omega arith
