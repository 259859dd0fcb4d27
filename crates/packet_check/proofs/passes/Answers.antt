-- `packet_check::passes` meets its contract. Assumes nothing.
use Rattle.std.proofs.Common.{refl, arith}
use Rattle.base.specs.Bits.{bit}
use Rattle.packet_check.proofs.passes.Goals as goal

pub bounds-tables-i : goal.bounds-tables-i
bounds-tables-i c = let w = c.requires.0 in omega arith

pub returns : goal.returns
unfolding bit
returns c = refl
