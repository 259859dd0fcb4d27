-- `packet::nat_abs` meets its contract. Assumes nothing.
use Rattle.std.proofs.Common.{refl, ap, nat_abs}
use Rattle.packet.proofs.Numbers.{back, negation-fits, cast-of, cast-of-negation, nat_abs-negation}
use Rattle.packet.proofs.nat_abs.Goals as goal

pub overflow_sub-result : goal.overflow_sub-result
overflow_sub-result c = negation-fits c.requires

pub overflow_cast-result : goal.overflow_cast-result
overflow_cast-result c = cast-of-negation c.requires c.if-z-lt0.true

pub overflow_cast-result-else-z-lt0 : goal.overflow_cast-result-else-z-lt0
overflow_cast-result-else-z-lt0 c = cast-of c.requires c.if-z-lt0.false

pub returns-then-z-lt0 : goal.returns-then-z-lt0
returns-then-z-lt0 c = nat_abs-negation c.requires

pub returns-else-z-lt0 : goal.returns-else-z-lt0
returns-else-z-lt0 c = ap nat_abs (back refl c.requires)
