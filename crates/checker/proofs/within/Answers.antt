-- `checker::within` meets its contract. Assumes nothing.
use Rattle.std.proofs.Common.{le-leb, sym}
use borrow.Author.Tests.{lt-leb}
use Rattle.base.proofs.Bools.{and-stop, and-on}
use Rattle.network.specs.Sizes.{within}
use Rattle.checker.proofs.within.Goals as goal

pub returns-then-n-least : goal.returns-then-n-least
unfolding within
returns-then-n-least c = sym (and-stop _ _ (lt-leb _ _ c.if-n-least.true))

pub returns : goal.returns
unfolding within
returns c = sym (and-on _ _ (le-leb _ _ c.if-n-least.false))
