-- `checker::sizes_of` meets its contract. Assumes nothing.
use Rattle.checker.specs.Opened.{sizes_in}
use Rattle.checker.proofs.sizes_of.Goals as goal

pub returns : goal.returns
unfolding sizes_in
returns c = c.sized.ensures
