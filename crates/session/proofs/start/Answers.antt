-- `session::start` meets its contract: the words that it writes are the new store. Assumes nothing.
use Rattle.std.proofs.Common.{rules}
use Rattle.session.specs.Reads.{start_sheet}
use Rattle.session.proofs.start.Goals as goal

pub returns : goal.returns
unfolding start_sheet
returns c = search rules
