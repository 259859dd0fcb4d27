-- `streams::tell` meets its contract, by cases on what is lost. Assumes nothing.
use Rattle.std.proofs.Common.{refl}
use Rattle.streams.specs.Ends.{status}
use Rattle.streams.proofs.tell.Goals as goal

pub returns-in-Input : goal.returns-in-Input
unfolding status
returns-in-Input g c = rw c.in-Input.is refl

pub returns-in-Output : goal.returns-in-Output
unfolding status
returns-in-Output g c = rw c.in-Output.is refl

pub returns-in-Reader : goal.returns-in-Reader
unfolding status
returns-in-Reader g c = rw c.in-Reader.is c.from.ensures
