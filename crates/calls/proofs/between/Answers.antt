-- `calls::between` meets its contract. Where its part stands and what it holds are both what the code says, the place by itself, since a part
-- elsewhere may hold the same. Assumes nothing.
use Rattle.std.proofs.Common.{refl}
use Rattle.calls.proofs.between.Goals as goal

pub returns : goal.returns
returns c = record { place = refl; part = refl }
