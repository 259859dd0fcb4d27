-- `headset::lowest_bit` meets its contract, by the laws of the trailing zeros. Assumes nothing.
use Rattle.headset.proofs.WordBits.{lowest-bit}
use Rattle.headset.proofs.lowest_bit.Goals as goal

pub returns : goal.returns
returns c = lowest-bit c.args.word c.ranges.word.fits
