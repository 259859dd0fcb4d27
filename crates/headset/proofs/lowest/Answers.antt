-- `headset::lowest` meets its contract, a law for each way out. Assumes nothing.
use Rattle.std.proofs.Common.{arith}
use Rattle.headset.proofs.Sets.{lowest-empty, lowest-there, lowest-at}
use Rattle.headset.proofs.lowest.Goals as goal

pub returns-then-top-eq0 : goal.returns-then-top-eq0
returns-then-top-eq0 c = lowest-empty c.args.set.now c.requires c.if-top-eq0.true

pub bounds-set-j : goal.bounds-set-j
bounds-set-j c =
    omega (
      arith,
      lowest-there c.args.set.now c.lowest_bit-i.result c.lowest_bit.result c.requires (c.lowest_bit-i.ensures.some c.if-top-eq0.false)
          c.lowest_bit-i.ensures c.lowest_bit.ensures,
    )

pub returns : goal.returns
returns c =
    lowest-at c.args.set.now c.lowest_bit-i.result c.lowest_bit.result c.lowest_bit-2.result c.requires
    (c.lowest_bit-i.ensures.some c.if-top-eq0.false) c.lowest_bit-i.ensures c.lowest_bit.ensures c.lowest_bit-2.ensures
