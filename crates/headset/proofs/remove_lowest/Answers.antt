-- `headset::remove_lowest` meets its contract: the next member is in the same word, or looked for from word 0 on. Assumes nothing.
use Rattle.headset.proofs.Sets.{lowest-next}
use Rattle.headset.proofs.remove_lowest.Goals as goal

pub returns-then-rest-ne0 : goal.returns-then-rest-ne0
returns-then-rest-ne0 c =
    let u = c.lowest_bit.ensures in record {
      set = c.remove.ensures;
      lowest = lowest-next c.args.set.now c.remove.new.set c.args.h c.lowest_bit.result c.requires.lowest_head c.remove.ensures
          u (u.some c.if-rest-ne0.true);
    }
