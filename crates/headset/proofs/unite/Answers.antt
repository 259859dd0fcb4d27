-- `headset::unite` meets its contract, by the law `united`. Assumes nothing.
use Rattle.std.proofs.Common.{◌+◌, arith, get_or}
use Rattle.std.proofs.lemmas.Nat.{or_comm}
use Rattle.headset.specs.Set.{first_word}
use Rattle.headset.proofs.Sets.{replaced, united}
use Rattle.headset.proofs.unite.Goals as goal

pub returns : goal.returns
returns c =
    let s = c.args.set.now in
    united s _ c.set_bit.new.set c.set_bit-2.new.set c.args.i c.args.bits c.requires.set c.requires.i_bound c.requires.bits_nonzero
    (replaced s (first_word + c.args.i) _ _ (omega arith) (or_comm (get_or s (first_word + c.args.i) 0) c.args.bits)) c.set_bit.ensures c.set_bit-2.ensures
