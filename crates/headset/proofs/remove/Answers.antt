-- `headset::remove` meets its contract, a law for each way out. Assumes nothing.
use Rattle.std.proofs.Common.{sym, ◌∙◌}
use Rattle.headset.proofs.Sets.{removed-one, removed-two, removed-three}
use Rattle.headset.proofs.remove.Goals as goal

pub returns-then-part_empty : goal.returns-then-part_empty
returns-then-part_empty c =
    removed-three c.args.set.now c.clear_bit-word_empty.new.set c.args.h c.requires.set c.requires.h_lt_heads c.clear_bit-word_empty.ensures.words
    c.clear_bit-part_empty.new.set (sym c.clear_bit-word_empty.ensures.answer ∙ c.if-word_empty.true) c.clear_bit-part_empty.ensures.words
    c.clear_bit.new.set (sym c.clear_bit-part_empty.ensures.answer ∙ c.if-part_empty.true) c.clear_bit.ensures.words

pub returns-else-part_empty : goal.returns-else-part_empty
returns-else-part_empty c =
    removed-two c.args.set.now c.clear_bit-word_empty.new.set c.args.h c.requires.set c.requires.h_lt_heads c.clear_bit-word_empty.ensures.words
    c.clear_bit-part_empty.new.set (sym c.clear_bit-word_empty.ensures.answer ∙ c.if-word_empty.true) c.clear_bit-part_empty.ensures.words (sym c.clear_bit-part_empty.ensures.answer ∙ c.if-part_empty.false)

pub returns-else-word_empty : goal.returns-else-word_empty
returns-else-word_empty c =
    removed-one c.args.set.now c.clear_bit-word_empty.new.set c.args.h c.requires.set c.requires.h_lt_heads c.clear_bit-word_empty.ensures.words
    (sym c.clear_bit-word_empty.ensures.answer ∙ c.if-word_empty.false)
