-- `reader::read_digits` meets its contract: the goals that the check does not find by itself. Assumes nothing.
use Rattle.std.proofs.Common.{arith}
use Rattle.reader.proofs.ReadDigits.{none, low, high, large-digit, large-value, next, end}
use Rattle.reader.proofs.read_digits.Goals as goal

pub loop-b-init : goal.loop-b-init
loop-b-init c = none c.args.base c.args.most c.args.field.now

pub returns-then-b-lt48 : goal.returns-then-b-lt48
returns-then-b-lt48 c = low c.loop-b.invariant c.loop-b-test.true c.if-b-lt48.true

pub returns-then-base-digit : goal.returns-then-base-digit
returns-then-base-digit c = high c.loop-b.invariant c.loop-b-test.true c.if-b-lt48.false c.if-base-digit.true

pub returns-then-most-digit : goal.returns-then-most-digit
returns-then-most-digit c = large-digit c.loop-b.invariant c.loop-b-test.true c.if-b-lt48.false c.requires c.if-base-digit.false c.if-most-digit.true

pub returns-then-most-digit-2 : goal.returns-then-most-digit-2
returns-then-most-digit-2 c =
    large-value c.loop-b.invariant c.loop-b-test.true c.if-b-lt48.false c.requires c.if-base-digit.false c.if-most-digit.false
    c.if-most-digit-2.true

pub loop-b-preserved : goal.loop-b-preserved
loop-b-preserved c =
    next c.loop-b.invariant c.loop-b-test.true c.if-b-lt48.false c.requires c.if-base-digit.false c.if-most-digit.false
    c.if-most-digit-2.false

-- the value that a turn leaves is at most `most`, which fits
pub overflow_mul-value : goal.overflow_mul-value
overflow_mul-value c = let r = loop-b-preserved c in omega arith

pub overflow_add-value : goal.overflow_add-value
overflow_add-value c = let r = loop-b-preserved c in omega arith

pub returns : goal.returns
returns c = end c.loop-b.invariant c.loop-b-test.false
