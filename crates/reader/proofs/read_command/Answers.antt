-- `reader::read_command` meets its contract: the goals that the check does not find by itself. Assumes nothing.
use Rattle.reader.proofs.Letters.{not-empty, letter-and-numbers}
use Rattle.reader.proofs.read_command.Goals as goal

pub bounds-line-0 : goal.bounds-line-0
bounds-line-0 c = not-empty c.args.line.now c.field_end-end.ensures c.if-end-ne1.false

pub returns : goal.returns
returns c =
    letter-and-numbers c.args.line.now c.field_end-end.ensures c.read_numbers.ensures _ c.command_with.result c.command_with.ensures
    c.if-line-gt-LINE_LIMIT.false
    c.if-end-ne1.false
    c.in-Some.is
