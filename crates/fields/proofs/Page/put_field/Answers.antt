-- `fields::Page::put_field` meets its contract. Assumes nothing.
use Rattle.std.proofs.Common.{arith}
use Rattle.sheet.specs.Output.{decimal}
use Rattle.fields.proofs.Pages.{fits-behind, puts-behind}
use Rattle.fields.proofs.Page.put_field.Goals as goal

pub put_number-requires-clause-room : goal.put_number-requires-clause-room
put_number-requires-clause-room c = fits-behind (decimal c.args.n) c.put_byte.ensures c.requires

pub returns : goal.returns
returns c = puts-behind c.put_byte.ensures c.put_number.ensures (omega arith)
