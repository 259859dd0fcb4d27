-- `fields::Page::put_head` meets its contract. Assumes nothing.
use Rattle.std.proofs.Common.{◌∷◌, arith}
use Rattle.sheet.specs.Text.{comma}
use Rattle.sheet.specs.Output.{decimal}
use Rattle.fields.proofs.Pages.{fits-behind, puts-behind}
use Rattle.fields.proofs.Page.put_head.Goals as goal

pub put_field-requires : goal.put_field-requires
put_field-requires c = fits-behind (comma ∷ decimal c.args.n) c.put_byte.ensures c.requires

pub returns : goal.returns
returns c = puts-behind c.put_byte.ensures c.put_field.ensures (omega arith)
