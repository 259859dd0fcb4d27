-- `packet::offset_field` meets its contract. Assumes nothing.
use Rattle.std.proofs.Common.{arith}
use Rattle.packet.proofs.FieldWords.{field-weight-some, field-by}
use Rattle.packet.proofs.offset_field.Goals as goal

pub nonzero_div-result : goal.nonzero_div-result
nonzero_div-result c = omega (arith, c.offset_weight.ensures, field-weight-some c.args.i)

pub returns : goal.returns
returns c = field-by c.args.i c.args.p c.offset_weight.result c.requires c.offset_weight.ensures
