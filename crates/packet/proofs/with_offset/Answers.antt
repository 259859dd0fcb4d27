-- `packet::with_offset` meets its contract. Assumes nothing.
use Rattle.std.proofs.Common.{◌≡◌, refl, ap, ◌∙◌, ◌+◌, ◌*◌, ◌-◌, ◌^◌, ◌<◌, ◌≤◌, arith}
use Rattle.network.specs.Packet.{unsigned}
use Rattle.packet.proofs.Numbers.{back}
use Rattle.packet.proofs.FieldWords.{field-within, with-by, with-fits}
use Rattle.packet.proofs.with_offset.Goals as goal
use Rattle.packet.proofs.with_offset.Goals.{After-offset_field, After-unsigned}

-- the old field is in the word
within : (c : After-offset_field) → c.offset_field.result * c.offset_weight-w.result ≤ c.args.p
within c =
    field-within c.args.i c.args.p _ c.requires.0 c.offset_weight-w.ensures c.args.z _ (unsigned c.args.z) c.offset_field.ensures refl

unsigned_is : (c : After-unsigned) → c.unsigned.result ≡ unsigned c.args.z
unsigned_is c = c.unsigned.ensures ∙ ap unsigned (back refl c.requires.1)

-- the new word is one
fits : (c : After-unsigned)
    → c.args.p - c.offset_field.result * c.offset_weight-w.result
    + c.unsigned.result * c.offset_weight-w.result
    < 2 ^ 64
fits c =
    with-fits c.args.i c.args.p _ c.requires.0 c.offset_weight-w.ensures c.args.z _ _ c.offset_field.ensures (unsigned_is c)
    c.requires.1 c.ranges.p.fits

pub overflow_mul-result : goal.overflow_mul-result
overflow_mul-result c = let p = c.ranges.p.fits in omega (arith, within (goal.at.overflow_mul-result c).After-offset_field)

pub overflow_sub-result : goal.overflow_sub-result
overflow_sub-result c = omega (arith, within (goal.at.overflow_sub-result c).After-offset_field)

pub overflow_mul-result-2 : goal.overflow_mul-result-2
overflow_mul-result-2 c = omega (arith, fits (goal.at.overflow_mul-result-2 c).After-unsigned)

pub overflow_add-result : goal.overflow_add-result
overflow_add-result c = omega (arith, fits (goal.at.overflow_add-result c).After-unsigned)

pub returns : goal.returns
returns c = with-by c.args.i c.args.p _ c.requires.0 c.offset_weight-w.ensures c.args.z _ _ c.offset_field.ensures (unsigned_is (goal.at.returns c).After-unsigned)
