-- `packet::unsigned` meets its contract. Assumes nothing.
use Rattle.std.proofs.Common.{◌≡◌, refl, ap, sym, ◌∙◌, ℕ, ◌-◌, arith, nat_abs}
use Rattle.network.specs.Packet.{offset_values}
use Rattle.packet.proofs.Numbers.{back, nat_abs-most, field-minus, field-plus}
use Rattle.packet.proofs.unsigned.Goals as goal

pub overflow_sub-result : goal.overflow_sub-result
overflow_sub-result c =
    let z = c.args.z in
    let e : c.nat_abs.result ≡ nat_abs z = c.nat_abs.ensures ∙ ap nat_abs (back refl c.requires) in
    let l = nat_abs-most z c.requires in
    omega arith

pub returns-then-z-lt0 : goal.returns-then-z-lt0
returns-then-z-lt0 c =
    ap (λ (n : ℕ). offset_values - n) (c.nat_abs.ensures ∙ ap nat_abs (back refl c.requires))
    ∙ sym (field-minus c.requires c.if-z-lt0.true)

pub returns-else-z-lt0 : goal.returns-else-z-lt0
returns-else-z-lt0 c =
    c.nat_abs-else-z-lt0.ensures
    ∙ ap nat_abs (back refl c.requires)
    ∙ sym (field-plus c.requires c.if-z-lt0.false)
