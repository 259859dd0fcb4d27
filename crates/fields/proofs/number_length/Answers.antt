-- `fields::number_length` meets its contract: 0 has as many digits as 1, and another number is at least 1. Assumes nothing.
use Rattle.std.proofs.Common.{◌≡◌, ap, sym, ◌∙◌, ℕ, zero, suc, ◌≤◌, arith, max, length}
use Rattle.std.proofs.Math.Nat.{max-eq_left}
use Rattle.sheet.specs.Output.{numeral}
use Rattle.sheet.proofs.Numerals.{numeral-one}
use Rattle.fields.proofs.Digits.{between-powers}
use Rattle.fields.proofs.number_length.Goals as goal

as-long : (base n : ℕ) → 2 ≤ base → length (numeral base (max n 1)) ≡ length (numeral base n)
as-long base zero two = ap length (numeral-one base two 1 (omega arith)) ∙ sym (ap length (numeral-one base two 0 (omega arith)))
as-long base (suc n) two = ap (λ m. length (numeral base m)) (max-eq_left {n = suc n} {m = 1} (omega arith))

pub returns : goal.returns
returns c =
    let a = c.args in
    let log = c.ilog.ensures in
    sym (between-powers a.base c.requires c.ilog.result c.max.result log.power_le log.next_power_gt)
    ∙ ap (λ m. length (numeral a.base m)) c.max.ensures
    ∙ as-long a.base a.n c.requires
