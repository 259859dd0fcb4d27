-- `packet_check::row` meets its contract. Assumes nothing.
use Rattle.std.proofs.Common.{◌≡◌, ap, sym, subst, ◌∙◌, ℕ, ◌+◌, ◌*◌, ◌-◌, ◌%◌, ◌^◌, ◌<◌, ◌≤◌, arith, pow_pos, shl_exact}
use Rattle.base.specs.Bits.{one_bit}
use Rattle.base.proofs.Bits.{one-exact}
use Rattle.packet_check.specs.Tables.{row}
use Rattle.packet_check.proofs.row.Goals as goal
use Rattle.packet_check.proofs.row.Goals.{Start}

-- the ones, as the code computes them
ones : (c : Start) → one_bit (c.args.forward + c.args.back - 1) ≡ 2 ^ (c.args.forward + c.args.back - 1)
ones c = one-exact _ (omega arith)

pub overflow_sub-ones-2 : goal.overflow_sub-ones-2
overflow_sub-ones-2 c = subst (λ (n : ℕ). 1 ≤ n) (sym (ones (goal.at.overflow_sub-ones-2 c).Start)) (pow_pos _)

pub returns : goal.returns
unfolding row
returns c =
    let n = c.args.forward + c.args.back - 1 in
    let m = 17 - c.args.back in
    let p : 0 < 2 ^ n = pow_pos n in
    ap (λ (o : ℕ). (o - 1) * 2 ^ m % 2 ^ 64) (ones (goal.at.returns c).Start) ∙ shl_exact {a = 2 ^ n - 1} n m 64 (omega arith) (omega arith)
