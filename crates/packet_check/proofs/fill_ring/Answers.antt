-- `packet_check::fill_ring` meets its contract: the goals that the check does not find by itself. Assumes nothing.
use Rattle.std.proofs.Common.{ap, ℕ, ◌*◌, arith}
use Rattle.packet_check.proofs.TableLaws.{filled_more, carried}
use Rattle.packet_check.proofs.fill_ring.Goals as goal

pub loop-j-preserved : goal.loop-j-preserved
loop-j-preserved c =
    let e = c.loop-j.invariant.1 in
    (filled_more _ _ _ _ _ _ (omega arith) c.loop-j.invariant.0 (ap (λ (n : ℕ). c.args.weight * n) e), carried _ _ _ _ e c.next_on_ring-c.ensures)
