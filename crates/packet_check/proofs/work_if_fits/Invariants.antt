-- `packet_check::work_if_fits` meets its contract. The loop's invariant: the dimensions before i are judged. Assumes nothing.
use Rattle.packet_check.proofs.Judged.{Judged}
use Rattle.packet_check.proofs.work_if_fits.Given as goal

abbrev pub invariant-loop-i : goal.invariant-loop-i
invariant-loop-i l = Judged l.s (record { at = l.at }) l.q l.p l.i l.node l.work
