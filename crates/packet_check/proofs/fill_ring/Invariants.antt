-- `packet_check::fill_ring` meets its contract. The loop's invariant: the first j words of the ring's part are filled. Assumes nothing.
use Rattle.std.proofs.Common.{◌≡◌, ◌*◌, ◌%◌}
use Rattle.packet_check.specs.Tables.{dimension_words, PartWritten}
use Rattle.packet_check.proofs.fill_ring.Given as goal

abbrev pub invariant-loop-j : goal.invariant-loop-j
invariant-loop-j l = PartWritten l.initial.tables l.tables (l.i * dimension_words) l.j (λ m. l.weight * (m % l.k)) × (l.c ≡ l.j % l.k)
