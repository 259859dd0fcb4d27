-- `packet_check::fill` meets its contract. The loop's invariant: the first j words of the part are filled. Assumes nothing.
use Rattle.std.proofs.Common.{◌≡◌, ℕ, ◌+◌, ◌<◌, length, get_or}
use Rattle.packet_check.proofs.fill.Given as goal

abbrev pub invariant-loop-j : goal.invariant-loop-j
invariant-loop-j g l =
    (length l.tables ≡ length l.initial.tables)
    × ((m : ℕ) → m < l.j → goal.F-post g l.value m (get_or l.tables (l.start + m) 0))
    × ((m : ℕ) → m < l.start → get_or l.tables m 0 ≡ get_or l.initial.tables m 0)
