-- `session::next_command` meets its contract. The loop's invariant: what comes from here on is what came at the start. Assumes nothing.
use Rattle.std.proofs.Common.{◌≡◌, length}
use Rattle.session.specs.Coming.{cursor_at, coming}
use Rattle.session.proofs.next_command.Given as goal

abbrev pub invariant-loop-i : goal.invariant-loop-i
invariant-loop-i l = (length l.line ≡ length l.initial.line) × (coming l.piece l.initial.line l.initial.cursor ≡ coming l.piece l.line (cursor_at l.i l.cursor.pending))
