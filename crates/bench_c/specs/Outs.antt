-- The words of `out` for each answer, as include/bench.h lists them: all of them on every call, 0 on a refusal. The values are those that the
-- definitions of the crate `network` read of an answer (moved_packets and so on); the number that the C function returns is the answer's
-- (moved_number and so on). Order: Move, Credit, Look, First, Drain; a step of a dump written, and read. Assumes nothing.
use Rattle.std.specs.Prelude.{List, [], ◌∷◌, ℕ, length, Option}
use Rattle.network.specs.declared.NamedMove.{NamedMove}
use Rattle.network.specs.declared.Stop.{Stop}
use Rattle.network.specs.declared.Drained.{Drained}
use Rattle.network.specs.Refusals.{look_refusal, head}
use Rattle.waveform.specs.declared.StepRead.{StepRead}
use Rattle.waveform.specs.Calls.{written_length, read_headers, read_time, read_named}
use Rattle.network.specs.Calls.{unless_refused, look_part, look_at, moved_packets, credit_free, found_move, drained_moves, drained_delivered, drained_stop, Answer}

-- the number of packets handed out, and the packet word
unfoldable pub moved_out : Answer (Option ℕ) → List ℕ
moved_out m = length (moved_packets m) ∷ head (moved_packets m) ∷ []

-- the free slots
unfoldable pub credit_out : Answer ℕ → List ℕ
credit_out c = credit_free c ∷ []

-- the index of the first held word, and how many are held
unfoldable pub look_out : List ℕ → ℕ → ℕ → List ℕ
look_out w n q = unless_refused (look_refusal w n q) (look_at w n q) 0 ∷ length (look_part w n q) ∷ []

-- whether there is a move, and its node, queue and output
unfoldable pub found_out : Answer (Option NamedMove) → List ℕ
found_out f = length (found_move f) ∷ values (found_move f)
  where
    values : List NamedMove → List ℕ
    values [] = 0 ∷ 0 ∷ 0 ∷ []
    values (m ∷ _) = m.node ∷ m.queue ∷ m.output ∷ []

-- of the stop that is named, if one is
unfoldable pub stop_number : List Stop → ℕ
stop_number [] = 0
stop_number (Stop.Emptied ∷ _) = 0
stop_number (Stop.Spent ∷ _) = 1
stop_number (Stop.Full ∷ _) = 2

-- the moves made, the number delivered, why it stopped
unfoldable pub drained_out : Answer Drained → List ℕ
drained_out d = drained_moves d ∷ drained_delivered d ∷ stop_number (drained_stop d) ∷ []

-- the bytes of the step
unfoldable pub written_out : Answer ℕ → List ℕ
written_out w = written_length w ∷ []

-- 1 for a header, the time stamp, how many variables are named
unfoldable pub read_out : Answer StepRead → List ℕ
read_out s = read_headers s ∷ read_time s ∷ read_named s ∷ []
