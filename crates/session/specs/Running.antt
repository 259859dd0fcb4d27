-- What the code says of itself where it answers a sheet: facts of lent buffers that the definitions do not name. Order: the line cutter's answer; an
-- answer under way. Laws are in RunningLaws.antt. Assumes nothing.
use Rattle.std.specs.Prelude.{◌≡◌, List, ℕ, ◌+◌, ◌*◌, ◌≤◌, length}
use Rattle.sheet.specs.declared.Fed.{Fed}
use Rattle.sheet.specs.Output.{Put}
use Rattle.session.specs.Session.{command_room}
use Rattle.session.specs.Reads.{Answered, printed_before}
use Rattle.session.specs.Coming.{Coming, carry_coming}

-- the line that is handed on stands in the buffer
unfoldable pub LineWithin : Fed → List ℕ → Type 0
LineWithin (Fed.More p) buffer = Unit
LineWithin (Fed.Line n) buffer = n ≤ length buffer
LineWithin Fed.TooLong buffer = Unit

-- an answer under way: what is printed stands at the start of the buffer `out`, what still comes makes the answer whole, and has room
pub record Answering (answer : Answered) (out store : List ℕ) (later : Coming) (out' : List ℕ) (at : ℕ) : Type 0 where
  pub printed : List ℕ
  pub puts : Put out 0 printed out' at
  pub whole : answer ≡ printed_before printed (carry_coming store later)
  pub room : at + length later.commands * command_room ≤ length out
