-- What a read still brings from a cursor on (R240 to R250): the commands of the lines that end, and the bytes that are pending behind them. The function
-- `next_command` takes one command after another off it. Order: what a line cutter brings; what is to come; told by its next command; carried out.
-- Laws are in ComingLaws.antt. Assumes nothing.
use Rattle.std.specs.Prelude.{List, [], ◌∷◌, map, ℕ, take, drop, Option, None, Some}
use Rattle.sheet.specs.declared.Fed.{Fed}
use Rattle.sheet.specs.declared.Command.{Command}
use Rattle.sheet.specs.Commands.{command_of, kept_command}
use Rattle.sheet.specs.Cutting.{Cutting, feed_bytes}
use Rattle.session.specs.declared.Cursor.{Cursor}
use Rattle.session.specs.Session.{Performed, perform_all}
use Rattle.session.specs.Reads.{sheet, Answered, end_cutting}

-- commands, and then the bytes since the last end of a line, so many, in a buffer
pub record Coming : Type 0 where
  pub commands : List Command
  pub buffer : List ℕ
  pub pending : ℕ

unfoldable pub brought : Cutting → Coming
brought c = record { commands = map kept_command c.handed; buffer = c.buffer; pending = c.pending }

-- a line cutter with so many bytes pending, which has handed nothing on yet
abbrev pub cutter_at : List ℕ → ℕ → Cutting
cutter_at buffer pending = record { handed = []; buffer = buffer; pending = pending }

abbrev pub cursor_at : ℕ → ℕ → Cursor
cursor_at passed pending = record { passed = passed; pending = pending }

-- what the bytes behind the cursor bring. A read of no bytes is the end of the input, and brings a last line that has no end
unfoldable pub coming : List ℕ → List ℕ → Cursor → Coming
coming [] buffer c = brought (end_cutting (cutter_at buffer c.pending))
coming (b ∷ bs) buffer c = brought (feed_bytes (cutter_at buffer c.pending) (drop c.passed (b ∷ bs)))

-- a command and what comes behind it; or that nothing comes any more
abbrev pub command_before : Command → Coming → Coming
command_before command later = record { commands = command ∷ later.commands; buffer = later.buffer; pending = later.pending }

abbrev pub none_coming : List ℕ → ℕ → Coming
none_coming buffer pending = record { commands = []; buffer = buffer; pending = pending }

unfoldable pub coming_by : List ℕ → List ℕ → Cursor → Option Command → Coming
coming_by piece buffer c (Some command) = command_before command (coming piece buffer c)
coming_by piece buffer c None = none_coming buffer c.pending

-- the command of the line that the line cutter hands on, if it does
unfoldable pub fed_command : List ℕ → Fed → Option Command
fed_command buffer (Fed.More p) = None
fed_command buffer (Fed.Line n) = Some (command_of (take n buffer))
fed_command buffer Fed.TooLong = Some Command.Bad

-- what is to come, carried out on a store
unfoldable pub carry_coming : List ℕ → Coming → Answered
carry_coming store c = with (perform_all c.commands store)
  where
    with : Performed → Answered
    with p = record { sheet = sheet p.store c.buffer c.pending; output = p.output }
