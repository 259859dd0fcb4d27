-- Laws of what a read still brings. Order: told by its next command; a read is what comes from its start on; a byte is passed; no byte is left; the end of the input; a command is
-- carried out; how many commands come at most. Assumes nothing.
use Rattle.std.specs.Prelude.{List, ◌++◌, map, ℕ}
use Rattle.sheet.specs.declared.Fed.{Fed}
use Rattle.sheet.specs.Commands.{kept_command}
use Rattle.sheet.specs.Cutting.{handed_on, pending_after, Cutting}
use Rattle.session.specs.Coming.{Coming}

-- a line cutter that has just answered so, and the line that it hands on in front of what comes then
abbrev pub answered : List ℕ → Fed → Cutting
answered buffer fed = record { handed = handed_on buffer fed; buffer = buffer; pending = pending_after fed }

abbrev pub line_before : List ℕ → Fed → Coming → Coming
line_before buffer fed later =
    record { commands = map kept_command (handed_on buffer fed) ++ later.commands; buffer = later.buffer; pending = later.pending }
