-- `dump_text::put_variable` meets its contract: seven runs of bytes, one behind the other. Assumes nothing.
use Rattle.std.proofs.Common.{◌++◌, ◌/◌, ◌%◌}
use Rattle.sheet.specs.Text.{text}
use Rattle.sheet.specs.Output.{decimal}
use Rattle.network.specs.Sizes.{queues}
use Rattle.waveform.specs.Dump.{variable_line}
use Rattle.fields.proofs.Pages.{Left, all-left, left-room, left-behind}
use Rattle.dump_text.proofs.put_variable.Goals as goal
use Rattle.dump_text.proofs.put_variable.Goals.{Start}

all : (s : Start) → Left s.args.page.now (variable_line s.args.i) s.args.page.now (text "$var wire 8 " ++ (decimal s.args.i ++ (text " n" ++ (decimal (s.args.i / queues) ++ (text "q" ++ (decimal (s.args.i % queues) ++ text " $end\n"))))))
unfolding variable_line
all s = all-left s.args.page.now (variable_line s.args.i) s.requires

pub put_bytes-requires : goal.put_bytes-requires
put_bytes-requires c = left-room (text "$var wire 8 ") _ (all (goal.at.put_bytes-requires c).Start)

pub put_number-requires-clause-room : goal.put_number-requires-clause-room
put_number-requires-clause-room c = left-room (decimal c.args.i) _ (left-behind (text "$var wire 8 ") _ (all (goal.at.put_number-requires-clause-room c).Start) c.put_bytes.ensures)

pub put_bytes-requires-2 : goal.put_bytes-requires-2
put_bytes-requires-2 c = left-room (text " n") _ (left-behind (decimal c.args.i) _ (left-behind (text "$var wire 8 ") _ (all (goal.at.put_bytes-requires-2 c).Start) c.put_bytes.ensures) c.put_number.ensures)

pub put_number-requires-2-clause-room : goal.put_number-requires-2-clause-room
put_number-requires-2-clause-room c = left-room (decimal (c.args.i / queues)) _ (left-behind (text " n") _ (left-behind (decimal c.args.i) _ (left-behind (text "$var wire 8 ") _ (all (goal.at.put_number-requires-2-clause-room c).Start) c.put_bytes.ensures) c.put_number.ensures) c.put_bytes-2.ensures)

pub put_bytes-requires-3 : goal.put_bytes-requires-3
put_bytes-requires-3 c = left-room (text "q") _ (left-behind (decimal (c.args.i / queues)) _ (left-behind (text " n") _ (left-behind (decimal c.args.i) _ (left-behind (text "$var wire 8 ") _ (all (goal.at.put_bytes-requires-3 c).Start) c.put_bytes.ensures) c.put_number.ensures) c.put_bytes-2.ensures) c.put_number-2.ensures)

pub put_number-requires-3-clause-room : goal.put_number-requires-3-clause-room
put_number-requires-3-clause-room c = left-room (decimal (c.args.i % queues)) _ (left-behind (text "q") _ (left-behind (decimal (c.args.i / queues)) _ (left-behind (text " n") _ (left-behind (decimal c.args.i) _ (left-behind (text "$var wire 8 ") _ (all (goal.at.put_number-requires-3-clause-room c).Start) c.put_bytes.ensures) c.put_number.ensures) c.put_bytes-2.ensures) c.put_number-2.ensures) c.put_bytes-3.ensures)

pub put_bytes-requires-4 : goal.put_bytes-requires-4
put_bytes-requires-4 c = (left-behind (decimal (c.args.i % queues)) _ (left-behind (text "q") _ (left-behind (decimal (c.args.i / queues)) _ (left-behind (text " n") _ (left-behind (decimal c.args.i) _ (left-behind (text "$var wire 8 ") _ (all (goal.at.put_bytes-requires-4 c).Start) c.put_bytes.ensures) c.put_number.ensures) c.put_bytes-2.ensures) c.put_number-2.ensures) c.put_bytes-3.ensures) c.put_number-3.ensures).room

pub returns : goal.returns
returns c = (left-behind (decimal (c.args.i % queues)) _ (left-behind (text "q") _ (left-behind (decimal (c.args.i / queues)) _ (left-behind (text " n") _ (left-behind (decimal c.args.i) _ (left-behind (text "$var wire 8 ") _ (all (goal.at.returns c).Start) c.put_bytes.ensures) c.put_number.ensures) c.put_bytes-2.ensures) c.put_number-2.ensures) c.put_bytes-3.ensures) c.put_number-3.ensures).done _ c.put_bytes-4.ensures
