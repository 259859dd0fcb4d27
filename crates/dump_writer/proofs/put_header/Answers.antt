-- `dump_writer::put_header` meets its contract: seven runs of bytes, one behind the other. Assumes nothing.
use Rattle.std.proofs.Common.{true, ◌++◌, length}
use Rattle.waveform.specs.Dump.{variables_begin, variables_end, values_begin, values_end, variable_lines, stamp_line, value_lines, changes, step_bytes}
use Rattle.fields.proofs.Pages.{Left, all-left, left-room, left-behind}
use Rattle.dump_writer.proofs.put_header.Goals as goal
use Rattle.dump_writer.proofs.put_header.Goals.{Start}

all : (s : Start) → Left s.args.page.now (step_bytes true s.args.time s.args.counts.now s.args.fills.now) s.args.page.now (variables_begin ++ (variable_lines 0 (length s.args.counts.now) ++ (variables_end ++ (stamp_line s.args.time ++ (values_begin ++ (value_lines (changes true s.args.counts.now s.args.fills.now) ++ values_end))))))
unfolding step_bytes
all s = all-left s.args.page.now (step_bytes true s.args.time s.args.counts.now s.args.fills.now) s.requires.room

pub put_bytes-requires : goal.put_bytes-requires
put_bytes-requires c = left-room variables_begin _ (all (goal.at.put_bytes-requires c).Start)

pub put_variables-requires : goal.put_variables-requires
put_variables-requires c = left-room (variable_lines 0 (length c.args.counts.now)) _ (left-behind variables_begin _ (all (goal.at.put_variables-requires c).Start) c.put_bytes.ensures)

pub put_bytes-requires-2 : goal.put_bytes-requires-2
put_bytes-requires-2 c = left-room variables_end _ (left-behind (variable_lines 0 (length c.args.counts.now)) _ (left-behind variables_begin _ (all (goal.at.put_bytes-requires-2 c).Start) c.put_bytes.ensures) c.put_variables.ensures)

pub put_stamp-requires : goal.put_stamp-requires
put_stamp-requires c = left-room (stamp_line c.args.time) _ (left-behind variables_end _ (left-behind (variable_lines 0 (length c.args.counts.now)) _ (left-behind variables_begin _ (all (goal.at.put_stamp-requires c).Start) c.put_bytes.ensures) c.put_variables.ensures) c.put_bytes-2.ensures)

pub put_bytes-requires-3 : goal.put_bytes-requires-3
put_bytes-requires-3 c = left-room values_begin _ (left-behind (stamp_line c.args.time) _ (left-behind variables_end _ (left-behind (variable_lines 0 (length c.args.counts.now)) _ (left-behind variables_begin _ (all (goal.at.put_bytes-requires-3 c).Start) c.put_bytes.ensures) c.put_variables.ensures) c.put_bytes-2.ensures) c.put_stamp.ensures)

pub put_values-requires-clause-room : goal.put_values-requires-clause-room
put_values-requires-clause-room c = left-room (value_lines (changes true c.args.counts.now c.args.fills.now)) _ (left-behind values_begin _ (left-behind (stamp_line c.args.time) _ (left-behind variables_end _ (left-behind (variable_lines 0 (length c.args.counts.now)) _ (left-behind variables_begin _ (all (goal.at.put_values-requires-clause-room c).Start) c.put_bytes.ensures) c.put_variables.ensures) c.put_bytes-2.ensures) c.put_stamp.ensures) c.put_bytes-3.ensures)

pub put_bytes-requires-4 : goal.put_bytes-requires-4
put_bytes-requires-4 c = (left-behind (value_lines (changes true c.args.counts.now c.args.fills.now)) _ (left-behind values_begin _ (left-behind (stamp_line c.args.time) _ (left-behind variables_end _ (left-behind (variable_lines 0 (length c.args.counts.now)) _ (left-behind variables_begin _ (all (goal.at.put_bytes-requires-4 c).Start) c.put_bytes.ensures) c.put_variables.ensures) c.put_bytes-2.ensures) c.put_stamp.ensures) c.put_bytes-3.ensures) c.put_values.ensures).room

pub returns : goal.returns
returns c = (left-behind (value_lines (changes true c.args.counts.now c.args.fills.now)) _ (left-behind values_begin _ (left-behind (stamp_line c.args.time) _ (left-behind variables_end _ (left-behind (variable_lines 0 (length c.args.counts.now)) _ (left-behind variables_begin _ (all (goal.at.returns c).Start) c.put_bytes.ensures) c.put_variables.ensures) c.put_bytes-2.ensures) c.put_stamp.ensures) c.put_bytes-3.ensures) c.put_values.ensures).done _ c.put_bytes-4.ensures
