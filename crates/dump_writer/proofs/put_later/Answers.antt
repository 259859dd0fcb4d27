-- `dump_writer::put_later` meets its contract: two runs of bytes, one behind the other. Assumes nothing.
use Rattle.std.proofs.Common.{false, ◌++◌}
use Rattle.waveform.specs.Dump.{stamp_line, value_lines, changes, step_bytes}
use Rattle.fields.proofs.Pages.{Left, all-left, left-room, left-behind}
use Rattle.dump_writer.proofs.put_later.Goals as goal
use Rattle.dump_writer.proofs.put_later.Goals.{Start}

all : (s : Start) → Left s.args.page.now (step_bytes false s.args.time s.args.counts.now s.args.fills.now) s.args.page.now (stamp_line s.args.time ++ value_lines (changes false s.args.counts.now s.args.fills.now))
unfolding step_bytes
all s = all-left s.args.page.now (step_bytes false s.args.time s.args.counts.now s.args.fills.now) s.requires.room

pub put_stamp-requires : goal.put_stamp-requires
put_stamp-requires c = left-room (stamp_line c.args.time) _ (all (goal.at.put_stamp-requires c).Start)

pub put_values-requires-clause-room : goal.put_values-requires-clause-room
put_values-requires-clause-room c = (left-behind (stamp_line c.args.time) _ (all (goal.at.put_values-requires-clause-room c).Start) c.put_stamp.ensures).room

pub returns : goal.returns
returns c = (left-behind (stamp_line c.args.time) _ (all (goal.at.returns c).Start) c.put_stamp.ensures).done _ c.put_values.ensures
