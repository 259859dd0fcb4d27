-- `dump_text::put_stamp` meets its contract: three runs of bytes, one behind the other. Assumes nothing.
use Rattle.std.proofs.Common.{[], ◌∷◌, ◌++◌}
use Rattle.sheet.specs.Text.{lf}
use Rattle.sheet.specs.Output.{decimal}
use Rattle.waveform.specs.Dump.{stamp_line}
use Rattle.fields.proofs.Pages.{Left, all-left, left-room, left-behind}
use Rattle.dump_text.proofs.put_stamp.Goals as goal
use Rattle.dump_text.proofs.put_stamp.Goals.{Start}

all : (s : Start) → Left s.args.page.now (stamp_line s.args.time) s.args.page.now ((35 ∷ []) ++ (decimal s.args.time ++ (lf ∷ [])))
unfolding stamp_line
all s = all-left s.args.page.now (stamp_line s.args.time) s.requires

pub put_byte-requires : goal.put_byte-requires
put_byte-requires c = left-room (35 ∷ []) _ (all (goal.at.put_byte-requires c).Start)

pub put_number-requires-clause-room : goal.put_number-requires-clause-room
put_number-requires-clause-room c = left-room (decimal c.args.time) _ (left-behind (35 ∷ []) _ (all (goal.at.put_number-requires-clause-room c).Start) c.put_byte.ensures)

pub put_byte-requires-2 : goal.put_byte-requires-2
put_byte-requires-2 c = (left-behind (decimal c.args.time) _ (left-behind (35 ∷ []) _ (all (goal.at.put_byte-requires-2 c).Start) c.put_byte.ensures) c.put_number.ensures).room

pub returns : goal.returns
returns c = (left-behind (decimal c.args.time) _ (left-behind (35 ∷ []) _ (all (goal.at.returns c).Start) c.put_byte.ensures) c.put_number.ensures).done _ c.put_byte-2.ensures
