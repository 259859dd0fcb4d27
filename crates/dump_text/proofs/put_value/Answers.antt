-- `dump_text::put_value` meets its contract: five runs of bytes, one behind the other. Assumes nothing.
use Rattle.std.proofs.Common.{[], ◌∷◌, ◌++◌}
use Rattle.sheet.specs.Text.{lf}
use Rattle.sheet.specs.Output.{numeral, decimal}
use Rattle.waveform.specs.Dump.{value_line}
use Rattle.fields.proofs.Pages.{Left, all-left, left-room, left-behind}
use Rattle.dump_text.proofs.put_value.Goals as goal
use Rattle.dump_text.proofs.put_value.Goals.{Start}

all : (s : Start) → Left s.args.page.now (value_line (record { variable = s.args.variable; fill = s.args.fill })) s.args.page.now ((98 ∷ []) ++ (numeral 2 s.args.fill ++ ((32 ∷ []) ++ (decimal s.args.variable ++ (lf ∷ [])))))
unfolding value_line
all s = all-left s.args.page.now (value_line (record { variable = s.args.variable; fill = s.args.fill })) s.requires

pub put_byte-requires : goal.put_byte-requires
put_byte-requires c = left-room (98 ∷ []) _ (all (goal.at.put_byte-requires c).Start)

pub put_number-requires-clause-room : goal.put_number-requires-clause-room
put_number-requires-clause-room c = left-room (numeral 2 c.args.fill) _ (left-behind (98 ∷ []) _ (all (goal.at.put_number-requires-clause-room c).Start) c.put_byte.ensures)

pub put_byte-requires-2 : goal.put_byte-requires-2
put_byte-requires-2 c = left-room (32 ∷ []) _ (left-behind (numeral 2 c.args.fill) _ (left-behind (98 ∷ []) _ (all (goal.at.put_byte-requires-2 c).Start) c.put_byte.ensures) c.put_number.ensures)

pub put_number-requires-2-clause-room : goal.put_number-requires-2-clause-room
put_number-requires-2-clause-room c = left-room (decimal c.args.variable) _ (left-behind (32 ∷ []) _ (left-behind (numeral 2 c.args.fill) _ (left-behind (98 ∷ []) _ (all (goal.at.put_number-requires-2-clause-room c).Start) c.put_byte.ensures) c.put_number.ensures) c.put_byte-2.ensures)

pub put_byte-requires-3 : goal.put_byte-requires-3
put_byte-requires-3 c = (left-behind (decimal c.args.variable) _ (left-behind (32 ∷ []) _ (left-behind (numeral 2 c.args.fill) _ (left-behind (98 ∷ []) _ (all (goal.at.put_byte-requires-3 c).Start) c.put_byte.ensures) c.put_number.ensures) c.put_byte-2.ensures) c.put_number-2.ensures).room

pub returns : goal.returns
returns c = (left-behind (decimal c.args.variable) _ (left-behind (32 ∷ []) _ (left-behind (numeral 2 c.args.fill) _ (left-behind (98 ∷ []) _ (all (goal.at.returns c).Start) c.put_byte.ensures) c.put_number.ensures) c.put_byte-2.ensures) c.put_number-2.ensures).done _ c.put_byte-3.ensures
