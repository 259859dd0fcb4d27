-- `writer::put_line` meets its contract: a letter and a number, then the end. Assumes nothing.
use Rattle.std.proofs.Common.{[], ◌∷◌, ◌++◌}
use Rattle.sheet.specs.Text.{comma, cr, lf}
use Rattle.sheet.specs.Output.{decimal, fields_and_end, line, answer_line}
use Rattle.fields.proofs.Pages.{Left, all-left, left-room, left-behind}
use Rattle.writer.proofs.put_line.Goals as goal
use Rattle.writer.proofs.put_line.Goals.{Start}

all : (s : Start) → Left s.args.page.now (answer_line s.args.letter s.args.n) s.args.page.now ((s.args.letter ∷ comma ∷ decimal s.args.n) ++ (cr ∷ lf ∷ []))
unfolding answer_line line fields_and_end
all s = all-left s.args.page.now (answer_line s.args.letter s.args.n) s.requires

pub put_head-requires : goal.put_head-requires
put_head-requires c = left-room (c.args.letter ∷ comma ∷ decimal c.args.n) _ (all (goal.at.put_head-requires c).Start)

pub put_end-requires : goal.put_end-requires
put_end-requires c = (left-behind (c.args.letter ∷ comma ∷ decimal c.args.n) _ (all (goal.at.put_end-requires c).Start) c.put_head.ensures).room

pub returns : goal.returns
returns c = (left-behind (c.args.letter ∷ comma ∷ decimal c.args.n) _ (all (goal.at.returns c).Start) c.put_head.ensures).done _ c.put_end.ensures
