-- `fields::Page::put_last` meets its contract: the comma, the word, the end. Assumes nothing.
use Rattle.std.proofs.Common.{[], ◌∷◌, ◌++◌}
use Rattle.sheet.specs.Text.{comma, cr, lf}
use Rattle.sheet.specs.Output.{fields_and_end, stop_word}
use Rattle.fields.proofs.Pages.{Left, all-left, left-room, left-behind}
use Rattle.fields.proofs.Page.put_last.Goals as goal
use Rattle.fields.proofs.Page.put_last.Goals.{Start}

all : (s : Start) → Left s.args.self.now (fields_and_end (stop_word s.args.stop ∷ [])) s.args.self.now ((comma ∷ []) ++ (stop_word s.args.stop ++ (cr ∷ lf ∷ [])))
unfolding fields_and_end
all s = all-left s.args.self.now (fields_and_end (stop_word s.args.stop ∷ [])) s.requires

pub put_byte-requires : goal.put_byte-requires
put_byte-requires c = left-room (comma ∷ []) _ (all (goal.at.put_byte-requires c).Start)

pub put_stop-requires : goal.put_stop-requires
put_stop-requires c = left-room (stop_word c.args.stop) _ (left-behind (comma ∷ []) _ (all (goal.at.put_stop-requires c).Start) c.put_byte.ensures)

pub put_end-requires : goal.put_end-requires
put_end-requires c = (left-behind (stop_word c.args.stop) _ (left-behind (comma ∷ []) _ (all (goal.at.put_end-requires c).Start) c.put_byte.ensures) c.put_stop.ensures).room

pub returns : goal.returns
returns c =
    (left-behind (stop_word c.args.stop) _ (left-behind (comma ∷ []) _ (all (goal.at.returns c).Start) c.put_byte.ensures) c.put_stop.ensures).done _ c.put_end.ensures
