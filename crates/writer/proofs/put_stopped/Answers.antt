-- `writer::put_stopped` meets its contract: the letter and 0, the moves, the stop and the end. Assumes nothing.
use Rattle.std.proofs.Common.{List, [], ◌∷◌, ◌++◌, ℕ}
use Rattle.sheet.specs.Text.{comma}
use Rattle.sheet.specs.Output.{decimal, fields_and_end, line, stop_word, stopped_line, drain_room}
use Rattle.sheet.proofs.Lengths.{stopped-length}
use Rattle.sheet.proofs.Puts.{enough}
use Rattle.fields.proofs.Pages.{Left, all-left, left-room, left-behind}
use Rattle.writer.proofs.put_stopped.Goals as goal
use Rattle.writer.proofs.put_stopped.Goals.{Start}

abbrev xs : List ℕ
xs = 68 ∷ comma ∷ decimal 0

abbrev ys : ℕ → List ℕ
ys moves = comma ∷ decimal moves

all : (s : Start)
    → Left s.args.page.now (stopped_line s.args.moves s.args.stop) s.args.page.now (xs ++ (ys s.args.moves ++ fields_and_end (stop_word s.args.stop ∷ [])))
unfolding stopped_line line fields_and_end
all s =
    all-left s.args.page.now (stopped_line s.args.moves s.args.stop)
    (enough s.args.page.now.out.now s.args.page.now.at (stopped_line s.args.moves s.args.stop) drain_room
    (stopped-length s.args.moves s.args.stop s.ranges.moves.fits)
    s.requires)

pub put_head-requires : goal.put_head-requires
put_head-requires c = left-room xs _ (all (goal.at.put_head-requires c).Start)

pub put_field-requires : goal.put_field-requires
put_field-requires c = left-room (ys c.args.moves) _ (left-behind xs _ (all (goal.at.put_field-requires c).Start) c.put_head.ensures)

pub put_last-requires : goal.put_last-requires
put_last-requires c = (left-behind (ys c.args.moves) _ (left-behind xs _ (all (goal.at.put_last-requires c).Start) c.put_head.ensures) c.put_field.ensures).room

pub returns : goal.returns
returns c = (left-behind (ys c.args.moves) _ (left-behind xs _ (all (goal.at.returns c).Start) c.put_head.ensures) c.put_field.ensures).done _ c.put_last.ensures
