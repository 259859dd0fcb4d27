-- `replay::next_line` meets its contract, by whether a command comes. Assumes nothing.
use Rattle.std.proofs.Common.{◌≡◌, Some, List, ℕ, ◌≤◌, length, rules}
use Rattle.sheet.specs.declared.Command.{Command}
use Rattle.sheet.specs.Commands.{largest_number}
use Rattle.session.specs.declared.Cursor.{Cursor}
use Rattle.session.specs.Session.{ledger_words, store_words}
use Rattle.session.specs.Coming.{coming, command_before}
use Rattle.session.proofs.ComingLaws.{next-given, next-none}
use Rattle.replay.specs.declared.ReplayCursor.{ReplayCursor}
use Rattle.replay.specs.Replay.{shown, carried_out, command_shown, moves_asked, FillsOf}
use Rattle.replay.specs.Whole.{Roomy}
use Rattle.replay.proofs.FillsLaws.{command-tells}
use Rattle.replay.specs.Steps.{finished, finished_by, Shows, GoesOn}
use Rattle.replay.specs.StepsLaws.{replay_at}
use Rattle.replay.proofs.StepsLaws.{command-made, read-ended, onward-leads, onward-shows, command-fewer}
use Rattle.replay.proofs.next_line.Goals as goal
use Rattle.replay.proofs.next_line.Goals.{After-carry_out-bytes}

-- a command that is carried out: what it tells
told : (piece w v line line' list list' page page' : List ℕ) (c : ReplayCursor) (command : Command) (behind : Cursor) (bytes moves : ℕ) → c.moves ≡ 0
    → Roomy store_words list page → length w ≤ store_words → coming piece line c.read ≡ command_before command (coming piece line' behind) → v ≡ carried_out command w
    → shown bytes list' page' ≡ command_shown command w list page → moves ≡ moves_asked command → moves ≤ largest_number → bytes ≤ length page
    → (finished piece w line c ≡ finished_by piece v line' (replay_at behind moves ledger_words) (Some bytes))
    × (Shows piece w line list c v line' page' (replay_at behind moves ledger_words) (Some bytes)
    × ((FillsOf w list → FillsOf v list') × GoesOn piece line c line' page (replay_at behind moves ledger_words) (Some bytes)))
told piece w v line line' list list' page page' c command behind bytes moves none roomy few e does shows asks most within =
    let on = command-made piece w line c none v line' command behind moves e does asks in (
      onward-leads on bytes,
      (
        onward-shows on bytes list page' (λ is. (command-tells store_words w list page roomy few is command does shows).page),
        (
          λ is. (command-tells store_words w list page roomy few is command does shows).list,
          command-fewer piece line c line' command behind moves ledger_words bytes page e most within,
        ),
      ),
    )

few : (c : After-carry_out-bytes) → length c.args.store.now ≤ store_words
few c = search rules

-- on the page, by the list of fills
shows : (c : After-carry_out-bytes)
    → shown c.carry_out-bytes.result c.carry_out-bytes.new.fills c.carry_out-bytes.new.page
    ≡ command_shown c.in_ok-command.command c.args.store.now c.args.fills.now c.args.page.now
shows c = c.carry_out-bytes.ensures.shown

pub returns : goal.returns
returns c =
    let does = c.carry_out-bytes.ensures in
    let all =
    told _ _ _ _ _ _ _ _ _ _ _ _ _ _ c.requires.moves_value c.requires.roomy (few (goal.at.returns c).After-carry_out-bytes) (next-given _ _ _ c.next_command.ensures c.in_ok-command.was) does.store (shows (goal.at.returns c).After-carry_out-bytes)
    c.moves_asked-moves.ensures (search rules) does.within in
    record { sheet = all.0; shown = all.1.0; fills = all.1.1.0; onward = all.1.1.1 }

pub returns-in_err-command : goal.returns-in_err-command
returns-in_err-command c =
    let e = next-none _ _ _ c.next_command.ensures c.in_err-command.was in
    let behind : ReplayCursor = record { read = c.next_command.new.cursor; moves = c.args.cursor.now.moves; room = c.args.cursor.now.room } in
    let ended = read-ended c.args.piece.now c.args.store.now c.args.line.now c.args.cursor.now c.requires.moves_value _ behind e in
    let rest = ended.1 c.args.fills.now c.args.page.now in
    rw c.from_residual.ensures (record { sheet = ended.0; shown = rest.0; fills = λ is. is; onward = rest.1 })
