-- `replay::next_move` meets its contract, by whether a move was made. Assumes nothing.
use Rattle.std.proofs.Common.{◌≡◌, Some, sym, List, ℕ, ◌<◌, ◌≤◌, arith, length, rules}
use Rattle.session.specs.Session.{store_words}
use Rattle.replay.specs.declared.ReplayCursor.{ReplayCursor}
use Rattle.replay.specs.Replay.{shown, moved_on, move_shown, move_bytes, FillsOf}
use Rattle.replay.specs.Whole.{Roomy}
use Rattle.replay.proofs.FillsLaws.{move-tells}
use Rattle.replay.specs.Steps.{bytes_shown, finished, finished_by, Shows, GoesOn}
use Rattle.replay.specs.StepsLaws.{replay_at, Onward}
use Rattle.replay.proofs.StepsLaws.{move-made, move-ended, onward-leads, onward-shows, move-fewer}
use Rattle.replay.proofs.next_move.Goals as goal
use Rattle.replay.proofs.next_move.Goals.{After-drain_move}

-- a move made or none: what it tells, whatever the read brings behind it
told : (w v list list' page page' : List ℕ) (c : ReplayCursor) (bytes moves room : ℕ)
    → ((piece line : List ℕ) → Onward piece w line c (move_bytes w c.room) v line (replay_at c.read moves room))
    → Roomy store_words list page → length w ≤ store_words → v ≡ moved_on w c.room → shown bytes list' page' ≡ move_shown w c.room list page
    → moves < c.moves → bytes ≤ length page
    → ((piece line : List ℕ) → finished piece w line c ≡ finished_by piece v line (replay_at c.read moves room) (Some bytes))
    × (((piece line : List ℕ) → Shows piece w line list c v line page' (replay_at c.read moves room) (Some bytes))
    × ((FillsOf w list → FillsOf v list') × ((piece line : List ℕ) → GoesOn piece line c line page (replay_at c.read moves room) (Some bytes))))
told w v list list' page page' c bytes moves room o roomy few e h less within = (
  λ piece line. onward-leads (o piece line) bytes,
  (
    λ piece line. onward-shows (o piece line) bytes list page' (λ is. (move-tells store_words w list page roomy few is c.room e h).page),
    (λ is. (move-tells store_words w list page roomy few is c.room e h).list, λ piece line. move-fewer piece line c moves room bytes page less within),
  ),
)

few : (c : After-drain_move) → length c.args.store.now ≤ store_words
few c = search rules

pub returns-in-Some : goal.returns-in-Some
unfolding bytes_shown
returns-in-Some c =
    let move = c.in-Some.ensures in
    let some = c.requires.moves_nonzero in
    let all =
    told _ _ _ _ _ _ _ _ _ _ (λ piece line. move-made piece _ line _ some _ move.store _ (sym move.moved) move.room) c.requires.roomy (few (goal.at.returns-in-Some c).After-drain_move) move.store
    move.shown (omega arith) move.within in
    record { sheet = all.0; shown = all.1.0; fills = all.1.1.0; onward = all.1.1.1 }

pub returns-in-None : goal.returns-in-None
unfolding bytes_shown
returns-in-None c =
    let move = c.in-None.ensures in
    let some = c.requires.moves_nonzero in
    let all =
    told _ _ _ _ _ _ _ _ 0 0 (λ piece line. move-ended piece _ line _ some _ move.store (sym move.moved)) c.requires.roomy (few (goal.at.returns-in-None c).After-drain_move) move.store
    move.shown some (omega arith) in
    record { sheet = all.0; shown = all.1.0; fills = all.1.1.0; onward = all.1.1.1 }
