-- No step is lost for want of room: where list and page have room for every network that the store can hold, every command that changes something and every move of a D is
-- shown by its whole step (`command-whole`, `move-whole`); and whatever room there is, a step lies within the page. Order: a step within the page; a whole
-- step; the words that are shown are a network, and as many as before; the theorems. Assumes nothing.
use Rattle.std.specs.Prelude.{Bool, List, ◌++◌, ℕ, ◌/◌, ◌≤◌, length, drop}
use Rattle.network.specs.Layout.{shape}
use Rattle.waveform.specs.Dump.{variables_of}
use Rattle.waveform.specs.Lengths.{page_room}
use Rattle.waveform.specs.Calls.{fills_now, written_step}
use Rattle.replay.specs.Replay.{Shown, shown}

-- room for every network that so many words can hold: a queue has two words at least
abbrev pub held_variables : ℕ → ℕ
held_variables words = words / 2

pub record Roomy (words : ℕ) (list page : List ℕ) : Type 0 where
  pub fills : held_variables words ≤ length list
  pub bytes : page_room (held_variables words) ≤ length page

-- the whole step: its bytes, and behind them the page as it was; the fills, and behind them the list as it was
unfoldable pub whole_step : Bool → List ℕ → List ℕ → List ℕ → Shown
whole_step first w list page =
    shown (length (written_step first w list)) (fills_now w ++ drop (variables_of (shape w)) list)
    (written_step first w list ++ drop (length (written_step first w list)) page)
