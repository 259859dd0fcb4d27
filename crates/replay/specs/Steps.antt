-- A read that is replayed, step by step (R423): a step is a command carried out, or a single move of a D. Order: the bytes of a move; the start of a read; the sheet that the
-- rest of a read leads to, and the same told by its next step; the bytes that it writes, likewise; that there is an end. `piece` is the bytes of the read, `w` the words of the store, `buffer`
-- holds the bytes of a line that are pending. Laws are in StepsLaws.antt. Assumes nothing.
use Rattle.std.specs.Prelude.{◌≡◌, List, [], ◌++◌, ℕ, ◌+◌, ◌*◌, ◌<◌, ◌≤◌, length, take, Option, None, Some}
use Rattle.sheet.specs.Commands.{largest_number}
use Rattle.session.specs.Reads.{Sheet, sheet}
use Rattle.session.specs.Coming.{cursor_at, coming, carry_coming}
use Rattle.replay.specs.declared.Replayed.{Replayed}
use Rattle.replay.specs.declared.ReplayCursor.{ReplayCursor}
use Rattle.replay.specs.Replay.{replayed, moves_bytes, dump_all, FillsOf}

-- the bytes that show a move of a D, none if none was made
unfoldable pub bytes_shown : Option Replayed → ℕ
bytes_shown None = 0
bytes_shown (Some step) = step.bytes

-- no D is under way
abbrev pub read_start : ℕ → ReplayCursor
read_start pending = record { read = cursor_at 0 pending; moves = 0; room = 0 }

-- the D that is under way makes its moves, then the commands that come are carried out as the bench does
unfoldable pub finished : List ℕ → List ℕ → List ℕ → ReplayCursor → Sheet
finished piece w buffer c = (carry_coming (replayed c.moves c.room w) (coming piece buffer c.read)).sheet

unfoldable pub finished_by : List ℕ → List ℕ → List ℕ → ReplayCursor → Option ℕ → Sheet
finished_by piece w buffer c (Some bytes) = finished piece w buffer c
finished_by piece w buffer c None = sheet w buffer c.read.pending

-- the bytes that the rest of a read writes, and the same told by its next step: the first bytes of the page are written, then the others
unfoldable pub unwritten : List ℕ → List ℕ → List ℕ → ReplayCursor → List ℕ
unwritten piece w buffer c = moves_bytes c.moves c.room w ++ dump_all (coming piece buffer c.read).commands (replayed c.moves c.room w)

unfoldable pub unwritten_by : List ℕ → List ℕ → List ℕ → List ℕ → ReplayCursor → Option ℕ → List ℕ
unwritten_by piece w buffer page c (Some bytes) = take bytes page ++ unwritten piece w buffer c
unwritten_by piece w buffer page c None = []

-- a step shows what it is to show, if the list of fills was the store's
unfoldable pub Shows : List ℕ → List ℕ → List ℕ → List ℕ → ReplayCursor → List ℕ → List ℕ → List ℕ → ReplayCursor → Option ℕ → Type 0
Shows piece w buffer list c w' buffer' page' c' r = FillsOf w list → unwritten piece w buffer c ≡ unwritten_by piece w' buffer' page' c' r

-- what is left to do, counted: a command counts more than all the moves that any command asks for
unfoldable pub left_to_do : List ℕ → List ℕ → ReplayCursor → ℕ
left_to_do piece buffer c = length (coming piece buffer c.read).commands * (largest_number + 1) + c.moves

-- a step leaves less to do, and lies within the page
unfoldable pub GoesOn : List ℕ → List ℕ → ReplayCursor → List ℕ → List ℕ → ReplayCursor → Option ℕ → Type 0
GoesOn piece buffer c buffer' page c' (Some bytes) = (left_to_do piece buffer' c' < left_to_do piece buffer c) × (bytes ≤ length page)
GoesOn piece buffer c buffer' page c' None = Unit
