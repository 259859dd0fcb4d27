-- R423, R424: a sheet replayed, step by step. Order: a step that is shown; the commands that are one step; a D, move by move; what is written, told by the
-- words alone. `w` is the words of the store, `list` the list of fills and `page` the page before it. Assumes nothing.
use Rattle.std.specs.Prelude.{◌≡◌, Bool, true, false, not, cond, List, [], ◌∷◌, ◌++◌, map, ℕ, zero, suc, ◌-◌, eqb, take}
use Rattle.network.specs.declared.Drained.{Drained}
use Rattle.network.specs.Sizes.{shape_of, sized}
use Rattle.network.specs.Layout.{shape, moves_made}
use Rattle.network.specs.Refusals.{network_refusal, make_refusal, offer_refusal, move_refusal}
use Rattle.network.specs.Calls.{Answer, drain_words, drain_answer, drained_moves, drained_delivered}
use Rattle.sheet.specs.declared.Command.{Command}
use Rattle.sheet.specs.Lines.{lines}
use Rattle.sheet.specs.Commands.{command_of}
use Rattle.session.specs.Session.{perform, ledger_words, new_store}
use Rattle.waveform.specs.Dump.{variables_of, step_bytes}
use Rattle.waveform.specs.Calls.{fills_now, write_answer, write_list, write_page, written_length}

-- a step on the page: its bytes are the first so many, none where nothing is shown; and the list of fills then
pub record Shown : Type 0 where
  pub bytes : ℕ
  pub list : List ℕ
  pub page : List ℕ

abbrev pub shown : ℕ → List ℕ → List ℕ → Shown
shown bytes list page = record { bytes = bytes; list = list; page = page }

-- the step of these words, a header if it is the first of a dump
unfoldable pub step_shown : Bool → List ℕ → List ℕ → List ℕ → Shown
step_shown first w list page =
    shown (written_length (write_answer first w list page)) (write_list first w list page) (write_page first w list page)

-- R423: a step where something has changed
unfoldable pub shown_if : Bool → Bool → List ℕ → List ℕ → List ℕ → Shown
shown_if changed first w list page = cond changed (step_shown first w list page) (shown 0 list page)

-- what a command does at once: all that the bench does, but for a D, whose moves come one by one
unfoldable pub carried_out : Command → List ℕ → List ℕ
carried_out (Command.Make x y z e a j) w = (perform (Command.Make x y z e a j) w).store
carried_out (Command.Offer node destination tag chunks) w = (perform (Command.Offer node destination tag chunks) w).store
carried_out (Command.Move node queue output) w = (perform (Command.Move node queue output) w).store
carried_out (Command.Drain budget) w = w
carried_out Command.Bad w = (perform Command.Bad w).store

-- whether that changes something: a T, an O or an M that is answered 0
unfoldable pub changed : Command → List ℕ → Bool
changed (Command.Make x y z e a j) w = eqb (make_refusal (shape_of (sized x y z e a j)) w) 0
changed (Command.Offer node destination tag chunks) w = eqb (offer_refusal w node destination chunks) 0
changed (Command.Move node queue output) w = eqb (move_refusal w node queue output) 0
changed (Command.Drain budget) w = false
changed Command.Bad w = false

-- R424: a T begins a new dump
unfoldable pub begins_dump : Command → Bool
begins_dump (Command.Make x y z e a j) = true
begins_dump (Command.Offer node destination tag chunks) = false
begins_dump (Command.Move node queue output) = false
begins_dump (Command.Drain budget) = false
begins_dump Command.Bad = false

unfoldable pub command_shown : Command → List ℕ → List ℕ → List ℕ → Shown
command_shown c w list page = shown_if (changed c w) (begins_dump c) (carried_out c w) list page

-- the moves that a command asks for besides
unfoldable pub moves_asked : Command → ℕ
moves_asked (Command.Make x y z e a j) = 0
moves_asked (Command.Offer node destination tag chunks) = 0
moves_asked (Command.Move node queue output) = 0
moves_asked (Command.Drain budget) = budget
moves_asked Command.Bad = 0

-- R423, a D with so many words of its ledger left (R246), move by move: each is a Drain with a budget of one move, and a ledger of one word while one is left
unfoldable pub one_word : ℕ → ℕ
one_word zero = 0
one_word (suc room) = 1

abbrev pub move_told : List ℕ → ℕ → Answer Drained
move_told w room = drain_answer w 1 (one_word room)

unfoldable pub moved_on : List ℕ → ℕ → List ℕ
moved_on w room = drain_words w 1 (one_word room)

unfoldable pub makes_move : List ℕ → ℕ → Bool
makes_move w room = not (eqb (drained_moves (move_told w room)) 0)

unfoldable pub room_left : List ℕ → ℕ → ℕ
room_left w room = room - drained_delivered (move_told w room)

unfoldable pub move_shown : List ℕ → ℕ → List ℕ → List ℕ → Shown
move_shown w room list page = shown_if (makes_move w room) false (moved_on w room) list page

-- and the words after at most so many moves, until none is made
unfoldable pub replayed : ℕ → ℕ → List ℕ → List ℕ
replayed zero room w = w
replayed (suc budget) room w = cond (makes_move w room) (replayed budget (room_left w room) (moved_on w room)) w

-- What is written (R423), told by the words before each step and behind it; and the list of fills between the steps --------------------

-- the step behind words `w` that shows words `v`: a header tells all fills, a later step those that differ
unfoldable pub step_behind : Bool → List ℕ → List ℕ → List ℕ
step_behind first w v = step_bytes first (moves_made v) (fills_now v) (fills_now w)

unfoldable pub command_bytes : Command → List ℕ → List ℕ
command_bytes c w = cond (changed c w) (step_behind (begins_dump c) w (carried_out c w)) []

unfoldable pub move_bytes : List ℕ → ℕ → List ℕ
move_bytes w room = cond (makes_move w room) (step_behind false w (moved_on w room)) []

unfoldable pub moves_bytes : ℕ → ℕ → List ℕ → List ℕ
moves_bytes zero room w = []
moves_bytes (suc budget) room w = move_bytes w room ++ cond (makes_move w room) (moves_bytes budget (room_left w room) (moved_on w room)) []

-- commands one after another
unfoldable pub dump_all : List Command → List ℕ → List ℕ
dump_all [] w = []
dump_all (c ∷ cs) w = command_bytes c w ++ (moves_bytes (moves_asked c) ledger_words (carried_out c w) ++ dump_all cs (perform c w).store)

-- the bytes that the program writes, of those that it reads
unfoldable pub sheet_dump : List ℕ → List ℕ
sheet_dump input = dump_all (map command_of (lines input)) new_store

-- the list of fills is the store's: where the store is a network, it begins with that network's fills
unfoldable pub FillsOf : List ℕ → List ℕ → Type 0
FillsOf w list = network_refusal w ≡ 0 → take (variables_of (shape w)) list ≡ fills_now w
