-- The bench program (RULES R243 to R257): what a sheet does to the store and what it prints. Order: a command; commands one after another; the output of a
-- whole input. Assumes nothing.
use Rattle.std.specs.Prelude.{List, [], ◌∷◌, ◌++◌, map, ℕ, ◌+◌, ◌*◌, replicate}
use Prim.Native.Char.{code}
use Rattle.network.specs.Sizes.{shape_of, sized}
use Rattle.network.specs.Refusals.{make_refusal, offer_refusal}
use Rattle.network.specs.Calls.{make_words, offer_words, move_words, move_answer, drain_words, drain_ledger, drain_answer}
use Rattle.sheet.specs.declared.Command.{Command}
use Rattle.sheet.specs.Lines.{lines}
use Rattle.sheet.specs.Commands.{command_of}
use Rattle.sheet.specs.Output.{bad_line_answer, answer_line, moved_lines, drained_lines, packet_room, drain_room}

-- the store as a command leaves it, and the bytes that it prints
pub record Performed : Type 0 where
  pub store : List ℕ
  pub output : List ℕ

-- R246: each D has a ledger of its own
abbrev pub ledger_words : ℕ
ledger_words = 64

abbrev pub new_ledger : List ℕ
new_ledger = replicate ledger_words 0

-- R243 to R246, R248: which call a command is, and what it prints
unfoldable pub perform : Command → List ℕ → Performed
perform (Command.Make x y z e a j) w =
    record { store = make_words (shape_of (sized x y z e a j)) w; output = answer_line (code "T") (make_refusal (shape_of (sized x y z e a j)) w) }
perform (Command.Offer node destination tag chunks) w =
    record { store = offer_words w node destination tag chunks; output = answer_line (code "O") (offer_refusal w node destination chunks) }
perform (Command.Move node queue output) w = record { store = move_words w node queue output; output = moved_lines (move_answer w node queue output) }
perform (Command.Drain budget) w =
    record {
      store = drain_words w budget ledger_words;
      output = drained_lines (drain_answer w budget ledger_words) (drain_ledger w budget new_ledger);
    }
perform Command.Bad w = record { store = w; output = bad_line_answer }

-- one command after another on the same store, what they print joined
unfoldable pub perform_all : List Command → List ℕ → Performed
perform_all [] w = record { store = w; output = [] }
perform_all (c ∷ cs) w = behind (perform c w).output (perform_all cs (perform c w).store)
  where
    behind : List ℕ → Performed → Performed
    behind bytes p = record { store = p.store; output = bytes ++ p.output }

-- R251
abbrev pub store_words : ℕ
store_words = 8000

abbrev pub new_store : List ℕ
new_store = replicate store_words 0

-- the bytes that the program prints, of those that it reads
unfoldable pub sheet_output : List ℕ → List ℕ
sheet_output input = (perform_all (map command_of (lines input)) new_store).output

-- room that is enough for what any command prints: the most is a Drain that fills its ledger
abbrev pub command_room : ℕ
command_room = packet_room * ledger_words + drain_room
