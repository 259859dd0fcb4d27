-- What a reader asks of demand 3. Order: First and an empty network; a Drain that may go on to the end; the hops left by direction; the arbiter's order
-- of moves; the stamps of a dump. Reached.antt has that Make and accepted offers lead to networks. Assumes nothing.
use Rattle.std.specs.Prelude.{◌≡◌, List, [], ◌∷◌, ℕ, ◌+◌, length}
use Rattle.network.specs.Layout.{moves_made}
use Rattle.network.specs.Refusals.{network_refusal}
use Rattle.network.specs.Calls.{offer_words}
use Rattle.network.specs.Run.{Call, Outcome, run, handed_with}

-- whatever the arbiter picks: two runs that empty the same network make as many moves, and hand out as many packets of every label
pub record SameInTheEnd (a b : Outcome) : Type 0 where
  pub moves : length a.moves ≡ length b.moves
  pub handed : (l : ℕ) → handed_with l a.handed_out ≡ handed_with l b.handed_out

-- R409: what may come between two steps of a dump: runs and Offers. No Make, which sets the moves made to 0 (R92)
pub data Event : Type 0 where
  ran : List Call → Event
  offered : ℕ → ℕ → ℕ → ℕ → Event

-- the words after it, and the moves that it makes
unfoldable pub event_words : Event → List ℕ → List ℕ
event_words (ran calls) w = (run calls w).words
event_words (offered n destination tag chunks) w = offer_words w n destination tag chunks

unfoldable pub event_moves : Event → List ℕ → ℕ
event_moves (ran calls) w = length (run calls w).moves
event_moves (offered n destination tag chunks) w = 0

-- and the same of any number of them, each on the words as the one before left them
unfoldable pub later_words : List Event → List ℕ → List ℕ
later_words [] w = w
later_words (e ∷ es) w = later_words es (event_words e w)

unfoldable pub moves_between : List Event → List ℕ → ℕ
moves_between [] w = 0
moves_between (e ∷ es) w = event_moves e w + moves_between es (event_words e w)

-- one of them, refused or not, leaves a network, whose moves made have grown by those that it made
pub record Counted (w v : List ℕ) (moves : ℕ) : Type 0 where
  pub counts : moves_made v ≡ moves_made w + moves
  pub network : network_refusal v ≡ 0
