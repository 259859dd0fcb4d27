-- Demand 3 said once more, in lists (R210, R211, R213, R224 to R227, R230 to R232, R235, R237, R238), without the counts and tests that Run.antt states it with:
-- which packets are held, in the order of node and queue, and what a run does to the list of their labels. InListsLaws.antt says of each helper of Run.antt what
-- it states, in these words; the crate `run` proves the statement. Order: all that is held; what was handed out; the statement. Assumes nothing.
use Rattle.std.specs.Prelude.{◌≡◌, ◌≢◌, List, [], ◌++◌, map, ℕ, ◌+◌, length, take, drop}
use Rattle.std.proofs.Math.Decide.{ℕ_discrete}
use Rattle.base.specs.Joins.{join_below}
use Rattle.base.specs.Rearrangement.{Rearranged}
use Rattle.network.specs.declared.NamedMove.{NamedMove}
use Rattle.network.specs.Sizes.{Shape, nodes, queues}
use Rattle.network.specs.Packet.{label, destination}
use Rattle.network.specs.Layout.{shape, held, delivered}
use Rattle.network.specs.Calls.{Delivery, move_answer, moved_number}
use Rattle.network.specs.Run.{Call, move, Ledger, Outcome, run}

-- the packets held by all queues, node after node and queue after queue
unfoldable pub all_held : Shape → List ℕ → List ℕ
all_held S w = join_below (nodes S) (λ n. join_below queues (λ q. held S w n q))

-- the words handed out, and the nodes at which they were
abbrev pub words_of : List Delivery → List ℕ
words_of ds = map (λ (d : Delivery). d.packet) ds

abbrev pub nodes_of : List Delivery → List ℕ
nodes_of ds = map (λ (d : Delivery). d.node) ds

-- moves as calls of Move
abbrev pub as_moves : List NamedMove → List Call
as_moves ms = map move ms

-- a move that Move answers by 0
pub record Answered (w : List ℕ) : Type 0 where
  pub node : ℕ
  pub queue : ℕ
  pub output : ℕ
  pub by_zero : moved_number (move_answer w node queue output) ≡ 0

-- ledgers as they were lent and as they were left: equally long, the words written among them, and the same behind those
pub record LedgersKept (Ls : List Ledger) : Type 0 where
  pub as_long : map (λ (L : Ledger). length L.left) Ls ≡ map (λ (L : Ledger). length L.lent) Ls
  pub within : map (λ (L : Ledger). length (take L.written L.left)) Ls ≡ map (λ (L : Ledger). L.written) Ls
  pub behind : map (λ (L : Ledger). drop L.written L.left) Ls ≡ map (λ (L : Ledger). drop L.written L.lent) Ls

-- what holds after a run, of the words w at its start
pub record InLists (w : List ℕ) (r : Outcome) : Type 0 where
  -- R211, R232: the labels of what was handed out, and behind them those of all that is held, are the labels held at the start, rearranged
  pub labels : Rearranged ℕ_discrete (map label (words_of r.handed_out) ++ map label (all_held (shape w) r.words)) (map label (all_held (shape w) w))
  -- R230, R231: what was handed out is its own label, and stands beside the node that its destination names
  pub own-labels : map label (words_of r.handed_out) ≡ words_of r.handed_out
  pub at-destinations : map destination (words_of r.handed_out) ≡ nodes_of r.handed_out
  -- R235: their number is the rise of delivered
  pub risen : delivered w + length (words_of r.handed_out) ≡ delivered r.words
  -- R224 to R226: the moves of the run, made as Moves one after the other, are all answered by 0 and lead to the same words
  pub answered : (run (as_moves r.moves) w).told ≡ length r.moves
  pub same-words : (run (as_moves r.moves) w).words ≡ r.words
  -- R213, R237: while the list of what is held is not empty, Move answers some move by 0
  pub goes_on : all_held (shape w) r.words ≢ [] → Answered r.words
  -- R238
  pub ledgers : LedgersKept r.ledgers
