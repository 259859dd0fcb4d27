-- A run of moves (RULES R220 to R239), and demand 3 (R210 to R215) as one statement about a run. Order: the calls of a run; what one call does; what
-- a list of them does; what is counted; the statement. The crate `run` proves it. Assumes nothing.
use Rattle.std.specs.Prelude.{◌≡◌, ◌↔◌, ◌≢◌, Bool, cond, ◌&&◌, List, [], ◌∷◌, ◌++◌, map, ℕ, ◌+◌, ◌<◌, ◌≤◌, T, eqb, length, take, drop}
use Rattle.base.specs.Tests.{all_of}
use Rattle.base.specs.Sums.{sum_of}
use Rattle.network.specs.declared.NamedMove.{NamedMove}
use Rattle.network.specs.Sizes.{Shape, nodes, directions}
use Rattle.network.specs.Packet.{label, destination, hops}
use Rattle.network.specs.Layout.{shape, need, total, delivered, moves_made}
use Rattle.network.specs.Check.{packets_held, work_left, ring_has_room}
use Rattle.network.specs.Routes.{deliver}
use Rattle.network.specs.Refusals.{network_refusal, move_refusal, head}
use Rattle.network.specs.Choices.{Permits}
use Rattle.network.specs.Calls.{unless_refused, Delivery, move_words, move_answer, moved_number, moved_packets, drained, drain_words, drain_ledger, drain_answer, drained_moves, drained_delivered}

-- R220, R221: a Move's node, queue and output; a Drain's budget, and its ledger, which is no part of the network's words
pub data Call : Type 0 where
  move : NamedMove → Call
  drain : ℕ → List ℕ → Call

-- a Drain's ledger: as it was lent, as it was left, and how many of its words the Drain answers that it wrote
pub record Ledger : Type 0 where
  pub lent : List ℕ
  pub left : List ℕ
  pub written : ℕ

-- the words as they are left, the moves made and what was handed out and where, both in order, how many moves the calls' answers tell of, and the
-- ledgers of the Drains
pub record Outcome : Type 0 where
  pub words : List ℕ
  pub moves : List NamedMove
  pub told : ℕ
  pub handed_out : List Delivery
  pub ledgers : List Ledger

-- the nodes of the deliveries among moves, in order
unfoldable pub delivery_nodes : List NamedMove → List ℕ
delivery_nodes [] = []
delivery_nodes (m ∷ ms) = cond (eqb m.output deliver) (m.node ∷ delivery_nodes ms) (delivery_nodes ms)

-- R227: packet words, each beside the node of the move that gave it
unfoldable pub at_nodes : List ℕ → List ℕ → List Delivery
at_nodes ns [] = []
at_nodes ns (p ∷ ps) = record { node = head ns; packet = p } ∷ at_nodes (drop 1 ns) ps

unfoldable pub ledger_of : List ℕ → ℕ → List ℕ → Ledger
ledger_of w budget ledger =
    record { lent = ledger; left = drain_ledger w budget ledger; written = drained_delivered (drain_answer w budget (length ledger)) }

-- R227: the words that a Drain handed out are those that stand in its ledger when it returns, from the first on
unfoldable pub words_written : Ledger → List ℕ
words_written L = take L.written L.left

-- R224 to R227: a Move that is permitted is one move, any other none. A Drain that is not refused makes the moves that First names one after the
-- other, as many as it answers. What a Move gave and what a Drain left in its ledger is handed out, each word at the node of its move.
unfoldable pub outcome : Call → List ℕ → Outcome
outcome (move m) w =
    record {
      words = move_words w m.node m.queue m.output;
      moves = unless_refused (move_refusal w m.node m.queue m.output) (m ∷ []) [];
      told = unless_refused (moved_number (move_answer w m.node m.queue m.output)) 1 0;
      handed_out = map (λ p. record { node = m.node; packet = p }) (moved_packets (move_answer w m.node m.queue m.output));
      ledgers = [];
    }
outcome (drain budget ledger) w =
    record {
      words = drain_words w budget (length ledger);
      moves = unless_refused (network_refusal w) (drained w budget (length ledger)).moves [];
      told = drained_moves (drain_answer w budget (length ledger));
      handed_out = at_nodes (delivery_nodes (drained w budget (length ledger)).moves) (words_written (ledger_of w budget ledger));
      ledgers = ledger_of w budget ledger ∷ [];
    }

-- R215: every call is lent the words as the one before it left them
unfoldable pub run : List Call → List ℕ → Outcome
run [] w = record { words = w; moves = []; told = 0; handed_out = []; ledgers = [] }
run (c ∷ calls) w =
    record {
      words = (run calls (outcome c w).words).words;
      moves = (outcome c w).moves ++ (run calls (outcome c w).words).moves;
      told = (outcome c w).told + (run calls (outcome c w).words).told;
      handed_out = (outcome c w).handed_out ++ (run calls (outcome c w).words).handed_out;
      ledgers = (outcome c w).ledgers ++ (run calls (outcome c w).words).ledgers;
    }

-- R226: moves made one after the other, each permitted by then, lead from words to words by what Move does
unfoldable pub Leads : List ℕ → List NamedMove → List ℕ → Type 0
Leads w [] v = w ≡ v
Leads w (m ∷ ms) v = Permits w m × Leads (move_words w m.node m.queue m.output) ms v

-- the packets of one label among those held, and among those handed out
unfoldable pub is_labelled : ℕ → ℕ → ℕ
is_labelled l p = cond (eqb (label p) l) 1 0

unfoldable pub held_with : ℕ → Shape → List ℕ → ℕ
held_with l S w = total S w (sum_of (is_labelled l))

unfoldable pub handed_with : ℕ → List Delivery → ℕ
handed_with l ds = sum_of (λ d. is_labelled l d.packet) ds

-- R304: the hops left in direction d, of one packet if it has that label, and of all those held
unfoldable pub hops_of : ℕ → ℕ → ℕ → ℕ
hops_of l d p = cond (eqb (label p) l) (hops d p) 0

unfoldable pub hops_with : ℕ → ℕ → Shape → List ℕ → ℕ
hops_with l d S w = total S w (sum_of (hops_of l d))

-- R230, R231
unfoldable pub at_destination : Delivery → Bool
at_destination d = eqb (label d.packet) d.packet && eqb (destination d.packet) d.node

-- R213, R237: some move is permitted
pub record SomeMove (w : List ℕ) : Type 0 where
  pub named : NamedMove
  pub permitted : Permits w named

-- a ledger that a Drain left: what was written fits, the words behind it are as they were, and it is as long as it was
pub record LedgerKept (L : Ledger) : Type 0 where
  pub fits : L.written ≤ length L.lent
  pub later-untouched : drop L.written L.left ≡ drop L.written L.lent
  pub same_length : length L.left ≡ length L.lent

unfoldable pub AllKept : List Ledger → Type 0
AllKept [] = Unit
AllKept (L ∷ Ls) = LedgerKept L × AllKept Ls

-- what holds after every run, of the words w at its start and what the run gave
pub record AfterRun (w : List ℕ) (r : Outcome) : Type 0 where
  -- R230, R231: what was handed out has no hop left and is where it was addressed to
  pub handed-out-at-destination : T (all_of at_destination r.handed_out)
  -- R232, of every label
  pub none-lost-or-doubled : (l : ℕ) → handed_with l r.handed_out + held_with l (shape w) r.words ≡ held_with l (shape w) w
  -- R225: the moves are as many as the answers tell of; R226: and they lead to the words as they are
  pub moves-told : r.told ≡ length r.moves
  pub one_by_one : Leads w r.moves r.words
  -- R233
  pub moves-and-work : length r.moves + work_left (shape w) r.words ≡ work_left (shape w) w
  -- R234, R235: the header counts the run's moves and the words handed out
  pub moves-made : moves_made r.words ≡ moves_made w + length r.moves
  pub deliveries-made : delivered r.words ≡ delivered w + length r.handed_out
  -- R236, R237, R214: still a network, which can go on, with room in every ring
  pub still-a-network : network_refusal r.words ≡ 0
  pub goes_on : packets_held (shape w) r.words ≢ 0 → SomeMove r.words
  pub rings-have-room : (d n : ℕ) → d < directions → n < nodes (shape w) → T (ring_has_room (shape w) r.words d n)
  -- R212
  pub emptied-exactly : (packets_held (shape w) r.words ≡ 0) ↔ (length r.moves ≡ work_left (shape w) w)
  -- R239: sizes, length and what lies behind the last node are those of the start
  pub same_shape : shape r.words ≡ shape w
  pub same_length : length r.words ≡ length w
  pub rest-untouched : drop (need (shape w)) r.words ≡ drop (need (shape w)) w
  -- R238: every Drain's ledger, behind the words that were handed out
  pub ledgers-kept : AllKept r.ledgers

-- R210, demand 3: of all words that pass the check and every list of Moves and Drains, refused ones too, whatever is picked
unfoldable pub Demand3 : Type 0
Demand3 = (w : List ℕ) (calls : List Call) → network_refusal w ≡ 0 → AfterRun w (run calls w)
