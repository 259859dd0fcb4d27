-- Moves that may come in any order (RULES R600 to R616). Order: the queues of a move; when moves are apart; a pair of moves in either order; a list of them
-- in any order; what the words are afterwards, in which no order is left. TogetherLaws.antt has the laws, the crate `run` proves both statements; a queue is
-- named by `queue_at`, and the statements ask `targets` alone where a move leads. Assumes nothing.
use Rattle.std.specs.Prelude.{◌≡◌, Bool, cond, ℕ, ◌+◌, T, eqb, length, drop, replicate, Option}
use mathlib.Core.HLevel.{Discrete}
use mathlib.Core.List.{List, [], ◌∷◌, ◌++◌, map, flat_map}
use Rattle.std.proofs.Math.Decide.{ℕ_discrete}
use Rattle.base.specs.Tests.{pair-discrete, discrete-by}
use Rattle.base.specs.Sums.{sum_of}
use Rattle.base.specs.Rearrangement.{count, Rearranged}
use Rattle.base.specs.Different.{all_different}
use Rattle.network.specs.declared.NamedMove.{NamedMove}
use Rattle.network.specs.Sizes.{Shape}
use Rattle.network.specs.Layout.{held, accepted, delivered, moves_made}
use Rattle.network.specs.Routes.{deliver, target}
use Rattle.network.specs.Calls.{Delivery, move_words, move_answer, Answer}
use Rattle.network.specs.AfterLaws.{hopped, deliveries}
use Rattle.network.specs.Choices.{Permits}
use Rattle.network.specs.Run.{run, Leads}
use Rattle.network.specs.InLists.{as_moves}

-- The queues of a move ------------------------------------------------------------------------------------------------------------------

-- R600: where a packet can leave and where it can come to: queue q of node n
pub data Place : Type 0 where
  queue_at : ℕ → ℕ → Place
  deriving Discrete as place-discrete

unfoldable pub same_place? : Discrete Place
same_place? = place-discrete ℕ_discrete

-- R601: the source of a move is the queue that it names
unfoldable pub source : NamedMove → Place
source m = queue_at m.node m.queue

-- R602: its targets, none for a delivery, else one: queue `output` of the neighbour in that output's direction (R107)
unfoldable pub targets : Shape → NamedMove → List Place
targets S m = cond (eqb m.output deliver) [] (queue_at (target S m.node m.output) m.output ∷ [])

abbrev pub sources : List NamedMove → List Place
sources ms = map source ms

abbrev pub all_targets : Shape → List NamedMove → List Place
all_targets S ms = flat_map (targets S) ms

-- When moves are apart --------------------------------------------------------------------------------------------------------------------

-- R603: their sources and targets are all different
unfoldable pub queues_differ : Shape → List NamedMove → Bool
queues_differ S ms = all_different same_place? (sources ms ++ all_targets S ms)

-- R604: their sources are, and their targets are; a target may be another one's source
unfoldable pub sources_differ : List NamedMove → Bool
sources_differ ms = all_different same_place? (sources ms)

unfoldable pub targets_differ : Shape → List NamedMove → Bool
targets_differ S ms = all_different same_place? (all_targets S ms)

pub record Apart (S : Shape) (ms : List NamedMove) : Type 0 where
  pub from : T (sources_differ ms)
  pub to : T (targets_differ S ms)

-- R614: the same as M lines show it: no two name the same node and the same output, deliveries aside
unfoldable pub output_named : NamedMove → List (ℕ × ℕ)
output_named m = cond (eqb m.output deliver) [] ((m.node, m.output) ∷ [])

unfoldable pub outputs_differ : List NamedMove → Bool
outputs_differ ms = all_different (pair-discrete ℕ_discrete ℕ_discrete) (flat_map output_named ms)

-- A pair of moves in either order ---------------------------------------------------------------------------------------------------------

-- what a move answers, and the words that it leaves
abbrev pub answered : List ℕ → NamedMove → Answer (Option ℕ)
answered w m = move_answer w m.node m.queue m.output

abbrev pub moved : List ℕ → NamedMove → List ℕ
moved w m = move_words w m.node m.queue m.output

-- R606: each is permitted after the other and answered as in w; the words are the same, all of them
pub record EitherOrder (w : List ℕ) (a b : NamedMove) : Type 0 where
  pub b-permitted : Permits (moved w a) b
  pub a-permitted : Permits (moved w b) a
  pub same-words : moved (moved w a) b ≡ moved (moved w b) a
  pub b-answer : answered (moved w a) b ≡ answered w b
  pub a-answer : answered (moved w b) a ≡ answered w a

-- A list of moves in any order ------------------------------------------------------------------------------------------------------------

-- moves, and packets handed out with their nodes, can be compared
unfoldable pub same_move? : Discrete NamedMove
same_move? =
    discrete-by (pair-discrete (pair-discrete ℕ_discrete ℕ_discrete) ℕ_discrete) (λ m. ((m.node, m.queue), m.output))
    (λ a b e i. record { node = (e i).0.0; queue = (e i).0.1; output = (e i).1 })

unfoldable pub same_delivery? : Discrete Delivery
same_delivery? =
    discrete-by (pair-discrete ℕ_discrete ℕ_discrete) (λ d. (d.node, d.packet)) (λ a b e i. record { node = (e i).0; packet = (e i).1 })

-- the answers of moves made one after the other
unfoldable pub answers : List ℕ → List NamedMove → List (Answer (Option ℕ))
answers w [] = []
answers w (m ∷ ms) = answered w m ∷ answers (moved w m) ms

-- R607 to R610: moves ns, which are the moves ms in another order, from words w
pub record AnyOrder (w : List ℕ) (ms ns : List NamedMove) : Type 0 where
  -- R607: they are permitted one after the other, and end in the words in which ms end
  pub leads : Leads w ns (run (as_moves ms) w).words
  -- R608: each is answered as in w
  pub same-answers : answers w ns ≡ map (answered w) ns
  -- R609: so what they hand out, each packet with its node, is what ms hand out, in another order
  pub handed_out : Rearranged same_delivery? (run (as_moves ns) w).handed_out (run (as_moves ms) w).handed_out
  -- R610: the same of the run of these Moves: all of them are made and told
  pub all_made : (run (as_moves ns) w).moves ≡ ns
  pub all_told : (run (as_moves ns) w).told ≡ length ns
  pub same-words : (run (as_moves ns) w).words ≡ (run (as_moves ms) w).words

-- What the words are afterwards -----------------------------------------------------------------------------------------------------------

-- what a move brings to a place, the head of its source one hop nearer if the place is its target; and what moves bring there
abbrev pub brought : Shape → List ℕ → Place → NamedMove → List ℕ
brought S w p m = replicate (count same_place? p (targets S m)) (hopped S w m.node m.queue m.output)

unfoldable pub newcomers : Shape → List ℕ → List NamedMove → Place → List ℕ
newcomers S w ms p = flat_map (brought S w p) ms

-- R612: a queue holds what it held, without its head if it is a source, and behind that the newcomer if it is a target
unfoldable pub held_after : Shape → List ℕ → List NamedMove → ℕ → ℕ → List ℕ
held_after S w ms n q = drop (count same_place? (queue_at n q) (sources ms)) (held S w n q) ++ newcomers S w ms (queue_at n q)

-- R613: how many deliveries are among moves; and the counters, of words v after moves ms from words w
unfoldable pub deliveries_among : List NamedMove → ℕ
deliveries_among ms = sum_of (λ m. deliveries m.output) ms

pub record HeaderAfter (w : List ℕ) (ms : List NamedMove) (v : List ℕ) : Type 0 where
  pub same-accepted : accepted v ≡ accepted w
  pub handed_out : delivered v ≡ delivered w + deliveries_among ms
  pub moves-made : moves_made v ≡ moves_made w + length ms
