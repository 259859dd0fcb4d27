-- What the functions of this crate, and those that check a network, ask of the words lent to them; what they leave there is said with the
-- definitions of the crate network. Order: the words of one queue; a queue at a place in more words; the words of a network; a queue of a network.
-- Assumes nothing.
use Rattle.std.specs.Prelude.{ℕ, ◌-◌, ◌<◌, ◌≤◌, T, eqb, length, List}
use Rattle.base.specs.Tests.{all_of}
use Rattle.base.specs.Parts.{span}
use Rattle.network.specs.Sizes.{Shape, sizes_in_range, nodes, queues, capacity}
use Rattle.network.specs.Layout.{need, queue_part, count_of, unused_of}

-- the slots of a queue: all of its words but the number held
abbrev pub slots : List ℕ → ℕ
slots part = length part - 1

-- R72, R73: not more packets than slots, and zeros behind them
pub record IsQueue (part : List ℕ) : Type 0 where
  pub count : count_of part < length part
  pub zeros : T (all_of (eqb 0) (unused_of part))

-- the words from place a up to place e are a queue
pub record QueueAt (w : List ℕ) (a e : ℕ) : Type 0 where
  pub start : a ≤ e
  pub end : e ≤ length w
  pub queue : IsQueue (span w a e)

-- sizes in range, and as many words as they need
pub record EnoughWords (S : Shape) (w : List ℕ) : Type 0 where
  pub sizes : T (sizes_in_range S)
  pub long : need S ≤ length w

-- what the check of a network says of queue q of node n
pub record CheckedQueue (S : Shape) (w : List ℕ) (n q : ℕ) : Type 0 where
  pub sizes : T (sizes_in_range S)
  pub node : n < nodes S
  pub queue : q < queues
  pub long : need S ≤ length w
  pub count : count_of (queue_part S w n q) ≤ capacity S q
  pub zeros : T (all_of (eqb 0) (unused_of (queue_part S w n q)))
