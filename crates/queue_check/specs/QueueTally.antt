-- What the functions of this crate find out about a run of queues: whether each passes the check, and if so how many packets they hold and what
-- work these have left. Order: the answer; the clauses of one queue by its words; the tally of a node.
-- Assumes nothing.
use Rattle.std.specs.Prelude.{Option, Bool, ◌&&◌, List, ℕ, leb, eqb, length}
use Rattle.std.specs.Bool.{then_some}
use Rattle.base.specs.Tests.{all_below, all_of}
use Rattle.base.specs.Sums.{sum_below, sum_of}
use Rattle.network.specs.Sizes.{Shape, queues, capacity}
use Rattle.network.specs.Packet.{work}
use Rattle.network.specs.Layout.{count_of, packets_of, unused_of, held, load}
use Rattle.network.specs.Check.{packet_fits, queue_fits}
use Rattle.queue_check.specs.declared.Tally.{Tally}

-- a run of queues that fails the check has no sums
unfoldable pub tally : Bool → ℕ → ℕ → Option Tally
tally passes held work = then_some passes (record { held = held; work = work })

-- the clauses of queue q of node n, whose words these are: `queue_fits S w n q` where they are the queue's part of w
unfoldable pub part_fits : Shape → ℕ → ℕ → List ℕ → Bool
part_fits S n q part =
    leb (count_of part) (capacity S q)
    && (all_of (eqb 0) (unused_of part) && (leb (sum_of (load q) (packets_of part)) (capacity S q) && all_of (packet_fits S n q) (packets_of part)))

-- the queues of node n
unfoldable pub node_tally : Shape → List ℕ → ℕ → Option Tally
node_tally S w n =
    tally (all_below queues (λ q. queue_fits S w n q)) (sum_below queues (λ q. length (held S w n q))) (sum_below queues (λ q. sum_of work (held S w n q)))
