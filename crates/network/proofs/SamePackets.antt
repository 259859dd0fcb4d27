-- The same network in another shape: words w with sizes S beside words v with sizes R, of the same torus, where the capacities may be others. Order:
-- networks that agree in what one sees of each queue; that hold the same packets, and what follows from that alone; that have the same counters as well,
-- and so in one shape are the same words. Assumes nothing.
use Rattle.std.specs.Prelude.{◌≡◌, List, ℕ, ◌<◌, drop}
use Rattle.std.proofs.Math.Path.{ap}
use Rattle.std.proofs.Math.ListN.{length}
use Rattle.base.specs.Digits.{product}
use Rattle.base.specs.Sums.{sum_of}
use Rattle.network.specs.Sizes.{Shape, nodes, queues}
use Rattle.network.specs.Packet.{work}
use Rattle.network.specs.Layout.{shape, need, load, taken, total}
use Rattle.network.proofs.LayoutLaws.{total-both}
use Rattle.network.specs.Check.{packets_held, work_left}
use Rattle.network.specs.CheckLaws.{Network}
use Rattle.network.proofs.SameWords.{same-networks, same-header}
use Rattle.network.specs.Run.{is_labelled, held_with, hops_of, hops_with}
use Rattle.network.specs.SamePackets.{SameSeen, SamePackets, SameNetwork}

-- so a sum over the queues is the same, if it counts nothing but what one sees
pub seen-sum : {A : Type 0} (see : List ℕ → A) (S : Shape) (w : List ℕ) (R : Shape) (v : List ℕ) → SameSeen see S w R v → (f : A → ℕ)
    → total S w (λ ps. f (see ps)) ≡ total R v (λ ps. f (see ps))
unfolding nodes
seen-sum see S w R v k f =
    total-both S R w v (λ ps. f (see ps)) (λ ps. f (see ps)) (ap product k.same-sizes) (λ n q hn hq. ap f (k.queue n q hn hq))

module _ (S : Shape) (w : List ℕ) (R : Shape) (v : List ℕ) (k : SamePackets S w R v) where
  -- as much of each queue is taken
  pub same_taken : (n q : ℕ) → n < nodes S → q < queues → taken S w n q ≡ taken R v n q
  unfolding taken
  same_taken n q hn hq = ap (sum_of (load q)) (k.queue n q hn hq)

  -- R83, R84: the number of packets held, and the work left
  pub same_number : packets_held S w ≡ packets_held R v
  unfolding packets_held
  same_number = seen-sum (λ ps. ps) S w R v k length

  pub same-work : work_left S w ≡ work_left R v
  unfolding work_left
  same-work = seen-sum (λ ps. ps) S w R v k (sum_of work)

  -- R228, R304: of every label, the packets and their hops left
  pub same-label : (l : ℕ) → held_with l S w ≡ held_with l R v
  unfolding held_with
  same-label l = seen-sum (λ ps. ps) S w R v k (sum_of (is_labelled l))

  pub same-hops : (l d : ℕ) → hops_with l d S w ≡ hops_with l d R v
  unfolding hops_with
  same-hops l d = seen-sum (λ ps. ps) S w R v k (sum_of (hops_of l d))

-- in one shape, with the same words behind the last node, it is the same words
pub same-network-words : (S : Shape) (w v : List ℕ) → Network S w → Network S v → SameNetwork S w S v → shape w ≡ shape v
    → drop (need S) w ≡ drop (need S) v → w ≡ v
same-network-words S w v N M k s rest =
    same-networks S w v N M (same-header w v s k.same-accepted k.same-delivered k.same-moves) k.packets.queue rest
