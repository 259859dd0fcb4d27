-- A queue's clauses by its words: which of them fails first, or that the packets' clauses are left. Assumes nothing.
use mathlib.Core.Path.{◌≡◌, ap, ap₂, sym, ◌∙◌}
use mathlib.Core.Bool.{Bool, true, false}
use mathlib.Core.List.{List, []}
use Rattle.std.specs.Prelude.{Some}
use Prim.Native.Nat.{ℕ, ◌+◌, ◌-◌, ◌<◌, ◌≤◌}
use native.Mathlib.Omega.{arith}
use borrow.Author.Tests.{le-leb, lt-leb}
use lib.Dec.{leb, eqb}
use lib.ListN.{length, take, drop, length-drop}
use lib.Seq.{drop-drop, take_all}
use Rattle.base.specs.Tests.{all_of}
use Rattle.base.specs.Sums.{sum_of}
use Rattle.base.proofs.Bools.{and-stop, and-on}
use Rattle.network.specs.Sizes.{Shape, capacity}
use Rattle.network.specs.Packet.{work}
use Rattle.network.specs.Layout.{count_of, packets_of, unused_of, queue_length, load}
use Rattle.network.specs.Check.{packet_fits}
use Rattle.queue.specs.Queue.{slots}
use Rattle.queue_check.specs.QueueTally.{tally, part_fits}

-- the words from place a on, as a part
pub rest_all : (a : ℕ) (l : List ℕ) → take (length l - a) (drop a l) ≡ drop a l
rest_all a l = let e = length-drop a l in take_all (length l - a) (drop a l) (omega arith)

module _ (S : Shape) (n q : ℕ) (part : List ℕ) (long : length part ≡ queue_length S q) where
  -- it holds more than its capacity
  pub part-over : length part ≤ count_of part → part_fits S n q part ≡ false
  unfolding part_fits queue_length
  part-over h = and-stop _ _ (lt-leb (count_of part) (capacity S q) (omega arith))

  few : count_of part < length part → leb (count_of part) (capacity S q) ≡ true
  unfolding queue_length
  few h = le-leb (count_of part) (capacity S q) (omega arith)

  unused : drop (count_of part + 1) part ≡ unused_of part
  unfolding unused_of
  unused = ap (λ (k : ℕ). drop k part) (let e : count_of part + 1 ≡ 1 + count_of part = omega arith in e) ∙ sym (drop-drop (count_of part) 1 part)

  -- an unused word is not 0
  pub part-used : count_of part < length part → all_of (eqb 0) (drop (count_of part + 1) part) ≡ false → part_fits S n q part ≡ false
  unfolding part_fits
  part-used h e = and-on _ _ (few h) ∙ and-stop _ _ (ap (all_of (eqb 0)) (sym unused) ∙ e)

  -- the load by the words of the part
  fits : Bool
  fits = leb (sum_of (load q) (packets_of part)) (slots part)

  capacity-is : leb (sum_of (load q) (packets_of part)) (capacity S q) ≡ fits
  unfolding queue_length fits
  capacity-is = ap (leb (sum_of (load q) (packets_of part))) (let e : capacity S q ≡ length part - 1 = omega arith in e)

  -- its packets take more than its capacity
  pub part-heavy : count_of part < length part → all_of (eqb 0) (drop (count_of part + 1) part) ≡ true
      → leb (sum_of (load q) (packets_of part)) (slots part) ≡ false → part_fits S n q part ≡ false
  unfolding part_fits fits
  part-heavy h e l = and-on _ _ (few h) ∙ and-on _ _ (ap (all_of (eqb 0)) (sym unused) ∙ e) ∙ and-stop _ _ (capacity-is ∙ l)

  -- it is for the packets to decide
  pub part-packets : count_of part < length part → all_of (eqb 0) (drop (count_of part + 1) part) ≡ true
      → leb (sum_of (load q) (packets_of part)) (slots part) ≡ true
      → part_fits S n q part ≡ all_of (packet_fits S n q) (packets_of part)
  unfolding part_fits fits
  part-packets h e l = and-on _ _ (few h) ∙ and-on _ _ (ap (all_of (eqb 0)) (sym unused) ∙ e) ∙ and-on _ _ (capacity-is ∙ l)

  -- it holds nothing
  pub part-empty : count_of part ≡ 0 → count_of part < length part → all_of (eqb 0) (drop (count_of part + 1) part) ≡ true
      → Some (record { held = 0; work = 0 }) ≡ tally (part_fits S n q part) (length (packets_of part)) (sum_of work (packets_of part))
  unfolding tally all_of sum_of packets_of
  part-empty z h e =
      ap₂ (λ (a : Bool) (l : List ℕ). tally a (length l) (sum_of work l)) (sym (part-packets h e light ∙ ap (all_of (packet_fits S n q)) nothing)) (sym nothing)
    where
      nothing : packets_of part ≡ []
      nothing = none (count_of part) (drop 1 part) z
        where
          none : (k : ℕ) (l : List ℕ) → k ≡ 0 → take k l ≡ []
          none k l z = ap (λ (j : ℕ). take j l) z

      light : leb (sum_of (load q) (packets_of part)) (slots part) ≡ true
      light = ap (λ (l : List ℕ). leb (sum_of (load q) l) (slots part)) nothing ∙ le-leb 0 (slots part) (omega arith)
