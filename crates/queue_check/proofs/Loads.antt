-- The load clause of a queue by its words. Order: queues in which each packet takes one slot; adaptive queues. Assumes nothing.
use mathlib.Core.Path.{◌≡◌, ap, ap₂, sym, ◌∙◌, fun_ext}
use mathlib.Core.Bool.{false, true}
use mathlib.Core.List.{List}
use Prim.Native.Nat.{ℕ, ◌+◌, ◌-◌, ◌<◌, ◌≤◌}
use native.Mathlib.Decide.{dec_lt}
use native.Mathlib.Omega.{arith}
use borrow.Author.Tests.{le-leb, lt-leb, lt-ltb, le-ltb}
use lib.Dec.{leb, ltb}
use lib.ListN.{length, take, drop}
use Rattle.base.specs.Sums.{sum_of}
use Rattle.base.proofs.Sums.{sum_of-ones}
use Rattle.network.specs.Sizes.{is_adaptive, largest_capacity}
use Rattle.network.specs.Packet.{chunks}
use Rattle.network.specs.Layout.{count_of, packets_of, load}
use Rattle.network.proofs.LayoutLaws.{load_one, load-chunks}
use Rattle.queue.specs.Queue.{slots}
use Rattle.queue_check.proofs.Tallies.{packets-length}

module _ (q : ℕ) (part : List ℕ) (few : count_of part < length part) where
  -- as many slots as packets
  pub slots-fit : is_adaptive q ≡ false → true ≡ leb (sum_of (load q) (packets_of part)) (slots part)
  slots-fit e =
      let l = packets-length part few in
      let s = sum_of-ones (load q) (packets_of part) (λ p. load_one q p e) in
      sym (le-leb (sum_of (load q) (packets_of part)) (slots part) (omega arith))

  -- the packets are the words behind the number held, as many as it says
  abbrev pub behind : ℕ → List ℕ
  behind count = take (count + 1 - 1) (drop 1 part)

  pub packets-behind : (count : ℕ) → count ≡ count_of part → behind count ≡ packets_of part
  unfolding packets_of
  packets-behind count e = ap (λ (k : ℕ). take k (drop 1 part)) (let f : count + 1 - 1 ≡ count_of part = omega arith in f)

  pub behind-few : (count : ℕ) → count ≡ count_of part → length part ≤ largest_capacity + 1 → length (behind count) ≤ largest_capacity
  behind-few count e h =
      let l = packets-length part few in
      let m : length (behind count) ≡ length (packets_of part) = ap length (packets-behind count e) in
      omega arith

  -- the sum of their chunks
  pub chunks_fit : is_adaptive q ≡ true → (count r : ℕ) → count ≡ count_of part → r ≡ sum_of chunks (behind count)
      → ltb r (length part) ≡ leb (sum_of (load q) (packets_of part)) (slots part)
  chunks_fit a count r e is = go (dec_lt r (length part))
    where
      same : r ≡ sum_of (load q) (packets_of part)
      same = is ∙ ap₂ (λ (f : ℕ → ℕ) (l : List ℕ). sum_of f l) (fun_ext (λ p. sym (load-chunks q p a))) (packets-behind count e)

      go : Dec (r < length part) → ltb r (length part) ≡ leb (sum_of (load q) (packets_of part)) (slots part)
      go (yes h) = let s = same in lt-ltb r (length part) h ∙ sym (le-leb (sum_of (load q) (packets_of part)) (slots part) (omega arith))
      go (no g) = let s = same in le-ltb r (length part) (omega arith) ∙ sym (lt-leb (sum_of (load q) (packets_of part)) (slots part) (omega arith))
