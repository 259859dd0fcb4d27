-- Tallies. Order: a list's elements tested and summed one by one; so many queues or nodes tested and summed one by one; bounds of sums;
-- a queue's packets one by one. Assumes nothing.
use mathlib.Core.Path.{◌≡◌, refl, ap, ap₂, sym, ◌∙◌}
use mathlib.Core.Bool.{Bool, true, false, ◌&&◌}
use mathlib.Core.List.{List, [], ◌∷◌}
use Rattle.std.specs.Prelude.{Some, None}
use Rattle.std.specs.Bool.{then_some}
use Rattle.std.proofs.lemmas.Option.{none-some, same_Some}
use Prim.Native.Nat.{ℕ, suc, ◌+◌, ◌*◌, ◌-◌, ◌<◌, ◌≤◌}
use native.Mathlib.Numerals.{add-one}
use native.Mathlib.Nat.{suc-mul}
use native.Mathlib.Omega.{arith}
use lib.ListN.{length, get_or, drop, drop_of_length-le}
use lib.Seq.{drop-cons}
use Rattle.base.specs.Tests.{all_below, all_of}
use Rattle.base.specs.Sums.{sum_below, sum_of}
use Rattle.base.proofs.Sums.{sum-from, sum-end}
use Rattle.base.proofs.Bools.{and-stop, and-on, fails-at}
use Rattle.network.specs.Sizes.{dimensions, largest_capacity}
use Rattle.network.specs.Packet.{work}
use Rattle.network.specs.PacketLaws.{half_offsets}
use Rattle.network.proofs.PacketLaws.{hops_left-most}
use Rattle.network.specs.Layout.{count_of, packets_of}
use Rattle.network.proofs.LayoutLaws.{length-packets_of}
use Rattle.queue_check.specs.declared.Tally.{Tally}
use Rattle.queue_check.specs.QueueTally.{tally}
use Rattle.queue_check.specs.TallyLaws.{Passed, tally-yes, tally-no}

-- A list's elements one by one ------------------------------------------------------------------------------------------------------------

-- those from place i on, and the first of them
pub all_from : (f : ℕ → Bool) (l : List ℕ) (i : ℕ) → i < length l → all_of f (drop i l) ≡ f (get_or l i 0) && all_of f (drop (i + 1) l)
unfolding all_of
all_from f l i h = ap (all_of f) (drop-cons l i 0 h) ∙ ap (λ (j : ℕ). f (get_or l i 0) && all_of f (drop j l)) (sym (add-one i))

pub all_end : (f : ℕ → Bool) (l : List ℕ) (i : ℕ) → length l ≤ i → all_of f (drop i l) ≡ true
unfolding all_of
all_end f l i h = ap (all_of f) (drop_of_length-le l h)

-- the first i have passed, and the sum of theirs is `sum`
pub record Left (f : ℕ → Bool) (g : ℕ → ℕ) (l : List ℕ) (i sum : ℕ) : Type 0 where
  pub tests : all_of f (drop i l) ≡ all_of f l
  pub sums : sum + sum_of g (drop i l) ≡ sum_of g l

module _ (f : ℕ → Bool) (g : ℕ → ℕ) (l : List ℕ) where
  pub left-stop : (i sum : ℕ) → Left f g l i sum → i < length l → f (get_or l i 0) ≡ false → all_of f l ≡ false
  left-stop i sum left h e = sym left.tests ∙ all_from f l i h ∙ and-stop _ _ e

  pub left-more : (i sum : ℕ) → Left f g l i sum → i < length l → f (get_or l i 0) ≡ true → Left f g l (i + 1) (sum + g (get_or l i 0))
  left-more i sum left h e =
      let s = sum-from g l i h in
      let t = left.sums in
      record { tests = sym (and-on _ _ e) ∙ sym (all_from f l i h) ∙ left.tests; sums = omega arith }

  -- what is summed next stays within the sum of all
  pub left-next : (i sum : ℕ) → Left f g l i sum → i < length l → sum + g (get_or l i 0) ≤ sum_of g l
  left-next i sum left h =
      let s = sum-from g l i h in
      let t = left.sums in
      omega arith

  pub left_end : (i sum : ℕ) → Left f g l i sum → length l ≤ i → (all_of f l ≡ true) × (sum ≡ sum_of g l)
  left_end i sum left h =
      let s = sum-end g l i h in
      let t = left.sums in
      (sym left.tests ∙ all_end f l i h, omega arith)

-- Numbers below a bound one by one --------------------------------------------------------------------------------------------------------

-- those below k have passed, and these are their sums
pub record Upto (f : ℕ → Bool) (g h : ℕ → ℕ) (k held work : ℕ) : Type 0 where
  pub tests : all_below k f ≡ true
  pub packets : held ≡ sum_below k g
  pub hops-left : work ≡ sum_below k h

module _ (f : ℕ → Bool) (g h : ℕ → ℕ) where
  pub upto-start : Upto f g h 0 0 0
  unfolding all_below sum_below
  upto-start = record { tests = refl; packets = refl; hops-left = refl }

  pub upto-more : (k held work : ℕ) (t : Tally) → Upto f g h k held work → Some t ≡ tally (f k) (g k) (h k)
      → Upto f g h (k + 1) (held + t.held) (work + t.work)
  unfolding all_below sum_below
  upto-more k held work t upto e = rw (add-one k) (more (tally-yes t (f k) (g k) (h k) e))
    where
      more : Passed t (f k) (g k) (h k) → Upto f g h (suc k) (held + t.held) (work + t.work)
      more p =
          record {
            tests = and-on _ _ upto.tests ∙ p.fits;
            packets = ap₂ (λ (a b : ℕ). a + b) upto.packets p.packets;
            hops-left = ap₂ (λ (a b : ℕ). a + b) upto.hops-left p.hops-left;
          }

  pub upto-stop : (n k : ℕ) → k < n → None ≡ tally (f k) (g k) (h k) → all_below n f ≡ false
  upto-stop n k l e = fails-at n f k l (tally-no (f k) (g k) (h k) e)

  pub upto-end : (n held work : ℕ) → Upto f g h n held work → Some (record { held = held; work = work }) ≡ tally (all_below n f) (sum_below n g) (sum_below n h)
  unfolding tally
  upto-end n held work upto =
      ap₂ (λ (a b : ℕ). tally true a b) upto.packets upto.hops-left ∙ ap (λ (b : Bool). tally b (sum_below n g) (sum_below n h)) (sym upto.tests)

-- Bounds ----------------------------------------------------------------------------------------------------------------------------------

of-most : (m : ℕ) (g : ℕ → ℕ) (l : List ℕ) → ((x : ℕ) → g x ≤ m) → sum_of g l ≤ length l * m
unfolding sum_of
of-most m g [] h = omega arith
of-most m g (x ∷ xs) h =
    let a = of-most m g xs h in
    let b = h x in
    let c = suc-mul (length xs) m in
    omega arith

-- A queue's packets -----------------------------------------------------------------------------------------------------------------------

pub packets-length : (part : List ℕ) → count_of part < length part → length (packets_of part) ≡ count_of part
packets-length part h = length-packets_of (length part - 1) part (omega arith) (omega arith)

-- no packet has much work left, whatever its word, nor have the packets of a queue
abbrev packet_work : ℕ
packet_work = half_offsets * dimensions + 1

abbrev pub queue_work : ℕ
queue_work = largest_capacity * packet_work

work-most : (p : ℕ) → work p ≤ packet_work
unfolding work
work-most p = let m = hops_left-most p in omega arith

pub works-most : (l : List ℕ) → length l ≤ largest_capacity → sum_of work l ≤ queue_work
works-most l h = let m = of-most packet_work work l work-most in omega arith

-- a packet that fails has no work told, and one that passes has its own
pub work_none : (t : Bool) (p : ℕ) → None ≡ then_some t (work p) → t ≡ false
work_none true p e = absurd (none-some (work p) e)
work_none false p e = refl

pub work-some : (t : Bool) (p r : ℕ) → Some r ≡ then_some t (work p) → (t ≡ true) × (r ≡ work p)
work-some true p r e = (refl, same_Some r (work p) e)
work-some false p r e = absurd (none-some r (sym e))

-- the packets one by one, where `l` are a queue's: f tests them, and w is the next one's work
module _ (f : ℕ → Bool) (l : List ℕ) where
  pub packets-more : (i sum w : ℕ) → Left f work l i sum → i < length l → (f (get_or l i 0) ≡ true) × (w ≡ work (get_or l i 0)) → Left f work l (i + 1) (sum + w)
  packets-more i sum w left h e = let next = left-more f work l i sum left h e.0 in rw (← e.1) at next

  pub packets-small : (i sum w : ℕ) → Left f work l i sum → i < length l → (f (get_or l i 0) ≡ true) × (w ≡ work (get_or l i 0)) → length l ≤ largest_capacity → sum + w ≤ queue_work
  packets-small i sum w left h e k =
      let a = left-next f work l i sum left h in
      let b = works-most l k in
      let d = e.1 in
      omega arith

  -- at the end, where they are known as the words m too
  pub packets-end : (i sum count : ℕ) (m : List ℕ) → Left f work l i sum → length l ≤ i → l ≡ m → count ≡ length m
      → Some (record { held = count; work = sum }) ≡ tally (all_of f m) (length m) (sum_of work m)
  unfolding tally
  packets-end i sum count m left h e ec =
      let z = left_end f work l i sum left h in
      ap₂ (λ (a b : ℕ). tally true a b) ec (z.1 ∙ ap (sum_of work) e)
      ∙ ap (λ (b : Bool). tally b (length m) (sum_of work m)) (sym (ap (all_of f) (sym e) ∙ z.0))
