-- The fills of a node's queues read one after another, and those of the nodes. Order: the word of a queue; a node's queues; the nodes. Assumes nothing.
use mathlib.Core.Path.{◌≡◌, ap, ap₂, sym, ◌∙◌, subst}
use mathlib.Core.List.{List}
use Prim.Native.Nat.{ℕ, suc, ◌+◌, ◌*◌, ◌/◌, ◌%◌, ◌<◌, ◌≤◌}
use native.Mathlib.Nat.{mul-le-mul_right, suc-mul}
use native.Mathlib.Omega.{arith}
use lib.ListN.{length, get_or, set, length-set}
use Rattle.network.specs.Sizes.{Shape, nodes, queues, capacity, largest_capacity}
use Rattle.network.proofs.SizesLaws.{range-of, capacity-most}
use Rattle.network.specs.Layout.{header_words, node_words, need, queue_start, queue_end, queue_length, held}
use Rattle.network.proofs.LayoutLaws.{end-next, end-need}
use Rattle.network.specs.CheckLaws.{Network}
use Rattle.base.specs.Sums.{sum_below}
use Rattle.waveform.specs.Dump.{variables_of, fills}
use Rattle.waveform.proofs.DumpLaws.{held_word}
use Rattle.dump_writer.specs.Writing.{FirstFills, filled_none, filled-length, filled_more, filled-all}

-- where the number held of a queue stands, and that it is small
pub record CountAt (S : Shape) (w : List ℕ) (n q at : ℕ) : Type 0 where
  pub inside : at < length w
  pub word : get_or w at 0 ≡ length (held S w n q)
  pub small : get_or w at 0 ≤ largest_capacity

pub count_at : (S : Shape) (w : List ℕ) (n q at : ℕ) → Network S w → n < nodes S → q < queues → at ≡ queue_start S n q → CountAt S w n q at
unfolding queue_end queue_length
count_at S w n q at k hn hq e =
    let (word, few) = held_word S w n q k hn hq in
    let end = end-need S n q hn hq in
    let long = k.long in
    let most = capacity-most S q (range-of S k.in-range) in
    let here : get_or w at 0 ≡ length (held S w n q) = ap (λ i. get_or w i 0) e ∙ word in
    record { inside = omega arith; word = here; small = omega arith }

-- the queues of node n before queue q have been read
pub record NodeRead (S : Shape) (w : List ℕ) (n : ℕ) (before counts : List ℕ) (at q : ℕ) : Type 0 where
  pub place : at ≡ queue_start S n q
  pub same : length counts ≡ length before
  pub added : (lent : List ℕ) → FirstFills S w (n * queues) lent before → FirstFills S w (n * queues + q) lent counts

module _ {S : Shape} {w : List ℕ} {n : ℕ} {before counts : List ℕ} {at q : ℕ} (r : NodeRead S w n before counts at q)
    (k : Network S w) (hn : n < nodes S) (all : length before ≡ variables_of S) where
  pub node-count : q < queues → CountAt S w n q at
  node-count hq = count_at S w n q at k hn hq r.place

  pub node-more : q < queues → (c : ℕ) → c ≡ capacity S q → NodeRead S w n before (set counts (n * queues + q) (get_or w at 0)) (at + (c + 1)) (q + 1)
  unfolding queue_end queue_length
  node-more hq c e =
      let next = end-next S n q in
      let p = r.place in
      let s : q + 1 ≡ suc q = omega arith in
      let d : (n * queues + q) / queues ≡ n = omega arith in
      let m : (n * queues + q) % queues ≡ q = omega arith in
      let o : n * queues + q + 1 ≡ n * queues + (q + 1) = omega arith in
      record {
        place = (let a : at + (c + 1) ≡ queue_start S n (suc q) = omega arith in a ∙ ap (queue_start S n) (sym s));
        same = length-set counts (n * queues + q) (get_or w at 0) ∙ r.same;
        added =
            λ lent f.
            let g = r.added lent f in
            let l = filled-length g in
            let t = r.same in
            subst (λ j. FirstFills S w j lent (set counts (n * queues + q) (get_or w at 0))) o
            (filled_more g (omega arith) (get_or w at 0) ((node-count hq).word ∙ ap₂ (λ a b. length (held S w a b)) (sym d) (sym m)));
      }

-- the nodes before node n have been read
pub record NodesRead (S : Shape) (w lent counts : List ℕ) (start n : ℕ) : Type 0 where
  pub place : start ≡ header_words + n * node_words S
  pub filled : FirstFills S w (n * queues) lent counts

pub nodes-none : (S : Shape) (w lent : List ℕ) → NodesRead S w lent lent header_words 0
nodes-none S w lent = record { place = omega arith; filled = filled_none S w lent }

module _ {S : Shape} {w lent counts : List ℕ} {start n : ℕ} (r : NodesRead S w lent counts start n) where
  pub nodes-start : start ≡ queue_start S n 0
  unfolding queue_start sum_below
  nodes-start = r.place ∙ omega arith

  -- where the next node begins, within the words
  pub nodes-within : Network S w → n < nodes S → start + node_words S ≤ length w
  unfolding need
  nodes-within k h =
      let m : suc n * node_words S ≤ nodes S * node_words S = mul-le-mul_right (node_words S) h in
      let e : suc n * node_words S ≡ n * node_words S + node_words S = suc-mul n (node_words S) in
      let p = r.place in
      let long = k.long in
      omega arith

  pub nodes-all : n ≡ nodes S → length lent ≡ variables_of S → counts ≡ fills S w
  nodes-all e l = filled-all r.filled (omega arith) (omega arith)
