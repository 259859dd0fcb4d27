-- Laws of a dump's bytes. Order: the fills of the first queues, and of a network; variables' lines; changes and their lines; lists that give the same
-- step. Assumes nothing.
use Rattle.std.specs.Prelude.{◌≡◌, Bool, true, false, not, cond, List, [], ◌∷◌, ◌++◌, ◌⊎◌, ℕ, zero, suc, ◌+◌, ◌*◌, ◌/◌, ◌%◌, ◌<◌, ◌≤◌, eqb, get_or}
use Rattle.std.proofs.Math.Path.{refl}
use Rattle.std.proofs.Common.{ap, ap₂, sym, ◌∙◌, subst, append-nil, append_assoc, inl, inr, eq-or-lt_of_le, le_of_suc-le-suc, not-suc-le-zero, length-append}
use Rattle.std.proofs.Math.Nat.{mul-le-mul_left}
use native.Mathlib.Omega.{arith}
use Rattle.std.proofs.Math.ListN.{length, get_or-append}
use Rattle.std.proofs.lemmas.List.{get_or_at}
use Rattle.network.specs.Sizes.{Shape, nodes, queues, capacity}
use Rattle.network.proofs.SizesLaws.{range-of, capacity-most}
use Rattle.network.proofs.TorusLaws.{in_range-torus, in_range-nodes, nodes-pos}
use Rattle.network.specs.Layout.{shape, moves_made, node_words, need, queue_start, queue_part, queue_length, held}
use Rattle.network.specs.LayoutLaws.{Fits}
use Rattle.network.proofs.LayoutLaws.{length-queue_part, length-packets_of, count_word}
use Rattle.network.specs.CheckLaws.{Network}
use Rattle.network.specs.Refusals.{network_refusal}
use Rattle.network.proofs.RefusalLaws.{network-passed}
use Rattle.waveform.specs.Dump.{variables_of, most_variables, fills_to, fills, variables_begin, variables_end, values_begin, values_end, variable_line, variable_lines, stamp_line, Change, value_line, value_lines, tells, changes_to, changes, step_bytes}
use Rattle.waveform.specs.Reading.{largest_time, largest_fill}
use Rattle.waveform.specs.Calls.{fills_now}
use Rattle.waveform.specs.DumpLaws.{change_at}

pub fills_to-length : (S : Shape) (w : List ℕ) (i : ℕ) → length (fills_to S w i) ≡ i
unfolding fills_to
fills_to-length S w zero = refl
fills_to-length S w (suc i) =
    let l = fills_to-length S w i in
    length-append (fills_to S w i) (_ ∷ []) ∙ omega arith

pub fills-length : (S : Shape) (w : List ℕ) → length (fills S w) ≡ variables_of S
unfolding fills
fills-length S w = fills_to-length S w (variables_of S)

pub fills_to-at : (S : Shape) (w : List ℕ) (i j : ℕ) → j < i → get_or (fills_to S w i) j 0 ≡ length (held S w (j / queues) (j % queues))
unfolding fills_to
fills_to-at S w zero j h = absurd (not-suc-le-zero h)
fills_to-at S w (suc i) j h = go (eq-or-lt_of_le (le_of_suc-le-suc h)) (λ h'. fills_to-at S w i j h')
  where
    fill : ℕ → ℕ
    fill k = length (held S w (k / queues) (k % queues))

    go : (j ≡ i) ⊎ (j < i) → (j < i → get_or (fills_to S w i) j 0 ≡ fill j) → get_or (fills_to S w i ++ (fill i ∷ [])) j 0 ≡ fill j
    go (inl e) r = get_or_at (fills_to S w i) (fill i) [] 0 j (fills_to-length S w i ∙ sym e) ∙ ap fill (sym e)
    go (inr h') r = get_or-append (fills_to S w i) (fill i ∷ []) 0 j (let l = fills_to-length S w i in omega arith) ∙ r h'

-- the word before a queue's packets is their number, which is small
pub held_word : (S : Shape) (w : List ℕ) (n q : ℕ) → Network S w → n < nodes S → q < queues
    → (get_or w (queue_start S n q) 0 ≡ length (held S w n q)) × (length (held S w n q) ≤ capacity S q)
unfolding held queue_length
held_word S w n q k hn hq =
    let few = (k.queue n q hn hq).few in
    let fits : Fits S w n q = record { node = hn; queue = hq; long = k.long } in
    (count_word S w n q fits few, subst (λ m. m ≤ capacity S q) (sym (length-packets_of (capacity S q) (queue_part S w n q) (length-queue_part S w n q fits) few)) few)

-- a variable's node and queue
pub variable-queue : (S : Shape) (i : ℕ) → i < variables_of S → (i / queues < nodes S) × (i % queues < queues)
variable-queue S i h = (omega arith, omega arith)

module _ (w : List ℕ) (passed : network_refusal w ≡ 0) where
  network : Network (shape w) w
  network = network-passed w passed

  pub fill-most : (j : ℕ) → j < variables_of (shape w) → get_or (fills_now w) j 0 ≤ largest_fill
  unfolding fills
  fill-most j h =
      let (hn, hq) = variable-queue (shape w) j h in
      let e = fills_to-at (shape w) w (variables_of (shape w)) j h in
      let (at, few) = held_word (shape w) w (j / queues) (j % queues) network hn hq in
      let c = capacity-most (shape w) (j % queues) (range-of (shape w) network.in-range) in
      omega arith

  pub variables-most : variables_of (shape w) ≤ most_variables
  unfolding shape
  variables-most = let m = in_range-nodes (shape w) network.in-range refl in omega arith

  -- each queue has two words at least, its number held and a slot
  pub variables-words : 2 * variables_of (shape w) ≤ length w
  unfolding need node_words
  variables-words =
      let r = range-of (shape w) network.in-range in
      let j = r.injection.low in
      let a = r.adaptive.low in
      let e = r.escape.low in
      let m : nodes (shape w) * (2 * queues) ≤ nodes (shape w) * node_words (shape w) = mul-le-mul_left (nodes (shape w)) (omega arith) in
      let l : need (shape w) ≤ length w = network.long in
      omega arith

  pub variables-some : 1 ≤ variables_of (shape w)
  unfolding shape
  variables-some = let m = nodes-pos (shape w) (in_range-torus (shape w) network.in-range refl) in omega arith

  pub time-most : moves_made w ≤ largest_time
  time-most =
      let b = network.bounded in
      let a = network.few-accepted in
      omega arith

-- the lines of variables, one more at the end
pub variable_lines-more : (i count : ℕ) → variable_lines i (suc count) ≡ variable_lines i count ++ variable_line (i + count)
unfolding variable_lines
variable_lines-more i zero = append-nil (variable_line i) ∙ ap variable_line (omega arith)
variable_lines-more i (suc count) =
    ap (λ l. variable_line i ++ l) (variable_lines-more (suc i) count ∙ ap (λ k. variable_lines (suc i) count ++ variable_line k) (omega arith))
    ∙ sym (append_assoc (variable_line i) (variable_lines (suc i) count) (variable_line (i + suc count)))

-- changes one after another
pub value_lines-append : (cs ds : List Change) → value_lines (cs ++ ds) ≡ value_lines cs ++ value_lines ds
unfolding value_lines
value_lines-append [] ds = refl
value_lines-append (c ∷ cs) ds = ap (λ l. value_line c ++ l) (value_lines-append cs ds) ∙ sym (append_assoc (value_line c) (value_lines cs) (value_lines ds))

-- the lines of the first variables, with one variable more that tells its fill, or does not
pub lines-told : (every : Bool) (counts list : List ℕ) (i : ℕ) → tells every counts list i ≡ true
    → value_lines (changes_to every counts list (suc i)) ≡ value_lines (changes_to every counts list i) ++ value_line (change_at counts i)
unfolding changes_to value_lines
lines-told every counts list i e =
    rw e
    (value_lines-append (changes_to every counts list i) (change_at counts i ∷ [])
    ∙ ap (λ l. value_lines (changes_to every counts list i) ++ l) (append-nil (value_line (change_at counts i))))

pub lines-untold : (every : Bool) (counts list : List ℕ) (i : ℕ) → tells every counts list i ≡ false
    → value_lines (changes_to every counts list (suc i)) ≡ value_lines (changes_to every counts list i)
unfolding changes_to
lines-untold every counts list i e = rw e (ap value_lines (append-nil (changes_to every counts list i)))

-- a step hangs on the list only where it looks: a later one at as many bytes as there are fills, a header nowhere
changes-same : (every : Bool) (counts list list' : List ℕ) (i : ℕ) → ((j : ℕ) → j < i → every ≡ false → get_or list j 0 ≡ get_or list' j 0)
    → changes_to every counts list i ≡ changes_to every counts list' i
unfolding changes_to tells
changes-same every counts list list' zero same = refl
changes-same every counts list list' (suc i) same =
    ap₂ (λ cs t. cs ++ cond t (change_at counts i ∷ []) []) (changes-same every counts list list' i (λ j h f. same j (omega arith) f)) (told every (same i (omega arith)))
  where
    told : (every : Bool) → (every ≡ false → get_or list i 0 ≡ get_or list' i 0) → tells every counts list i ≡ tells every counts list' i
    told true same = refl
    told false same = ap (λ n. not (eqb (get_or counts i 0) n)) (same refl)

pub step_same : (first : Bool) (time : ℕ) (counts list list' : List ℕ) → ((j : ℕ) → j < length counts → first ≡ false → get_or list j 0 ≡ get_or list' j 0)
    → step_bytes first time counts list ≡ step_bytes first time counts list'
unfolding step_bytes changes
step_same true time counts list list' same =
    ap (λ cs. variables_begin ++ (variable_lines 0 (length counts) ++ (variables_end ++ (stamp_line time ++ (values_begin ++ (value_lines cs ++ values_end))))))
    (changes-same true counts list list' (length counts) same)
step_same false time counts list list' same = ap (λ cs. stamp_line time ++ value_lines cs) (changes-same false counts list list' (length counts) same)
