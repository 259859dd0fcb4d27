-- First's search, step by step: at each level, what is found from the start is what is found from here on, as long as nothing was found.
-- Order: numbers searched in order; the routes of a head; a queue as the code reads it; the invariants of the two outer loops; a network
-- that holds nothing. Assumes nothing.
use Rattle.std.specs.Prelude.{Option, None, Some}
use mathlib.Core.Path.{◌≡◌, refl, ap, sym, ◌∙◌, subst}
use mathlib.Core.Bool.{true, false, cond}
use mathlib.Core.List.{List, [], ◌∷◌}
use mathlib.Core.Logic.{◌⊎◌, inl, inr, ◌≢◌}
use Prim.Native.Nat.{ℕ, suc, ◌+◌, ◌*◌, ◌-◌, ◌<◌, ◌≤◌}
use native.Mathlib.Nat.{suc-mul, zero-mul, pos_of_ne-zero}
use native.Mathlib.Numerals.{add-one}
use native.Mathlib.Omega.{arith}
use borrow.Author.Tests.{eq-eqb, ne_eqb}
use lib.Dec.{T}
use lib.ListN.{length, get_or, drop}
use Rattle.base.specs.Sums.{sum_below}
use Rattle.base.specs.Tests.{elem}
use Rattle.network.specs.declared.NamedMove.{NamedMove}
use Rattle.network.specs.Sizes.{Shape, shape_of, nodes, queues, adaptive_queue, escape_queue, capacity, directions}
use Rattle.network.specs.Layout.{header_words, node_words, queue_start, queue_end, queue_length, held, total, accepted, delivered}
use Rattle.network.proofs.LayoutLaws.{end-next, end-length, node-words, total-zero}
use Rattle.network.specs.Check.{packets_held}
use Rattle.network.specs.CheckLaws.{Network}
use Rattle.network.specs.Packet.{distance, heading, hops_left}
use Rattle.network.proofs.PacketLaws.{heading-lt}
use Rattle.network.specs.Routes.{routes, deliver}
use Rattle.network.specs.RoutesLaws.{Onward}
use Rattle.network.proofs.RoutesLaws.{route-of}
use Rattle.network.specs.Refusals.{head, flow_rules, move_rules}
use Rattle.network.specs.RefusalLaws.{Permitted}
use Rattle.network.proofs.RefusalLaws.{permitted-of, permitted-by, flow-of, flow-by}
use Rattle.network.specs.Calls.{first_output, first_in_queue, or_else, search, first_in_node, first_move, move_of}
use Rattle.network.specs.FirstLaws.{Finds, nothing, named}
use Rattle.network.proofs.FirstLaws.{first_finds}
use Rattle.network.specs.declared.Sizes.{Sizes}
use Rattle.queue.specs.QueueLaws.{checked-fits}
use Rattle.routes.specs.Lines.{selection_lines, applies, outputs_from}
use Rattle.routes.specs.LinesLaws.{line_taken, line-passed, lines_end, line-member}
use Rattle.queue.specs.QueueOf.{QueueOf}
use Rattle.queue.specs.HeldWords.{queue-checked, count-read, head_read}

-- Numbers searched in order -----------------------------------------------------------------------------------------------------------

module _ (f : ℕ → Option NamedMove) (i total : ℕ) where
  step : i < total → search f i (total - i) ≡ or_else (f i) (search f (i + 1) (total - (i + 1)))
  unfolding search
  step h =
      let e : total - i ≡ suc (total - (i + 1)) = omega arith in
      ap (search f i) e ∙ ap (λ (j : ℕ). or_else (f i) (search f j (total - (i + 1)))) (sym (add-one i))

  pub search-on : i < total → f i ≡ None → search f (i + 1) (total - (i + 1)) ≡ search f i (total - i)
  unfolding or_else
  search-on h e = sym (step h ∙ ap (λ (a : Option NamedMove). or_else a (search f (i + 1) (total - (i + 1)))) e)

  pub search-found : (n q o : ℕ) → i < total → f i ≡ Some (move_of n q o) → search f i (total - i) ≡ Some (move_of n q o)
  unfolding or_else
  search-found n q o h e = step h ∙ ap (λ (a : Option NamedMove). or_else a (search f (i + 1) (total - (i + 1)))) e

  pub search-end : total ≤ i → search f i (total - i) ≡ None
  unfolding search
  search-end h = let e : total - i ≡ 0 = omega arith in ap (search f i) e

-- The routes of a head ----------------------------------------------------------------------------------------------------------------

-- each is an output
route-lt : (q p o : ℕ) → T (elem o (routes q p)) → o < queues
route-lt q p o t = go (route-of q p o t)
  where
    by : (r : Onward p o) → heading r.dimension p < directions
        → (o ≡ adaptive_queue (heading r.dimension p)) ⊎ ((o ≡ escape_queue (heading r.dimension p)) × ((j : ℕ) → j < r.dimension → distance j p ≡ 0)) → o < queues
    by r l (inl e) = omega arith
    by r l (inr e) = let f = e.0 in omega arith

    go : ((o ≡ deliver) × (hops_left p ≡ 0)) ⊎ Onward p o → o < queues
    go (inl e) = let f = e.0 in omega arith
    go (inr r) = by r (heading-lt r.dimension p r.below) r.by

module _ (S : Shape) (w : List ℕ) (n q : ℕ) where
  -- an empty queue has no permitted move
  none_of : (os : List ℕ) → length (held S w n q) ≡ 0 → first_output S w n q os ≡ None
  unfolding first_output
  none_of [] e = refl
  none_of (o ∷ os) e =
      ap (λ b. cond b (Some (move_of n q o)) (first_output S w n q os)) (ne_eqb (move_rules S w n q o) 0 (λ z. (permitted-of S w n q o z).holds e))
      ∙ none_of os e

  pub empty : length (held S w n q) ≡ 0 → first_in_queue S w n q ≡ None
  unfolding first_in_queue
  empty e = none_of (routes q (head (held S w n q))) e

  output_on : (o : ℕ) (os : List ℕ) → move_rules S w n q o ≢ 0 → first_output S w n q (o ∷ os) ≡ first_output S w n q os
  unfolding first_output
  output_on o os ne = ap (λ b. cond b (Some (move_of n q o)) (first_output S w n q os)) (ne_eqb (move_rules S w n q o) 0 ne)

  output-found : (o : ℕ) (os : List ℕ) → move_rules S w n q o ≡ 0 → first_output S w n q (o ∷ os) ≡ Some (move_of n q o)
  unfolding first_output
  output-found o os e = ap (λ b. cond b (Some (move_of n q o)) (first_output S w n q os)) (eq-eqb (move_rules S w n q o) 0 e)

  output-end : first_output S w n q [] ≡ None
  unfolding first_output
  output-end = refl

  -- a route of a head that is there is permitted exactly when the flow rule lets it pass
  flow-passes : (o : ℕ) → n < nodes S → q < queues → length (held S w n q) ≢ 0 → T (elem o (routes q (head (held S w n q))))
      → flow_rules S w n q o (head (held S w n q)) ≡ 0 → move_rules S w n q o ≡ 0
  flow-passes o hn hq some t e =
      permitted-by S w n q o
      (record { node = hn; queue = hq; output = route-lt q (head (held S w n q)) o t; holds = some; route = t; room = flow-of S w n q o (head (held S w n q)) e })

  flow-refuses : (o : ℕ) → flow_rules S w n q o (head (held S w n q)) ≢ 0 → move_rules S w n q o ≢ 0
  flow-refuses o ne z = ne (flow-by S w n q o (head (held S w n q)) (permitted-of S w n q o z).room)

-- A queue as the code reads it --------------------------------------------------------------------------------------------------------

-- its words start at `start`, its number held is not 0, and r is what the lines give of the word behind that
pub record Reading (s : Sizes) (w : List ℕ) (n q start : ℕ) (r : List ℕ) : Type 0 where
  pub queue : QueueOf (shape_of s) w n q
  pub at : start ≡ queue_start (shape_of s) n q
  pub some : get_or w start 0 ≢ 0
  pub each : length r ≡ selection_lines
  pub these : outputs_from 0 r ≡ routes q (get_or w (start + 1) 0)

-- what First finds by line j and those behind it is what it finds
abbrev pub FoundFrom : Sizes → List ℕ → ℕ → ℕ → List ℕ → ℕ → Type 0
FoundFrom s w n q r j = first_output (shape_of s) w n q (outputs_from j (drop j r)) ≡ first_in_queue (shape_of s) w n q

module _ {s : Sizes} {w : List ℕ} {n q start : ℕ} {r : List ℕ} (k : Reading s w n q start r) where
  holds : length (held (shape_of s) w n q) ≢ 0
  holds z = k.some (count-read s w n q k.queue start k.at ∙ z)

  -- the word behind the number held
  the-head : get_or w (start + 1) 0 ≡ head (held (shape_of s) w n q)
  the-head = head_read s w n q k.queue start k.at (pos_of_ne-zero holds)

  lines_are : outputs_from 0 r ≡ routes q (head (held (shape_of s) w n q))
  lines_are = k.these ∙ ap (routes q) the-head

  among : (j : ℕ) → j < selection_lines → j < length r
  among j h = let e = k.each in omega arith

  is-route : (j : ℕ) → j < selection_lines → applies j (get_or r j 0) ≡ true → T (elem (get_or r j 0) (routes q (head (held (shape_of s) w n q))))
  is-route j h a = subst (λ (os : List ℕ). T (elem (get_or r j 0) os)) lines_are (line-member r j (among j h) a)

  pub output-lt : (j : ℕ) → j < selection_lines → applies j (get_or r j 0) ≡ true → get_or r j 0 < queues
  output-lt j h a = route-lt q (head (held (shape_of s) w n q)) (get_or r j 0) (is-route j h a)

  -- before the first line
  pub found-from-first : FoundFrom s w n q r 0
  unfolding first_in_queue
  found-from-first = ap (first_output (shape_of s) w n q) lines_are

  -- the next line, where this one gives nothing or the flow rule refuses what it gives; the move, where it lets it pass; and nothing, where no
  -- line is left
  pub line-none : (j : ℕ) → j < selection_lines → applies j (get_or r j 0) ≡ false → FoundFrom s w n q r j → FoundFrom s w n q r (j + 1)
  line-none j h a inv = ap (first_output (shape_of s) w n q) (sym (line-passed r j (among j h) a)) ∙ inv

  pub line_refused : (j : ℕ) → j < selection_lines → applies j (get_or r j 0) ≡ true → flow_rules (shape_of s) w n q (get_or r j 0) (get_or w (start + 1) 0) ≢ 0 → FoundFrom s w n q r j
      → FoundFrom s w n q r (j + 1)
  line_refused j h a ne inv =
      let refuses = flow-refuses (shape_of s) w n q (get_or r j 0) (λ z. ne (ap (flow_rules (shape_of s) w n q (get_or r j 0)) the-head ∙ z)) in
      sym
      (ap (first_output (shape_of s) w n q) (line_taken r j (among j h) a)
      ∙ output_on (shape_of s) w n q (get_or r j 0) (outputs_from (j + 1) (drop (j + 1) r)) refuses)
      ∙ inv

  pub line-found : (j : ℕ) → j < selection_lines → applies j (get_or r j 0) ≡ true → flow_rules (shape_of s) w n q (get_or r j 0) (get_or w (start + 1) 0) ≡ 0 → FoundFrom s w n q r j
      → first_in_queue (shape_of s) w n q ≡ Some (move_of n q (get_or r j 0))
  line-found j h a e inv =
      sym inv
      ∙ ap (first_output (shape_of s) w n q) (line_taken r j (among j h) a)
      ∙ output-found (shape_of s) w n q (get_or r j 0) (outputs_from (j + 1) (drop (j + 1) r))
      (flow-passes (shape_of s) w n q (get_or r j 0) k.queue.node k.queue.queue holds (is-route j h a)
      (ap (flow_rules (shape_of s) w n q (get_or r j 0)) (sym the-head) ∙ e))

  pub lines_none : (j : ℕ) → j ≤ selection_lines → selection_lines ≤ j → FoundFrom s w n q r j → first_in_queue (shape_of s) w n q ≡ None
  lines_none j h l inv =
      sym inv
      ∙ ap (first_output (shape_of s) w n q) (lines_end r j (let e = k.each in omega arith))
      ∙ output-end (shape_of s) w n q

-- a queue's words end among those lent
pub end-at : (s : Sizes) (w : List ℕ) (n q : ℕ) → QueueOf (shape_of s) w n q → (start slots : ℕ) → start ≡ queue_start (shape_of s) n q → slots ≡ capacity (shape_of s) q
    → start + (1 + slots) ≤ length w
unfolding queue_end queue_length
end-at s w n q k start slots e f =
    let l : queue_start (shape_of s) n q + (1 + capacity (shape_of s) q) ≤ length w =
    end-length (shape_of s) w n q (checked-fits (shape_of s) w n q (queue-checked s w n q k)) in
    omega arith

-- a queue that holds none
pub queue-none : (s : Sizes) (w : List ℕ) (n q start : ℕ) → QueueOf (shape_of s) w n q → start ≡ queue_start (shape_of s) n q → get_or w start 0 ≡ 0
    → first_in_queue (shape_of s) w n q ≡ None
queue-none s w n q start k at z = empty (shape_of s) w n q (sym (count-read s w n q k start at) ∙ z)

-- The invariants ----------------------------------------------------------------------------------------------------------------------

-- what is left is found: of a node's queues, of the nodes
pub record AtQueue (s : Sizes) (w : List ℕ) (n start q : ℕ) : Type 0 where
  pub place : start ≡ queue_start (shape_of s) n q
  pub left : search (λ r. first_in_queue (shape_of s) w n r) q (queues - q) ≡ first_in_node (shape_of s) w n

pub record AtNode (s : Sizes) (w : List ℕ) (start n : ℕ) : Type 0 where
  pub place : start ≡ queue_start (shape_of s) n 0
  pub left : search (λ m. first_in_node (shape_of s) w m) n (nodes (shape_of s) - n) ≡ first_move (shape_of s) w

module _ {s : Sizes} {w : List ℕ} {n : ℕ} where
  pub queues-begin : {start : ℕ} → start ≡ queue_start (shape_of s) n 0 → AtQueue s w n start 0
  unfolding first_in_node
  queues-begin e = record { place = e; left = refl }

  pub queue-next : {start q slots : ℕ} → AtQueue s w n start q → q < queues → slots ≡ capacity (shape_of s) q
      → first_in_queue (shape_of s) w n q ≡ None → AtQueue s w n (start + (1 + slots)) (q + 1)
  unfolding queue_end queue_length
  queue-next {start = start} {q = q} {slots = slots} i h c e =
      let next : queue_start (shape_of s) n q + (1 + capacity (shape_of s) q) ≡ queue_start (shape_of s) n (suc q) = end-next (shape_of s) n q in
      let at : start ≡ queue_start (shape_of s) n q = i.place in
      let one : queue_start (shape_of s) n (suc q) ≡ queue_start (shape_of s) n (q + 1) = ap (queue_start (shape_of s) n) (sym (add-one q)) in
      record {
        place = omega arith;
        left = search-on (λ r. first_in_queue (shape_of s) w n r) q queues h e ∙ i.left;
      }

  pub queue-found : {start q o : ℕ} → AtQueue s w n start q → q < queues → first_in_queue (shape_of s) w n q ≡ Some (move_of n q o)
      → first_in_node (shape_of s) w n ≡ Some (move_of n q o)
  queue-found {q = q} {o = o} i h e = sym i.left ∙ search-found (λ r. first_in_queue (shape_of s) w n r) q queues n q o h e

  queues-none : {start q : ℕ} → AtQueue s w n start q → queues ≤ q → first_in_node (shape_of s) w n ≡ None
  queues-none {q = q} i h = sym i.left ∙ search-end (λ r. first_in_queue (shape_of s) w n r) q queues h

-- the words of a node end where the next node's begin
after-node : (S : Shape) (n : ℕ) → queue_start S n queues ≡ queue_start S (n + 1) 0
unfolding queue_start sum_below
after-node S n =
    let all = node-words S in
    let more = suc-mul n (node_words S) in
    let one : (n + 1) * node_words S ≡ suc n * node_words S = ap (λ (m : ℕ). m * node_words S) (add-one n) in
    omega arith

before-nodes : (S : Shape) → header_words ≡ queue_start S 0 0
unfolding queue_start sum_below
before-nodes S = let z = zero-mul (node_words S) in omega arith

module _ {s : Sizes} {w : List ℕ} where
  pub nodes-begin : AtNode s w header_words 0
  unfolding first_move
  nodes-begin = record { place = before-nodes (shape_of s); left = ap (search (λ m. first_in_node (shape_of s) w m) 0) (omega arith) }

  pub node-next : {start start' n q : ℕ} → AtNode s w start n → n < nodes (shape_of s) → AtQueue s w n start' q → q ≤ queues → queues ≤ q
      → AtNode s w start' (n + 1)
  node-next {start' = start'} {n = n} {q = q} i h j m l =
      let at : start' ≡ queue_start (shape_of s) n q = j.place in
      let last : q ≡ queues = omega arith in
      let same : queue_start (shape_of s) n q ≡ queue_start (shape_of s) n queues = ap (queue_start (shape_of s) n) last in
      let next = after-node (shape_of s) n in
      record {
        place = omega arith;
        left = search-on (λ m. first_in_node (shape_of s) w m) n (nodes (shape_of s)) h (queues-none j l) ∙ i.left;
      }

  pub node-found : {start n q o : ℕ} → AtNode s w start n → n < nodes (shape_of s) → first_in_node (shape_of s) w n ≡ Some (move_of n q o)
      → first_move (shape_of s) w ≡ Some (move_of n q o)
  node-found {n = n} {q = q} {o = o} i h e = sym i.left ∙ search-found (λ m. first_in_node (shape_of s) w m) n (nodes (shape_of s)) n q o h e

  pub nodes-none : {start n : ℕ} → AtNode s w start n → nodes (shape_of s) ≤ n → first_move (shape_of s) w ≡ None
  nodes-none {n = n} i h = sym i.left ∙ search-end (λ m. first_in_node (shape_of s) w m) n (nodes (shape_of s)) h

-- A network that holds nothing --------------------------------------------------------------------------------------------------------

-- as many packets were delivered as accepted: no queue holds one, and none can move
pub nothing-held : (S : Shape) (w : List ℕ) → Network S w → accepted w ≡ delivered w → first_move S w ≡ None
unfolding packets_held
nothing-held S w N e = go (first_move S w) (first_finds S w)
  where
    none : total S w length ≡ 0
    none = let c : delivered w + total S w length ≡ accepted w = N.counted in omega arith

    go : (f : Option NamedMove) → Finds (Permitted S w) f → f ≡ None
    go f nothing = refl
    go f (named {n} {q} {o} P) = absurd (P.holds (ap length (total-zero S w n q none P.node P.queue)))
