-- What each helper of Run.antt states, said without it, in the lists of InLists.antt. Order: a label counted; all that is held; what was handed out; a packet at
-- at-destination; moves that lead from words to words; some move; ledgers. Assumes nothing.
use Rattle.std.specs.Prelude.{◌≡◌, refl, ◌↔◌, Bool, cond, ◌&&◌, List, [], ◌∷◌, map, ℕ, suc, ◌+◌, ◌≤◌, min, T, eqb, length, get_or, take, drop}
use Rattle.std.proofs.Common.{ap, sym, ◌∙◌, add-zero, arith, eq-eqb, ne_eqb, eqb→eq, length-take, length-take-le}
use Rattle.std.proofs.Math.Path.{fun_ext}
use Rattle.std.proofs.Math.Decide.{ℕ_discrete}
use Rattle.std.proofs.Math.Dec.{eqb_refl}
use Rattle.base.specs.Tests.{all_of}
use Rattle.base.proofs.Tests.{and_l, and_r, and_i}
use Rattle.base.specs.Sums.{sum_of, sum_below}
use Rattle.base.proofs.Sums.{sum_same}
use Rattle.base.specs.Joins.{join_below}
use Rattle.base.proofs.Joins.{sum_of-join, length-join, sum_of-map}
use Rattle.base.specs.Rearrangement.{one_if, count}
use Rattle.base.proofs.Rearrangement.{count-sum}
use Rattle.network.specs.declared.NamedMove.{NamedMove}
use Rattle.network.specs.Sizes.{Shape, nodes, queues}
use Rattle.network.specs.Packet.{label, destination}
use Rattle.network.specs.Layout.{held, total}
use Rattle.network.specs.Check.{packets_held}
use Rattle.network.specs.Refusals.{move_refusal}
use Rattle.network.specs.Calls.{Delivery, move_words, move_answer, moved_number}
use Rattle.network.proofs.Answers.{move-tells}
use Rattle.network.specs.Choices.{Permits}
use Rattle.network.specs.Run.{move, Ledger, outcome, run, Leads, is_labelled, held_with, handed_with, at_destination, SomeMove, LedgerKept, AllKept}
use Rattle.network.specs.InLists.{all_held, words_of, nodes_of, as_moves, Answered, LedgersKept}
use Rattle.network.specs.InListsLaws.{lefts, lents, takens, writtens, left_behind, lent_behind}

-- A label counted -------------------------------------------------------------------------------------------------------------------------

-- `is_labelled`: how often the label stands in the list of the packet's own
pub labelled-is : (l p : ℕ) → is_labelled l p ≡ count ℕ_discrete l (label p ∷ [])
unfolding is_labelled count one_if
labelled-is l p = go (ℕ_discrete l (label p))
  where
    go : (d : Dec (l ≡ label p)) → cond (eqb (label p) l) 1 0 ≡ one_if d + 0
    go (yes e) = rw (eq-eqb (label p) l (sym e))
    go (no ne) = rw (ne_eqb (label p) l (λ e. ne (sym e)))

one_label : (l p : ℕ) → is_labelled l p ≡ one_if (ℕ_discrete l (label p))
unfolding count
one_label l p = labelled-is l p ∙ add-zero (one_if (ℕ_discrete l (label p)))

-- All that is held ------------------------------------------------------------------------------------------------------------------------

-- a sum over all queues is the sum over the one list
sum-held : (S : Shape) (w : List ℕ) (g : ℕ → ℕ) → sum_of g (all_held S w) ≡ total S w (sum_of g)
unfolding all_held total
sum-held S w g =
    sum_of-join g (nodes S) (λ n. join_below queues (λ q. held S w n q))
    ∙ sum_same (nodes S) (λ n. sum_of g (join_below queues (λ q. held S w n q))) (λ n. sum_below queues (λ q. sum_of g (held S w n q)))
    (λ n h. sum_of-join g queues (λ q. held S w n q))

-- `packets_held`: how many packets stand in the list
pub held_number : (S : Shape) (w : List ℕ) → packets_held S w ≡ length (all_held S w)
unfolding packets_held all_held total
held_number S w =
    sym
    (length-join (nodes S) (λ n. join_below queues (λ q. held S w n q))
    ∙ sum_same (nodes S) (λ n. length (join_below queues (λ q. held S w n q))) (λ n. sum_below queues (λ q. length (held S w n q)))
    (λ n h. length-join queues (λ q. held S w n q)))

-- `held_with`: how often the label stands in the list of the labels held
pub held-with-is : (l : ℕ) (S : Shape) (w : List ℕ) → held_with l S w ≡ count ℕ_discrete l (map label (all_held S w))
unfolding held_with
held-with-is l S w =
    ap (λ (g : ℕ → ℕ). total S w (sum_of g)) (fun_ext (one_label l))
    ∙ sym (sum-held S w (λ p. one_if (ℕ_discrete l (label p))))
    ∙ sym (sum_of-map (λ x. one_if (ℕ_discrete l x)) label (all_held S w))
    ∙ sym (count-sum ℕ_discrete l (map label (all_held S w)))

-- What was handed out -----------------------------------------------------------------------------------------------------------------------

-- `handed_with`: how often the label stands in the list of the labels handed out
pub handed-with-is : (l : ℕ) (ds : List Delivery) → handed_with l ds ≡ count ℕ_discrete l (map label (words_of ds))
unfolding handed_with
handed-with-is l ds =
    ap (λ (g : ℕ → ℕ). sum_of (λ (d : Delivery). g d.packet) ds) (fun_ext (one_label l))
    ∙ sym (sum_of-map (λ p. one_if (ℕ_discrete l (label p))) (λ (d : Delivery). d.packet) ds)
    ∙ sym (sum_of-map (λ x. one_if (ℕ_discrete l x)) label (words_of ds))
    ∙ sym (count-sum ℕ_discrete l (map label (words_of ds)))

-- A packet at at-destination ------------------------------------------------------------------------------------------------------------------------

-- two lists that begin with equal elements and go on alike
begin-same : {A : Type 0} (x y : A) (xs ys : List A) → x ≡ y → xs ≡ ys → ◌≡◌ {A = List A} (x ∷ xs) (y ∷ ys)
begin-same x y xs ys e f = λ i. e i ∷ f i

first-same : {A : Type 0} (x y : A) (xs ys : List A) → ◌≡◌ {A = List A} (x ∷ xs) (y ∷ ys) → x ≡ y
first-same x y xs ys e = ap (λ (l : List _). get_or l 0 x) e

rest-same : {A : Type 0} (x y : A) (xs ys : List A) → ◌≡◌ {A = List A} (x ∷ xs) (y ∷ ys) → xs ≡ ys
rest-same x y xs ys e = ap (λ (l : List _). drop 1 l) e

-- `at_destination`, of all that was handed out: each word is its own label, and the list of destinations is the list of nodes
pub at-home-is : (ds : List Delivery) → T (all_of at_destination ds) ↔ ((map label (words_of ds) ≡ words_of ds) × (map destination (words_of ds) ≡ nodes_of ds))
unfolding all_of at_destination
at-home-is [] = ((λ t. (refl, refl)), (λ e. tt))
at-home-is (d ∷ ds) = ((λ t. of t (at-home-is ds).0), (λ e. by e.0 e.1 (at-home-is ds).1))
  where
    p : ℕ
    p = d.packet

    own : Bool
    own = eqb (label p) p

    there : Bool
    there = eqb (destination p) d.node

    of : T ((own && there) && all_of at_destination ds) → (T (all_of at_destination ds) → (map label (words_of ds) ≡ words_of ds) × (map destination (words_of ds) ≡ nodes_of ds))
        → (map label (words_of (d ∷ ds)) ≡ words_of (d ∷ ds)) × (map destination (words_of (d ∷ ds)) ≡ nodes_of (d ∷ ds))
    of t later =
        let here = and_l (own && there) (all_of at_destination ds) t in
        let rest = later (and_r (own && there) (all_of at_destination ds) t) in (
          begin-same (label p) p (map label (words_of ds)) (words_of ds) (eqb→eq (label p) p (and_l own there here)) rest.0,
          begin-same (destination p) d.node (map destination (words_of ds)) (nodes_of ds) (eqb→eq (destination p) d.node (and_r own there here)) rest.1,
        )

    by : map label (words_of (d ∷ ds)) ≡ words_of (d ∷ ds) → map destination (words_of (d ∷ ds)) ≡ nodes_of (d ∷ ds)
        → ((map label (words_of ds) ≡ words_of ds) × (map destination (words_of ds) ≡ nodes_of ds) → T (all_of at_destination ds)) → T ((own && there) && all_of at_destination ds)
    by a b later =
        and_i (own && there) (all_of at_destination ds)
        (and_i own there
        (same (label p) p (first-same (label p) p (map label (words_of ds)) (words_of ds) a))
        (same (destination p) d.node (first-same (destination p) d.node (map destination (words_of ds)) (nodes_of ds) b)))
        (later (
          rest-same (label p) p (map label (words_of ds)) (words_of ds) a,
          rest-same (destination p) d.node (map destination (words_of ds)) (nodes_of ds) b,
        ))
      where
        same : (x y : ℕ) → x ≡ y → T (eqb x y)
        same x y e = rw e (eqb_refl y)

-- Moves that lead from words to words -----------------------------------------------------------------------------------------------------

-- a Move that is permitted is told, and any other is not
told-one : (w : List ℕ) (m : NamedMove) → Permits w m → (outcome (move m) w).told ≡ 1
unfolding outcome
told-one w m z = rw (eq-eqb (moved_number (move_answer w m.node m.queue m.output)) 0 ((move-tells w m.node m.queue m.output).number ∙ z))

told_none : (w : List ℕ) (m : NamedMove) → (Permits w m → ⊥) → (outcome (move m) w).told ≡ 0
unfolding outcome
told_none w m ne =
    rw (ne_eqb (moved_number (move_answer w m.node m.queue m.output)) 0 (λ z. ne (sym (move-tells w m.node m.queue m.output).number ∙ z)))

permits? : (w : List ℕ) (m : NamedMove) → Dec (Permits w m)
permits? w m = ℕ_discrete (move_refusal w m.node m.queue m.output) 0

told-most : (ms : List NamedMove) (w : List ℕ) → (run (as_moves ms) w).told ≤ length ms
unfolding run
told-most [] w = omega arith
told-most (m ∷ ms) w = go (permits? w m) (told-most ms (outcome (move m) w).words)
  where
    later : ℕ
    later = (run (as_moves ms) (outcome (move m) w).words).told

    go : Dec (Permits w m) → later ≤ length ms → (outcome (move m) w).told + later ≤ suc (length ms)
    go (yes z) l = let e = told-one w m z in omega arith
    go (no ne) l = let e = told_none w m ne in omega arith

-- `Leads`: the moves, made as Moves one after the other, are all answered by 0, and the words are then these
pub leads-is : (w : List ℕ) (ms : List NamedMove) (v : List ℕ)
    → Leads w ms v ↔ (((run (as_moves ms) w).told ≡ length ms) × ((run (as_moves ms) w).words ≡ v))
unfolding Leads run outcome
leads-is w [] v = ((λ e. (refl, e)), (λ e. e.1))
leads-is w (m ∷ ms) v = ((λ l. of l (leads-is next ms v).0), (λ e. by e.0 e.1 (leads-is next ms v).1 (told-most ms next) (permits? w m)))
  where
    next : List ℕ
    next = move_words w m.node m.queue m.output

    one : ℕ
    one = (outcome (move m) w).told

    later : ℕ
    later = (run (as_moves ms) next).told

    of : Permits w m × Leads next ms v → (Leads next ms v → (later ≡ length ms) × ((run (as_moves ms) next).words ≡ v))
        → (one + later ≡ suc (length ms)) × ((run (as_moves ms) next).words ≡ v)
    of (z, l) rest = let e = told-one w m z in let f = rest l in let t = f.0 in (omega arith, f.1)

    by : one + later ≡ suc (length ms) → (run (as_moves ms) next).words ≡ v → ((later ≡ length ms) × ((run (as_moves ms) next).words ≡ v) → Leads next ms v)
        → later ≤ length ms → Dec (Permits w m) → Permits w m × Leads next ms v
    by t e rest most (yes z) = (z, rest (let k = told-one w m z in omega arith, e))
    by t e rest most (no ne) = absurd (let k = told_none w m ne in omega arith)

-- Some move -------------------------------------------------------------------------------------------------------------------------------

-- `SomeMove`: a move that Move answers by 0
pub some-move-is : (w : List ℕ) → SomeMove w ↔ Answered w
some-move-is w = (
  (λ s. record {
    node = s.named.node;
    queue = s.named.queue;
    output = s.named.output;
    by_zero = (move-tells w s.named.node s.named.queue s.named.output).number ∙ s.permitted;
  }),
  (λ a. record {
    named = record { node = a.node; queue = a.queue; output = a.output };
    permitted = sym (move-tells w a.node a.queue a.output).number ∙ a.by_zero;
  }),
)

-- `AllKept`: ledger for ledger as long as it was, the words written among them, and the same behind those
pub all-kept-is : (Ls : List Ledger) → AllKept Ls ↔ LedgersKept Ls
unfolding AllKept
all-kept-is [] = ((λ t. record { as_long = refl; within = refl; behind = refl }), (λ k. tt))
all-kept-is (L ∷ Ls) = ((λ k. of k.0 ((all-kept-is Ls).0 k.1)), (λ k. by k (all-kept-is Ls).1))
  where
    of : LedgerKept L → LedgersKept Ls → LedgersKept (L ∷ Ls)
    of k rest =
        let f = k.fits in
        let e = k.same_length in
        record {
          as_long = begin-same (length L.left) (length L.lent) (lefts Ls) (lents Ls) k.same_length rest.as_long;
          within =
              begin-same (length (take L.written L.left)) L.written (takens Ls) (writtens Ls) (length-take-le L.written L.left (omega arith)) rest.within;
          behind = begin-same (drop L.written L.left) (drop L.written L.lent) (left_behind Ls) (lent_behind Ls) k.later-untouched rest.behind;
        }

    by : LedgersKept (L ∷ Ls) → (LedgersKept Ls → AllKept Ls) → LedgerKept L × AllKept Ls
    by k rest =
        let e : length L.left ≡ length L.lent = first-same (length L.left) (length L.lent) (lefts Ls) (lents Ls) k.as_long in
        let f : length (take L.written L.left) ≡ L.written =
        first-same (length (take L.written L.left)) L.written (takens Ls) (writtens Ls) k.within in
        let m : length (take L.written L.left) ≡ min L.written (length L.left) = length-take L.written L.left in (
          record {
            fits = omega arith;
            later-untouched = first-same (drop L.written L.left) (drop L.written L.lent) (left_behind Ls) (lent_behind Ls) k.behind;
            same_length = e;
          },
          rest
              (record {
                as_long = rest-same (length L.left) (length L.lent) (lefts Ls) (lents Ls) k.as_long;
                within = rest-same (length (take L.written L.left)) L.written (takens Ls) (writtens Ls) k.within;
                behind = rest-same (drop L.written L.left) (drop L.written L.lent) (left_behind Ls) (lent_behind Ls) k.behind;
              }),
        )
