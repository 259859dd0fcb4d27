-- `packet_check::passing` meets its contract: in each case the limits of both directions along dimension i. Assumes nothing.
use Rattle.std.proofs.Common.{le-ltb, ◌≡◌, ap, ap₂, sym, ◌∙◌, ◌≢◌, ℕ, ◌+◌, ◌*◌, ◌/◌, ◌<◌, ◌≤◌, arith, lt→ltb}
use Rattle.network.specs.Sizes.{Shape, shape_of, directions, dimension_of, direction_of, injection_queue, plus, minus}
use Rattle.network.proofs.TorusLaws.{in_range-size}
use Rattle.network.specs.Check.{longest}
use Rattle.packet_check.specs.PacketLimits.{limit}
use Rattle.packet_check.specs.LimitLaws.{limit-injection, limit-own, limit-back, limit-lower, limit-adaptive, limit-higher}
use Rattle.packet_check.specs.Tables.{row, passing}
use Rattle.packet_check.proofs.passing.Goals as goal
use Rattle.packet_check.proofs.passing.Goals.{After-direction_of-own, After-size-half, Else-own-i-2}

-- half of the ring is what it is of the dimension
module _ (S : Shape) (q i half : ℕ) (eh : half ≡ longest S i) where
  half-along : (d : ℕ) → dimension_of d ≡ i → half ≡ longest S (dimension_of d)
  half-along d s = eh ∙ ap (longest S) (sym s)

  -- the queue's own direction
  own : q ≢ injection_queue → (d : ℕ) → dimension_of d ≡ i → direction_of q ≡ d → half ≡ limit S q d
  own ne d s e = half-along d s ∙ sym (limit-own S q d ne e)

  -- r is the answer: by the limits of both directions, which may be the same
  module _ (r : ℕ) where
    both : (forward back : ℕ) → r ≡ row forward back → forward ≡ limit S q (plus i) → back ≡ limit S q (minus i) → r ≡ passing S q i
    unfolding passing
    both forward back e ef eb = e ∙ ap₂ row ef eb

    alike : (v : ℕ) → r ≡ row v v → ((d : ℕ) → dimension_of d ≡ i → v ≡ limit S q d) → r ≡ passing S q i
    alike v e law = both v v e (law (plus i) (omega arith)) (law (minus i) (omega arith))

    far : r ≡ row (half + 1) (half + 1) → ((d : ℕ) → dimension_of d ≡ i → limit S q d ≡ longest S (dimension_of d) + 1) → r ≡ passing S q i
    far e law = alike (half + 1) e (λ d s. ap (λ (k : ℕ). k + 1) (half-along d s) ∙ sym (law d s))

-- what is known of the ring
half_is : (c : After-size-half) → c.size-half.result / 2 ≡ longest (shape_of c.args.s) c.args.i
half_is c = ap (λ (k : ℕ). k / 2) c.size-half.ensures

small : (c : After-size-half) → c.size-half.result / 2 + 1 ≤ 9
small c =
    let e = c.size-half.ensures in
    let m = in_range-size (shape_of c.args.s) c.args.i c.requires.0 in
    omega arith

pub row-requires : goal.row-requires
row-requires c = let l = small (goal.at.row-requires c).After-size-half in (omega arith, omega arith, omega arith)

pub returns-then-q-eq-INJECTION_QUEUE : goal.returns-then-q-eq-INJECTION_QUEUE
returns-then-q-eq-INJECTION_QUEUE c =
    let a = c.args in
    far (shape_of a.s) a.q a.i _ (half_is (goal.at.returns-then-q-eq-INJECTION_QUEUE c).After-size-half) _ c.row.ensures (λ d s. limit-injection (shape_of a.s) a.q d c.if-q-eq-INJECTION_QUEUE.true)

pub row-requires-then-own-i : goal.row-requires-then-own-i
row-requires-then-own-i c = let l = small (goal.at.row-requires-then-own-i c).After-size-half in (omega arith, omega arith, omega arith)

-- the direction of the queue, where it is none of an injection queue
direction : (o : After-direction_of-own) (d : ℕ) → o.direction_of-own.result ≡ d → direction_of o.args.q ≡ d
direction o d e = sym o.direction_of-own.ensures ∙ e

pub returns-then-own-i : goal.returns-then-own-i
returns-then-own-i c =
    let a = c.args in
    let ne = c.if-q-eq-INJECTION_QUEUE.false in
    let e = direction (goal.at.returns-then-own-i c).After-direction_of-own (plus a.i) c.if-own-i.true in
    both (shape_of a.s) a.q a.i _ (half_is (goal.at.returns-then-own-i c).After-size-half) _ _ _ c.row-then-own-i.ensures (own (shape_of a.s) a.q a.i _ (half_is (goal.at.returns-then-own-i c).After-size-half) ne (plus a.i) (omega arith) e)
    (sym (limit-back (shape_of a.s) a.q (minus a.i) ne (λ f. omega arith) (omega arith)))

pub row-requires-then-own-i-2 : goal.row-requires-then-own-i-2
row-requires-then-own-i-2 c = let l = small (goal.at.row-requires-then-own-i-2 c).After-size-half in (omega arith, omega arith, omega arith)

pub returns-then-own-i-2 : goal.returns-then-own-i-2
returns-then-own-i-2 c =
    let a = c.args in
    let ne = c.if-q-eq-INJECTION_QUEUE.false in
    let e = direction (goal.at.returns-then-own-i-2 c).After-direction_of-own (minus a.i) c.if-own-i-2.true in
    both (shape_of a.s) a.q a.i _ (half_is (goal.at.returns-then-own-i-2 c).After-size-half) _ _ _ c.row-then-own-i-2.ensures
    (sym (limit-back (shape_of a.s) a.q (plus a.i) ne (λ f. omega arith) (omega arith)))
    (own (shape_of a.s) a.q a.i _ (half_is (goal.at.returns-then-own-i-2 c).After-size-half) ne (minus a.i) (omega arith) e)

pub row-requires-then-q-le-DIRECTIONS : goal.row-requires-then-q-le-DIRECTIONS
row-requires-then-q-le-DIRECTIONS c = let l = small (goal.at.row-requires-then-q-le-DIRECTIONS c).After-size-half in (omega arith, omega arith, omega arith)

other : (c : Else-own-i-2) (d : ℕ) → dimension_of d ≡ c.args.i
    → dimension_of (direction_of c.args.q) ≢ dimension_of d
other c d s e = let n = c.if-own-i-2.false in let m = c.if-own-i.false in let o = c.direction_of-own.ensures in apart _ _ m n (omega arith)
  where
    apart : (own i : ℕ) → own ≢ 2 * i → own ≢ 2 * i + 1 → own / 2 ≡ i → ⊥
    apart own i m n e = omega arith

pub returns-then-q-le-DIRECTIONS : goal.returns-then-q-le-DIRECTIONS
returns-then-q-le-DIRECTIONS c =
    let a = c.args in
    far (shape_of a.s) a.q a.i _ (half_is (goal.at.returns-then-q-le-DIRECTIONS c).After-size-half) _ c.row-then-q-le-DIRECTIONS.ensures
    (λ d s. limit-adaptive (shape_of a.s) a.q d c.if-q-eq-INJECTION_QUEUE.false (other (goal.at.returns-then-q-le-DIRECTIONS c).Else-own-i-2 d s) (le-ltb directions a.q c.if-q-le-DIRECTIONS.true))

pub row-requires-then-own-i-3 : goal.row-requires-then-own-i-3
row-requires-then-own-i-3 c = let l = small (goal.at.row-requires-then-own-i-3 c).After-size-half in (omega arith, omega arith, omega arith)

pub returns-then-own-i-3 : goal.returns-then-own-i-3
returns-then-own-i-3 c =
    let a = c.args in
    let l = c.if-own-i-3.true in
    let own = c.direction_of-own.ensures in
    far (shape_of a.s) a.q a.i _ (half_is (goal.at.returns-then-own-i-3 c).After-size-half) _ c.row-then-own-i-3.ensures (λ d s. limit-higher (shape_of a.s) a.q d c.if-q-eq-INJECTION_QUEUE.false (omega arith))

pub returns : goal.returns
returns c =
    let a = c.args in
    let m = c.if-own-i-3.false in
    let own = c.direction_of-own.ensures in
    alike (shape_of a.s) a.q a.i _ (half_is (goal.at.returns c).After-size-half) _ 1 c.row-2.ensures
    (λ d s. sym (limit-lower (shape_of a.s) a.q d c.if-q-eq-INJECTION_QUEUE.false (lt→ltb directions a.q c.if-q-le-DIRECTIONS.false) (less _ _ _ s (omega arith) (other (goal.at.returns c).Else-own-i-2 d s))))
  where
    less : (d own i : ℕ) → dimension_of d ≡ i → i ≤ own / 2 → own / 2 ≢ dimension_of d → dimension_of d < own / 2
    less d own i s l n = omega arith
