-- `checker::counters_fit` meets its contract. Assumes nothing.
use Rattle.std.proofs.Common.{ne_eqb, eq-eqb, le-leb, ◌≡◌, sym, ◌∙◌, ◌≢◌, true, false, ℕ, ◌+◌, ◌-◌, ◌<◌, ◌≤◌, arith, leb, eqb}
use borrow.Author.Tests.{lt-leb}
use native.Mathlib.Decide.{dec_le}
use Rattle.base.proofs.Bools.{and-stop, and-on}
use Rattle.network.specs.Layout.{accepted, delivered, moves_made}
use Rattle.network.specs.Check.{counters_fit}
use Rattle.checker.proofs.counters_fit.Goals as goal

-- more delivered than accepted, another number held, the right number
more : (a d h : ℕ) → a < d → eqb (d + h) a ≡ false
more a d h l = ne_eqb (d + h) a (λ e. never e)
  where
    never : d + h ≡ a → ⊥
    never e = omega arith

other : (a d h k : ℕ) → d ≤ a → a - d ≢ h → h ≡ k → eqb (d + k) a ≡ false
other a d h k l ne e = ne_eqb (d + k) a (λ f. ne (omega arith))

right : (a d h k : ℕ) → d ≤ a → a - d ≡ h → h ≡ k → eqb (d + k) a ≡ true
right a d h k l f e = eq-eqb (d + k) a (omega arith)

-- more moves than the bound, and else the bound on the work
over : (m b w : ℕ) → b < m → leb (m + w) b ≡ false
over m b w l = lt-leb (m + w) b (omega arith)

rest : (m b w v : ℕ) → m ≤ b → w ≡ v → leb w (b - m) ≡ leb (m + v) b
rest m b w v l e = go (dec_le w (b - m))
  where
    go : Dec (w ≤ b - m) → leb w (b - m) ≡ leb (m + v) b
    go (yes h) = le-leb w (b - m) h ∙ sym (le-leb (m + v) b (omega arith))
    go (no g) = lt-leb w (b - m) (omega arith) ∙ sym (lt-leb (m + v) b (omega arith))

pub returns-then-accepted-gt-MOST_ACCEPTED : goal.returns-then-accepted-gt-MOST_ACCEPTED
unfolding counters_fit accepted
returns-then-accepted-gt-MOST_ACCEPTED c S eh ew = sym (and-stop _ _ (lt-leb _ _ c.if-accepted-gt-MOST_ACCEPTED.true))

pub returns-then-accepted-delivered : goal.returns-then-accepted-delivered
unfolding counters_fit accepted delivered
returns-then-accepted-delivered c S eh ew = sym (and-on _ _ (le-leb _ _ c.if-accepted-gt-MOST_ACCEPTED.false) ∙ and-stop _ _ (more _ _ _ c.if-accepted-delivered.true))

pub returns-then-accepted-delivered-2 : goal.returns-then-accepted-delivered-2
unfolding counters_fit accepted delivered
returns-then-accepted-delivered-2 c S eh ew = sym (and-on _ _ (le-leb _ _ c.if-accepted-gt-MOST_ACCEPTED.false) ∙ and-stop _ _ (other _ _ _ _ c.if-accepted-delivered.false c.if-accepted-delivered-2.true eh))

pub returns-then-most-moves : goal.returns-then-most-moves
unfolding counters_fit accepted delivered moves_made
returns-then-most-moves c S eh ew =
    sym
    (and-on _ _ (le-leb _ _ c.if-accepted-gt-MOST_ACCEPTED.false)
    ∙ and-on _ _ (right _ _ _ _ c.if-accepted-delivered.false c.if-accepted-delivered-2.false eh)
    ∙ over _ _ _ c.if-most-moves.true)

pub returns : goal.returns
unfolding counters_fit accepted delivered moves_made
returns c S eh ew =
    rest _ _ _ _ c.if-most-moves.false ew
    ∙ sym
    (and-on _ _ (le-leb _ _ c.if-accepted-gt-MOST_ACCEPTED.false)
    ∙ and-on _ _ (right _ _ _ _ c.if-accepted-delivered.false c.if-accepted-delivered-2.false eh))
