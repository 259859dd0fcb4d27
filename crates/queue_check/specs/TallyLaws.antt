-- Laws of a tally. Order: what one says of a test that passed, and none of one that failed; the tally of a test that fails, or that is another test.
-- Assumes nothing.
use Rattle.std.specs.Prelude.{◌≡◌, refl, Option, Some, None, Bool, true, false, ℕ}
use Rattle.std.proofs.Common.{ap, sym, ◌∙◌}
use Rattle.std.proofs.lemmas.Option.{none-some, same_Some}
use Rattle.queue_check.specs.declared.Tally.{Tally}
use Rattle.queue_check.specs.QueueTally.{tally}

pub record Passed (t : Tally) (b : Bool) (held work : ℕ) : Type 0 where
  pub fits : b ≡ true
  pub packets : t.held ≡ held
  pub hops-left : t.work ≡ work

pub tally-yes : (t : Tally) (b : Bool) (held work : ℕ) → Some t ≡ tally b held work → Passed t b held work
unfolding tally
tally-yes t true held work e =
    let s : t ≡ record { held = held; work = work } = same_Some t (record { held = held; work = work }) e in
    record { fits = refl; packets = ap (λ (u : Tally). u.held) s; hops-left = ap (λ (u : Tally). u.work) s }
tally-yes t false held work e = absurd (none-some t (sym e))

pub tally-no : (b : Bool) (held work : ℕ) → None ≡ tally b held work → b ≡ false
unfolding tally
tally-no true held work e = absurd (none-some (record { held = held; work = work }) e)
tally-no false held work e = refl

-- the tally of a test that fails, or that is another test
pub tally-fails : (b : Bool) (held work : ℕ) → b ≡ false → None ≡ tally b held work
unfolding tally
tally-fails b held work e = ap (λ (c : Bool). tally c held work) (sym e)

pub tally-same : (t : Option Tally) (a b : Bool) (held work : ℕ) → t ≡ tally a held work → b ≡ a → t ≡ tally b held work
tally-same t a b held work u e = u ∙ ap (λ (c : Bool). tally c held work) (sym e)
