-- `checker::rings_in_range` meets its contract: the first size that is out of range decides. Assumes nothing.
use Rattle.std.proofs.Common.{◌≡◌, sym, ◌∙◌, true}
use mathlib.Core.Bool.{and-true}
use Rattle.base.specs.Tests.{all_of}
use Rattle.base.proofs.Bools.{and-stop, and-on}
use Rattle.network.specs.Sizes.{shape_of, within}
use Rattle.checker.proofs.rings_in_range.Goals as goal
use Rattle.checker.proofs.rings_in_range.Goals.{Else-not-within, Else-not-within-2}

pub returns-then-not-within : goal.returns-then-not-within
unfolding all_of shape_of
returns-then-not-within c = sym (and-stop _ _ (sym c.within.ensures ∙ c.if-not-within.true))

passed1 : (c : Else-not-within) → within 1 16 c.args.s.x ≡ true
passed1 c = sym c.within.ensures ∙ c.if-not-within.false

pub returns-then-not-within-2 : goal.returns-then-not-within-2
unfolding all_of shape_of
returns-then-not-within-2 c =
    sym
    (and-on _ _ (passed1 (goal.at.returns-then-not-within-2 c).Else-not-within)
    ∙ and-stop _ _ (sym c.within-2.ensures ∙ c.if-not-within-2.true))

passed2 : (c : Else-not-within-2) → within 1 16 c.args.s.y ≡ true
passed2 c = sym c.within-2.ensures ∙ c.if-not-within-2.false

pub returns : goal.returns
unfolding all_of shape_of
returns c =
    c.within-3.ensures
    ∙ sym
    (and-on _ _ (passed1 (goal.at.returns c).Else-not-within)
    ∙ and-on _ _ (passed2 (goal.at.returns c).Else-not-within-2)
    ∙ and-true _)
