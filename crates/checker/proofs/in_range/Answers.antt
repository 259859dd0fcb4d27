-- `checker::in_range` meets its contract: the first size that is out of range decides. Assumes nothing.
use Rattle.std.proofs.Common.{◌≡◌, sym, ◌∙◌, true}
use Rattle.base.specs.Tests.{all_of}
use Rattle.base.proofs.Bools.{and-stop, and-on}
use Rattle.network.specs.Sizes.{shape_of, within, largest_ring, sizes_in_range}
use Rattle.checker.proofs.in_range.Goals as goal
use Rattle.checker.proofs.in_range.Goals.{Else-not-rings_in_range, Else-not-within, Else-not-within-2}

pub returns-then-not-rings_in_range : goal.returns-then-not-rings_in_range
unfolding sizes_in_range
returns-then-not-rings_in_range c = sym (and-stop _ _ (sym c.rings_in_range.ensures ∙ c.if-not-rings_in_range.true))

passed1 : (c : Else-not-rings_in_range) → all_of (within 1 largest_ring) (shape_of c.args.s).sizes ≡ true
passed1 c = sym c.rings_in_range.ensures ∙ c.if-not-rings_in_range.false

pub returns-then-not-within : goal.returns-then-not-within
unfolding sizes_in_range shape_of
returns-then-not-within c =
    sym
    (and-on _ _ (passed1 (goal.at.returns-then-not-within c).Else-not-rings_in_range)
    ∙ and-stop _ _ (sym c.within.ensures ∙ c.if-not-within.true))

passed2 : (c : Else-not-within) → within 2 8 c.args.s.escape ≡ true
passed2 c = sym c.within.ensures ∙ c.if-not-within.false

pub returns-then-not-within-2 : goal.returns-then-not-within-2
unfolding sizes_in_range shape_of
returns-then-not-within-2 c =
    sym
    (and-on _ _ (passed1 (goal.at.returns-then-not-within-2 c).Else-not-rings_in_range)
    ∙ and-on _ _ (passed2 (goal.at.returns-then-not-within-2 c).Else-not-within)
    ∙ and-stop _ _ (sym c.within-2.ensures ∙ c.if-not-within-2.true))

passed3 : (c : Else-not-within-2) → within 1 8 c.args.s.adaptive ≡ true
passed3 c = sym c.within-2.ensures ∙ c.if-not-within-2.false

pub returns : goal.returns
unfolding sizes_in_range shape_of
returns c =
    c.within-3.ensures
    ∙ sym
    (and-on _ _ (passed1 (goal.at.returns c).Else-not-rings_in_range)
    ∙ and-on _ _ (passed2 (goal.at.returns c).Else-not-within)
    ∙ and-on _ _ (passed3 (goal.at.returns c).Else-not-within-2))
