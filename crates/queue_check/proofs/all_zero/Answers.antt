-- `queue_check::all_zero` meets its contract. Assumes nothing.
use Rattle.std.proofs.Common.{◌≡◌, ℕ, ap, ap₂, sym, ◌∙◌, Bool, List, ◌&&◌, eqb}
use Rattle.std.specs.List.{list_all}
use Rattle.base.specs.Tests.{all_of}
use Rattle.queue_check.proofs.Zeros.{chunks-is}
use Rattle.queue_check.proofs.all_zero.Goals as goal
use Rattle.queue_check.proofs.all_zero.Goals.{After-each_no_bits}

-- the test of the eights, and that of the rest with it
both : (c : After-each_no_bits) → c.each_no_bits.result && all_of (eqb 0) c.as_chunks.result.1.now ≡ all_of (eqb 0) c.args.words.now
both c =
    ap₂ (λ (a : Bool) (l : List ℕ). a && all_of (eqb 0) l) (c.each_no_bits.ensures ∙ ap (list_all (all_of (eqb 0))) c.as_chunks.ensures.front) c.as_chunks.ensures.back
    ∙ chunks-is (eqb 0) 8 _ c.args.words.now

pub returns-then-each_no_bits : goal.returns-then-each_no_bits
returns-then-each_no_bits c =
    c.no_bits.ensures
    ∙ ap (λ (a : Bool). a && all_of (eqb 0) c.as_chunks.result.1.now) (sym c.if-each_no_bits.true)
    ∙ both (goal.at.returns-then-each_no_bits c).After-each_no_bits

pub returns-else-each_no_bits : goal.returns-else-each_no_bits
returns-else-each_no_bits c =
    c.if-each_no_bits.false
    ∙ ap (λ (a : Bool). a && all_of (eqb 0) c.as_chunks.result.1.now) (sym c.if-each_no_bits.false)
    ∙ both (goal.at.returns-else-each_no_bits c).After-each_no_bits
