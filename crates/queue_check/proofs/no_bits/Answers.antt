-- `queue_check::no_bits` meets its contract. Assumes nothing.
use Rattle.std.proofs.Common.{◌≡◌, ap, ◌∙◌, ℕ, bit_or, eqb, fold}
use borrow.Author.Rules.{rules}
use Rattle.queue_check.proofs.Zeros.{no_bits-is}
use Rattle.queue_check.proofs.no_bits.Goals as goal
use Rattle.queue_check.proofs.no_bits.Goals.{After-fold}

-- the bits that the words have together
together : (c : After-fold) → c.fold.result ≡ fold bit_or 0 c.args.words.now
together c = search rules

pub returns : goal.returns
returns c = ap (λ (n : ℕ). eqb n 0) (together (goal.at.returns c).After-fold) ∙ no_bits-is c.args.words.now
