-- `rules::wrong_chunks` meets its contract. Assumes nothing.
use Rattle.std.proofs.Common.{◌≡◌, sym, ap, ap₂, ◌∙◌, Bool, true, not, ◌&&◌, ℕ, ◌<◌, arith, le-leb, lt-ltb, le-ltb, leb, ltb}
use native.Mathlib.Decide.{dec_lt}
use borrow.Author.Tests.{lt-leb}
use Rattle.network.specs.Sizes.{within, most_chunks}
use Rattle.network.specs.Refusals.{wrong_chunks}
use Rattle.rules.proofs.wrong_chunks.Goals as goal

none : (c : ℕ) → c ≡ 0 → true ≡ wrong_chunks c
unfolding within
none c e = ap (λ (b : Bool). not (b && leb c most_chunks)) (sym (lt-leb 1 c (omega arith)))

some : (c : ℕ) → 0 < c → ltb most_chunks c ≡ wrong_chunks c
unfolding within
some c h = go (dec_lt most_chunks c)
  where
    go : Dec (most_chunks < c) → ltb most_chunks c ≡ not (leb 1 c && leb c most_chunks)
    go (yes l) = lt-ltb most_chunks c l ∙ sym (ap₂ (λ (a b : Bool). not (a && b)) (le-leb 1 c h) (lt-leb c most_chunks l))
    go (no g) = le-ltb most_chunks c (omega arith) ∙ sym (ap₂ (λ (a b : Bool). not (a && b)) (le-leb 1 c h) (le-leb c most_chunks (omega arith)))

pub returns-then-chunks-eq0 : goal.returns-then-chunks-eq0
returns-then-chunks-eq0 c = none c.args.chunks (omega arith)

pub returns : goal.returns
returns c = some c.args.chunks (omega arith)
